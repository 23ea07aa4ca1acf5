use Rattle.std.proofs.Common.{◌≡◌, drop}
use Rattle.graph_policy.specs.Seen.{entry_texts}
use Rattle.graph_policy.specs.Breach.{first_place, lacks}
use Rattle.graph_policy.proofs.breach.first_lacking.Given as goal

-- the entry lacks nothing that the rules so far require
abbrev pub invariant-loop-rule : goal.invariant-loop-rule
invariant-loop-rule l =
    (l.at ≡ l.rule-index)
    × (first_place (λ r. lacks r (entry_texts l.seen)) 0 l.rules
    ≡ first_place (λ r. lacks r (entry_texts l.seen)) l.at (drop l.rule-index l.rules))
