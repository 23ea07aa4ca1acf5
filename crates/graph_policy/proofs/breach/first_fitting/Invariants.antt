use Rattle.std.proofs.Common.{◌≡◌, drop}
use Rattle.graph_policy.specs.Seen.{module_texts}
use Rattle.graph_policy.specs.Rules.{fits}
use Rattle.graph_policy.specs.Breach.{first_place}
use Rattle.graph_policy.proofs.breach.first_fitting.Given as goal

-- none of the rules so far fits
abbrev pub invariant-loop-rule : goal.invariant-loop-rule
invariant-loop-rule l =
    (l.at ≡ l.rule-index)
    × (first_place (λ r. fits r (module_texts l.seen)) 0 l.rules
    ≡ first_place (λ r. fits r (module_texts l.seen)) l.at (drop l.rule-index l.rules))
