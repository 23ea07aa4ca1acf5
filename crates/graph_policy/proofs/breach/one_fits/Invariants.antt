use Rattle.std.proofs.Common.{◌≡◌, drop}
use Rattle.std.specs.List.{list_any}
use Rattle.graph_policy.specs.Seen.{module_texts}
use Rattle.graph_policy.specs.Rules.{fits}
use Rattle.graph_policy.proofs.breach.one_fits.Given as goal

-- none of the rules so far fits
abbrev pub invariant-loop-rule : goal.invariant-loop-rule
invariant-loop-rule l =
    list_any (λ r. fits r (module_texts l.seen)) l.rules
    ≡ list_any (λ r. fits r (module_texts l.seen)) (drop l.rule-index l.rules)
