use Rattle.std.proofs.Common.{◌≡◌, drop}
use Rattle.std.specs.List.{list_any}
use Rattle.graph_policy.specs.Seen.{edge_texts}
use Rattle.graph_policy.specs.Rules.{edge_fits}
use Rattle.graph_policy.proofs.breach.one_edge_fits.Given as goal

-- none of the rules so far fits
abbrev pub invariant-loop-rule : goal.invariant-loop-rule
invariant-loop-rule l =
    list_any (λ r. edge_fits r (edge_texts l.edge)) l.rules
    ≡ list_any (λ r. edge_fits r (edge_texts l.edge)) (drop l.rule-index l.rules)
