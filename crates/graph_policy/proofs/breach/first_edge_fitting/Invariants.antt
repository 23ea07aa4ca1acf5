use Rattle.std.proofs.Common.{◌≡◌, drop}
use Rattle.graph_policy.specs.Seen.{edge_texts}
use Rattle.graph_policy.specs.Rules.{edge_fits}
use Rattle.graph_policy.specs.Breach.{first_place}
use Rattle.graph_policy.proofs.breach.first_edge_fitting.Given as goal

-- none of the rules so far fits
abbrev pub invariant-loop-rule : goal.invariant-loop-rule
invariant-loop-rule l =
    (l.at ≡ l.rule-index)
    × (first_place (λ r. edge_fits r (edge_texts l.edge)) 0 l.rules
    ≡ first_place (λ r. edge_fits r (edge_texts l.edge)) l.at (drop l.rule-index l.rules))
