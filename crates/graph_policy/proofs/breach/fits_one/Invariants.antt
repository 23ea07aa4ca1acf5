use Rattle.std.proofs.Common.{◌≡◌, map, drop}
use Rattle.std.specs.List.{list_any}
use Rattle.graph_policy.specs.Seen.{edge_texts}
use Rattle.graph_policy.specs.Rules.{edge_fits}
use Rattle.graph_policy.proofs.breach.fits_one.Given as goal

-- the rule fits none of the edges so far
abbrev pub invariant-loop-edge : goal.invariant-loop-edge
invariant-loop-edge l =
    list_any (λ d. edge_fits l.rule d) (map edge_texts l.edges)
    ≡ list_any (λ d. edge_fits l.rule d) (map edge_texts (drop l.edge-index l.edges))
