use Rattle.std.proofs.Common.{◌≡◌, map, take}
use Rattle.graph_policy.specs.Seen.{module_texts, edge_texts}
use Rattle.graph_check.specs.SeenGraph.{edge_seen}
use Rattle.graph_check.proofs.seen.edges_seen.Given as goal

-- the edges so far are seen
abbrev pub invariant-loop-dependency : goal.invariant-loop-dependency
invariant-loop-dependency l =
    map edge_texts l.seen.items ≡ map (edge_seen l.graph (module_texts l.own)) (take l.dependency-index l.edges)
