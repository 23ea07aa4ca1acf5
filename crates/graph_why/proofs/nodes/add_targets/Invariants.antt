use Rattle.std.proofs.Common.{◌≡◌, ◌++◌, map, take}
use Rattle.std.specs.List.{filter_map}
use Rattle.graph_entry.specs.Entry.{edge_target}
use Rattle.graph_why.specs.Nodes.{node_of}
use Rattle.graph_why.proofs.nodes.add_targets.Given as goal

abbrev pub invariant-loop-dependency : goal.invariant-loop-dependency
invariant-loop-dependency l =
    l.nodes
    ≡ l.fn.nodes
    ++ map (node_of l.graph.numbered l.sink) (filter_map edge_target (take l.dependency-index l.dependencies))
