use Rattle.std.proofs.Common.{◌≡◌, ◌++◌, drop, length}
use Rattle.graph_builder.specs.Graph.{texts}
use Rattle.graph_why.specs.Nodes.{names_below}
use Rattle.graph_why.proofs.find.names_of.Given as goal

abbrev pub invariant-loop-node : goal.invariant-loop-node
invariant-loop-node l =
    (l.count ≡ length l.graph.numbered)
    × (texts l.urls ++ names_below l.graph (drop l.node-index l.nodes) ≡ names_below l.graph l.nodes)
