use Rattle.graph_order.specs.Names.{named}
use Rattle.graph_order.specs.Nodes.{AreNodes}
use Rattle.graph_order.proofs.nodes.nodes_of.Given as goal

-- so many names are placed
abbrev pub invariant-loop-node : goal.invariant-loop-node
invariant-loop-node l = AreNodes l.graph (named l.graph.entries) l.node l.nodes
