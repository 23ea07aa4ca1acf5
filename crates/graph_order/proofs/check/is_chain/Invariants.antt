use Rattle.std.proofs.Common.{map, take}
use Rattle.graph_entry.specs.Specifier.{text_of}
use Rattle.graph_order.specs.Order.{IsChain, edge_of}
use Rattle.graph_order.proofs.check.is_chain.Given as goal

abbrev pub invariant-loop-edge : goal.invariant-loop-edge
invariant-loop-edge l =
    IsChain l.graph.entries (text_of l.first) (map edge_of (take l.edge-index l.edges)) (text_of l.at)
