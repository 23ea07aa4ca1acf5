use Rattle.std.proofs.Common.{◌≡◌, map, take}
use Rattle.graph_order.specs.Order.{edge_of}
use Rattle.graph_order.specs.Names.{edge_at}
use Rattle.graph_order.proofs.find.cycle.Given as goal

abbrev pub invariant-loop-link : goal.invariant-loop-link
invariant-loop-link l = map edge_of l.cycle ≡ map (edge_at l.graph.entries) (take l.link-index l.links)
