use Rattle.std.proofs.Common.{take}
use Rattle.std.specs.List.{AllByRecursion}
use Rattle.graph_builder.specs.ByText.{keys_at}
use Rattle.graph_order.specs.Names.{LeadsTo}
use Rattle.graph_order.proofs.check.leads_back.Given as goal

abbrev pub invariant-loop-edge : goal.invariant-loop-edge
invariant-loop-edge l = AllByRecursion (LeadsTo l.graph.entries (keys_at l.placed)) (take l.edge-index l.all)
