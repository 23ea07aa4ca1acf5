use Rattle.std.proofs.Common.{take}
use Rattle.std.specs.List.{flat_map}
use Rattle.graph_report.specs.Orders.{cycle_line}
use Rattle.graph_report.specs.Adds.{Adds}
use Rattle.graph_report.proofs.orders.add_cycle.Given as goal

-- the lines of the edges so far were added
abbrev pub invariant-loop-edge : goal.invariant-loop-edge
invariant-loop-edge l = Adds l.initial.out l.out (flat_map (cycle_line l.graph) (take l.edge-index l.cycle))
