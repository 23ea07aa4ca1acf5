use Rattle.std.proofs.Common.{take}
use Rattle.std.specs.List.{flat_map}
use Rattle.graph_report.specs.Orders.{order_line}
use Rattle.graph_report.specs.Adds.{Adds}
use Rattle.graph_report.proofs.orders.add_sorted.Given as goal

-- the lines of the modules so far were added
abbrev pub invariant-loop-url : goal.invariant-loop-url
invariant-loop-url l = Adds l.initial.out l.out (flat_map order_line (take l.url-index l.list))
