use Rattle.std.proofs.Common.{take}
use Rattle.std.specs.List.{flat_map}
use Rattle.graph_report.specs.Report.{edge_line}
use Rattle.graph_report.specs.Adds.{Adds}
use Rattle.graph_report.proofs.reports.add_edges.Given as goal

-- the lines of the edges so far were added
abbrev pub invariant-loop-edge : goal.invariant-loop-edge
invariant-loop-edge l = Adds l.initial.out l.out (flat_map edge_line (take l.edge-index l.edges))
