use Rattle.std.proofs.Common.{take}
use Rattle.std.specs.List.{flat_map}
use Rattle.graph_report.specs.Report.{root_line}
use Rattle.graph_report.specs.Adds.{Adds}
use Rattle.graph_report.proofs.reports.add_roots.Given as goal

-- the lines of the roots so far were added
abbrev pub invariant-loop-root : goal.invariant-loop-root
invariant-loop-root l = Adds l.initial.out l.out (flat_map root_line (take l.root-index l.roots))
