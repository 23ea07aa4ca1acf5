use Rattle.std.proofs.Common.{take}
use Rattle.std.specs.List.{flat_map}
use Rattle.graph_report.specs.Report.{import_lines}
use Rattle.graph_report.specs.Adds.{Adds}
use Rattle.graph_report.proofs.reports.add_imports.Given as goal

-- the lines of the referrers so far were added
abbrev pub invariant-loop-place : goal.invariant-loop-place
invariant-loop-place l = Adds l.initial.out l.out (flat_map import_lines (take l.place-index l.places))
