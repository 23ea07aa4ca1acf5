use Rattle.std.proofs.Common.{take}
use Rattle.std.specs.List.{flat_map}
use Rattle.graph_report.specs.Adds.{Adds}
use Rattle.vendor_report.specs.Plans.{later_file}
use Rattle.vendor_report.proofs.modules.add_files.Given as goal

-- those so far were added
abbrev pub invariant-loop-file : goal.invariant-loop-file
invariant-loop-file l = Adds l.initial.out l.out (flat_map later_file (take l.file-index l.files))
