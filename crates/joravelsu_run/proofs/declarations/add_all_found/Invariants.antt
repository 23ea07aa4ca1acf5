use Rattle.std.proofs.Common.{take}
use Rattle.std.specs.List.{flat_map}
use Rattle.graph_report.specs.Adds.{Adds}
use Rattle.joravelsu_run.specs.Declarations.{found_line}
use Rattle.joravelsu_run.proofs.declarations.add_all_found.Given as goal

-- the lines of those so far were added
abbrev pub invariant-loop-it : goal.invariant-loop-it
invariant-loop-it l = Adds l.initial.out l.out (flat_map found_line (take l.it-index l.found))
