use Rattle.std.proofs.Common.{take}
use Rattle.std.specs.List.{flat_map}
use Rattle.graph_report.specs.Adds.{Adds}
use Rattle.joravelsu_run.specs.Ways.{gone_line}
use Rattle.joravelsu_run.proofs.ways.add_gone.Given as goal

-- the lines of what is gone so far were added
abbrev pub invariant-loop-url : goal.invariant-loop-url
invariant-loop-url l = Adds l.initial.out l.out (flat_map gone_line (take l.url-index l.gone))
