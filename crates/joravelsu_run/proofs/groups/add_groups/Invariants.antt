use Rattle.std.proofs.Common.{take}
use Rattle.std.specs.List.{flat_map}
use Rattle.graph_report.specs.Adds.{Adds}
use Rattle.joravelsu_run.specs.Groups.{group_line}
use Rattle.joravelsu_run.proofs.groups.add_groups.Given as goal

-- the lines of the groups so far were added
abbrev pub invariant-loop-group : goal.invariant-loop-group
invariant-loop-group l = Adds l.initial.out l.out (flat_map group_line (take l.group-index l.groups))
