use Rattle.std.proofs.Common.{take}
use Rattle.std.specs.List.{flat_map}
use Rattle.graph_report.specs.Adds.{Adds}
use Rattle.joravelsu_run.specs.Groups.{member_word}
use Rattle.joravelsu_run.proofs.groups.add_members.Given as goal

-- the members so far were added
abbrev pub invariant-loop-url : goal.invariant-loop-url
invariant-loop-url l = Adds l.initial.out l.out (flat_map member_word (take l.url-index l.members))
