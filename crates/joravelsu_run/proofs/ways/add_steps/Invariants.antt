use Rattle.std.proofs.Common.{take}
use Rattle.std.specs.List.{flat_map}
use Rattle.graph_report.specs.Adds.{Adds}
use Rattle.joravelsu_run.specs.Ways.{step_line}
use Rattle.joravelsu_run.proofs.ways.add_steps.Given as goal

-- the lines of the steps so far were added
abbrev pub invariant-loop-step : goal.invariant-loop-step
invariant-loop-step l = Adds l.initial.out l.out (flat_map (step_line l.graph) (take l.step-index l.path))
