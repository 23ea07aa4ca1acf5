-- What is met by now and what is left are what is met in the whole.
use Rattle.std.proofs.Common.{◌≡◌, ◌++◌}
use Rattle.es_walk.specs.Walk.{found}
use Rattle.es_walk.specs.Rows.{part_in}
use Rattle.es_walk.specs.Left.{ahead, weight}
use Rattle.es_walk.proofs.levels.walk.Given as goal

abbrev pub invariant-loop-frame : goal.invariant-loop-frame
invariant-loop-frame g l =
    l.out ++ ahead (g.P.Walk.rules l.by) l.stack
    ≡ l.initial.out ++ found (part_in (g.P.Walk.rules l.by) l.item) l.fn.here

abbrev pub decreases-loop-frame : goal.decreases-loop-frame
decreases-loop-frame g l = weight l.stack
