-- What is left adds what all do.
use Rattle.dts_overloads.specs.Left.{Takes, ahead, weight}
use Rattle.dts_overloads.proofs.walk.walk_all.Given as goal

abbrev pub invariant-loop-frame : goal.invariant-loop-frame
invariant-loop-frame l =
    Takes (ahead l.text l.tokens l.initial.stack) (ahead l.text l.tokens l.stack) l.initial.found l.found

abbrev pub decreases-loop-frame : goal.decreases-loop-frame
decreases-loop-frame l = weight l.stack
