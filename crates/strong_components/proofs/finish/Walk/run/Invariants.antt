use Rattle.std.proofs.Common.{◌≡◌, ℕ, true, false}
use Rattle.std.specs.Prelude.{slice_index_or}
use Rattle.strong_components.specs.Finish.{IsWalk, steps_left}
use Rattle.strong_components.proofs.finish.Walk.run.Given as goal

abbrev pub invariant-loop-node : goal.invariant-loop-node
invariant-loop-node l =
    IsWalk l.links l.self.finished l.self.met l.self.cursor l.self.stack
    × ((v : ℕ) → slice_index_or l.fn.self.met v false ≡ true → slice_index_or l.self.met v false ≡ true)

abbrev pub decreases-loop-node : goal.decreases-loop-node
decreases-loop-node l = steps_left l.self.met l.self.stack
