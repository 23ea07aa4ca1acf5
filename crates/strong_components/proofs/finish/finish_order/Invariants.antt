use Rattle.std.proofs.Common.{◌≡◌, ◌<◌, ℕ, true, false, []}
use Rattle.std.specs.Prelude.{slice_index_or}
use Rattle.strong_components.specs.Finish.{IsWalk}
use Rattle.strong_components.proofs.finish.finish_order.Given as goal

abbrev pub invariant-loop-node : goal.invariant-loop-node
invariant-loop-node l =
    IsWalk l.links l.walk.finished l.walk.met l.walk.cursor l.walk.stack
    × (l.walk.stack ≡ [])
    × ((v : ℕ) → v < l.node → slice_index_or l.walk.met v false ≡ true)
