use Rattle.std.proofs.Common.{◌≡◌, true, false}
use Rattle.std.specs.Prelude.{slice_index_or}
use Rattle.strong_components.specs.Finish.{steps_left}
use Rattle.strong_components.specs.Gather.{IsSpread}
use Rattle.strong_components.proofs.gather.Gathering.gather.Given as goal

abbrev pub invariant-loop-at : goal.invariant-loop-at
invariant-loop-at l =
    IsSpread l.links l.node l.fn.self.met l.fn.self.roots l.self.met l.self.roots l.self.pending (λ _. false)
    × (slice_index_or l.self.met l.node false ≡ true)

abbrev pub decreases-loop-at : goal.decreases-loop-at
decreases-loop-at l = steps_left l.self.met l.self.pending
