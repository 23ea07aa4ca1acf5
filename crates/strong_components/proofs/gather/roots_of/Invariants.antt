use Rattle.std.proofs.Common.{◌≡◌, [], length}
use Rattle.strong_components.specs.Gather.{IsGathering}
use Rattle.strong_components.proofs.gather.roots_of.Given as goal

abbrev pub invariant-loop-node : goal.invariant-loop-node
invariant-loop-node l =
    IsGathering l.links l.finished l.gathering.met l.gathering.roots × (l.gathering.pending ≡ [])

abbrev pub decreases-loop-node : goal.decreases-loop-node
decreases-loop-node l = length l.finished
