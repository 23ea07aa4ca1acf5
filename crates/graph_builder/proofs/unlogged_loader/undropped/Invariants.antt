use Rattle.std.proofs.Common.{◌≡◌, ◌-◌, length, drop}
use Rattle.graph_builder.specs.Memory.{next_answered}
use Rattle.graph_builder.proofs.unlogged_loader.undropped.Given as goal

abbrev pub invariant-loop-at : goal.invariant-loop-at
invariant-loop-at l =
    next_answered l.requests.waiting (drop l.from l.arrival) ≡ next_answered l.requests.waiting (drop l.at l.arrival)

abbrev pub decreases-loop-at : goal.decreases-loop-at
decreases-loop-at l = length l.arrival - l.at
