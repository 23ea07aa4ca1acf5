use Rattle.std.proofs.Common.{◌-◌, ◌≤◌}
use Rattle.import_map.specs.Fronts.{IsCut}
use Rattle.import_map.proofs.fronts.upto.Given as goal

-- the keys below are no greater, and those from the upper place on are
abbrev pub invariant-loop-low : goal.invariant-loop-low
invariant-loop-low g l = IsCut l.table l.sought l.low l.high × (l.low ≤ l.high)

abbrev pub decreases-loop-low : goal.decreases-loop-low
decreases-loop-low g l = l.high - l.low
