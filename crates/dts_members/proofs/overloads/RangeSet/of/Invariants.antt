-- What is in, and what is left.
use Rattle.std.proofs.Common.{◌≡◌, length}
use Rattle.std.specs.Prelude.{◌||◌}
use Rattle.base.specs.declared.range.Range.{Range}
use Rattle.dts_rules.specs.Ranges.{has_range}
use Rattle.dts_members.proofs.overloads.RangeSet.of.Given as goal

abbrev pub invariant-loop-first : goal.invariant-loop-first
invariant-loop-first l = (r : Range) → has_range l.ranges r ≡ (has_range l.all r || has_range l.row r)

abbrev pub decreases-loop-first : goal.decreases-loop-first
decreases-loop-first l = length l.row
