-- Whether it is one of those left.
use Rattle.std.proofs.Common.{◌≡◌, length}
use Rattle.dts_sets.specs.Ids.{has_number}
use Rattle.dts_sets.proofs.ids.has.Given as goal

abbrev pub invariant-loop-first : goal.invariant-loop-first
invariant-loop-first l = has_number l.row l.number ≡ has_number l.numbers l.number

abbrev pub decreases-loop-first : goal.decreases-loop-first
decreases-loop-first l = length l.row
