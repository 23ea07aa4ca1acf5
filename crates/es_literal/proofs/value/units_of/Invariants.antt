-- The units so far, and those of what is left, are those of the whole.
use Rattle.std.proofs.Common.{◌≡◌, ◌++◌, length}
use Rattle.es_literal.specs.Values.{units_of}
use Rattle.es_literal.proofs.value.units_of.Given as goal

abbrev pub invariant-loop-rest : goal.invariant-loop-rest
invariant-loop-rest l = l.units.items ++ units_of 0 l.rest ≡ units_of 0 l.chars

abbrev pub decreases-loop-rest : goal.decreases-loop-rest
decreases-loop-rest l = length l.rest
