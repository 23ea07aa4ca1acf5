use Rattle.std.proofs.Common.{◌≡◌, length}
use Rattle.es_references.specs.References.{has_end}
use Rattle.es_references.proofs.parts.has_end.Given as goal

-- what is left holds `/>` where the text does
abbrev pub invariant-loop-tail : goal.invariant-loop-tail
invariant-loop-tail l = has_end l.rest ≡ has_end l.fn.text

abbrev pub decreases-loop-tail : goal.decreases-loop-tail
decreases-loop-tail l = length l.rest
