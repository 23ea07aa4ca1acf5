-- What is kept by now, and of the marks that are left, is what is kept of all.
use Rattle.std.specs.Prelude.{filter}
use Rattle.std.proofs.Common.{◌≡◌, ◌++◌, length}
use Rattle.es_mentions.specs.Bits.{lives_by}
use Rattle.es_mentions.proofs.gone.living.Given as goal

abbrev pub invariant-loop-mark : goal.invariant-loop-mark
invariant-loop-mark l = l.out ++ filter (lives_by l.bits) l.row ≡ filter (lives_by l.bits) l.marks

abbrev pub decreases-loop-mark : goal.decreases-loop-mark
decreases-loop-mark l = length l.row
