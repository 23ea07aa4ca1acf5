-- No other bit is set.
use Rattle.std.proofs.Common.{◌≡◌, ℕ, length, ◌-◌}
use Rattle.es_mentions.specs.Bits.{bit_in}
use Rattle.es_mentions.proofs.gone.grow.Given as goal

abbrev pub invariant-loop-bits : goal.invariant-loop-bits
invariant-loop-bits l = (n : ℕ) → bit_in l.bits n ≡ bit_in l.initial.bits n

abbrev pub decreases-loop-bits : goal.decreases-loop-bits
decreases-loop-bits l = l.count - length l.bits
