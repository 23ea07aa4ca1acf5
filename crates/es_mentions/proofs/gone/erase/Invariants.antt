-- The bits from the first one up to here are set.
use Rattle.std.specs.Prelude.{◌||◌, ◌&&◌, nat_le, nat_lt}
use Rattle.std.proofs.Common.{◌≡◌, ◌≤◌, ◌<◌, ◌+◌, ℕ, length, ◌-◌}
use Rattle.es_mentions.specs.Bits.{bit_in}
use Rattle.es_mentions.proofs.gone.erase.Given as goal

abbrev pub invariant-loop-at : goal.invariant-loop-at
invariant-loop-at l =
    (l.from ≤ l.at) × (l.at ≤ l.last + 1) × (l.last < length l.bits)
    × ((n : ℕ) → bit_in l.bits n ≡ (bit_in l.initial.bits n || (nat_le l.from n && nat_lt n l.at)))

abbrev pub decreases-loop-at : goal.decreases-loop-at
decreases-loop-at l = l.last + 1 - l.at
