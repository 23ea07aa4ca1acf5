-- The bits by now, and the events that are left, are those of all.
use Rattle.std.specs.Prelude.{◌||◌}
use Rattle.std.proofs.Common.{◌≡◌, ℕ, length}
use Rattle.es_mentions.specs.Mentions.{is_gone_token}
use Rattle.es_mentions.specs.Bits.{bit_in}
use Rattle.es_mentions.proofs.gone.gone_tokens.Given as goal

abbrev pub invariant-loop-event : goal.invariant-loop-event
invariant-loop-event l = (n : ℕ) → (bit_in l.bits n || is_gone_token l.row n) ≡ is_gone_token l.events n

abbrev pub decreases-loop-event : goal.decreases-loop-event
decreases-loop-event l = length l.row
