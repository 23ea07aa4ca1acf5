-- What the brackets left lead to, all lead to.
use Rattle.std.proofs.Common.{ℕ, List, length}
use Rattle.std.specs.Prelude.{Bool}
use Rattle.es_token.specs.declared.token.Token.{Token}
use Rattle.es_syntax.specs.Held.{held}
use Rattle.dts_kept.specs.Kept.{Indexes}
use Rattle.dts_kept.proofs.arrays.is_last_empty.Given as goal

abbrev pub invariant-loop-turn : goal.invariant-loop-turn
invariant-loop-turn l =
    (x : List ℕ) (ts : List Token) (after : Bool) → Indexes ts l.empty after (held x ts l.row.entries.now)
    → Indexes ts l.before after (held x ts l.others.entries.now)

abbrev pub decreases-loop-turn : goal.decreases-loop-turn
decreases-loop-turn l = length l.row.entries.now
