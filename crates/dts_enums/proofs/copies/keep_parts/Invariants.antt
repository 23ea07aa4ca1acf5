-- What is left leads to all.
use Rattle.std.specs.Prelude.{List}
use Rattle.std.proofs.Common.{◌≡◌, ℕ, length, false}
use Rattle.es_token.specs.declared.token.Token.{Token}
use Rattle.es_syntax.specs.Held.{held}
use Rattle.dts_draft.specs.Drafts.{state_of}
use Rattle.dts_enums.proofs.CopyLemmas.{CopiesLeft}
use Rattle.dts_enums.proofs.copies.keep_parts.Given as goal

abbrev pub invariant-loop-it : goal.invariant-loop-it
invariant-loop-it l =
    (l.out.failed ≡ false → l.initial.out.failed ≡ false)
    × (state_of l.out ≡ state_of l.initial.out)
    × (l.out.failed ≡ false → (x : List ℕ) (ts : List Token) → CopiesLeft x ts l.initial.out.row l.out.row
    (held x ts l.parts.entries.now) (held x ts l.row.entries.now))

abbrev pub decreases-loop-it : goal.decreases-loop-it
decreases-loop-it l = length l.row.entries.now
