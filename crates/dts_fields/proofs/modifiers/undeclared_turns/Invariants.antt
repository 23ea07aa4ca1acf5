-- What is left leads to all.
use Rattle.std.specs.Prelude.{List}
use Rattle.std.proofs.Common.{◌≡◌, ℕ, length, false}
use Rattle.es_syntax.specs.Held.{held}
use Rattle.dts_draft.specs.Drafts.{state_of}
use Rattle.dts_fields.proofs.ModifierLemmas.{ModifiersLeft}
use Rattle.dts_fields.proofs.modifiers.undeclared_turns.Given as goal

abbrev pub invariant-loop-turn : goal.invariant-loop-turn
invariant-loop-turn l =
    (l.out.failed ≡ false → l.initial.out.failed ≡ false)
    × (state_of l.out ≡ state_of l.initial.out)
    × (l.out.failed ≡ false → (x : List ℕ) → ModifiersLeft x l.tokens l.initial.out.row l.out.row
    (held x l.tokens l.modifiers.entries.now) (held x l.tokens l.row.entries.now))

abbrev pub decreases-loop-turn : goal.decreases-loop-turn
decreases-loop-turn l = length l.row.entries.now
