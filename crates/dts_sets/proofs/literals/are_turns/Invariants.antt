-- What the turns left lead to, all lead to.
use Rattle.std.proofs.Common.{length}
use Rattle.std.specs.Prelude.{Bool}
use Rattle.es_syntax.specs.Held.{parts_of}
use Rattle.dts_sets.specs.Forms.{Leaned}
use Rattle.dts_sets.proofs.literals.are_turns.Given as goal

abbrev pub invariant-loop-turn : goal.invariant-loop-turn
invariant-loop-turn l =
    (after : Bool) → Leaned l.text l.tokens l.literal after (parts_of l.text l.tokens l.row.entries.now)
    → Leaned l.text l.tokens l.before after (parts_of l.text l.tokens l.turns.entries.now)

abbrev pub decreases-loop-turn : goal.decreases-loop-turn
decreases-loop-turn l = length l.row.entries.now
