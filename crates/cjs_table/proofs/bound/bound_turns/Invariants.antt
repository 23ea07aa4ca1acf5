-- What is left of the declarators adds what all do.
use Rattle.std.proofs.Common.{length}
use Rattle.es_syntax.specs.Held.{held}
use Rattle.cjs_table.proofs.BoundForms.{BoundLeft}
use Rattle.cjs_table.proofs.bound.bound_turns.Given as goal

abbrev pub invariant-loop-turn : goal.invariant-loop-turn
invariant-loop-turn l =
    BoundLeft l.initial.found l.found (held l.text l.tokens l.all.entries.now)
    (held l.text l.tokens l.row.entries.now)

abbrev pub decreases-loop-turn : goal.decreases-loop-turn
decreases-loop-turn l = length l.row.entries.now
