-- What is left decides.
use Rattle.std.proofs.Common.{◌≡◌, length}
use Rattle.es_program_reader.specs.Rows.{trees_at, all_assert}
use Rattle.es_program_reader.proofs.simple.all_assert.Given as goal

abbrev pub invariant-loop-turn : goal.invariant-loop-turn
invariant-loop-turn l = all_assert (trees_at l.row) ≡ all_assert (trees_at l.fn.turns)

abbrev pub decreases-loop-turn : goal.decreases-loop-turn
decreases-loop-turn l = length l.row.entries.now
