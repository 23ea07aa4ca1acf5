-- What is left decides.
use Rattle.std.proofs.Common.{◌≡◌, length}
use Rattle.es_program_reader.specs.Sound.{behind_turns}
use Rattle.es_program_reader.specs.Rows.{trees_at}
use Rattle.es_program_reader.proofs.simple.behind_turns.Given as goal

abbrev pub invariant-loop-turn : goal.invariant-loop-turn
invariant-loop-turn l = behind_turns l.ends (trees_at l.row) ≡ behind_turns l.fn.before (trees_at l.fn.turns)

abbrev pub decreases-loop-turn : goal.decreases-loop-turn
decreases-loop-turn l = length l.row.entries.now
