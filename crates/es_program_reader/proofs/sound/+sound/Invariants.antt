-- It goes down by the entries below; of a loop, what is left decides.
use Rattle.std.proofs.Common.{◌≡◌, ◌+◌, ◌*◌, ◌≤◌, length}
use Rattle.es_program_reader.specs.Sound.{are_sound}
use Rattle.es_program_reader.specs.Rows.{trees_at, turns_sound}
use Rattle.es_program_reader.proofs.sound.+sound.Given as goal

abbrev pub decreases-unsound_at : goal.decreases-unsound_at
decreases-unsound_at l = 4 * length l.item.parts.entries.now + 3

abbrev pub decreases-unsound_target : goal.decreases-unsound_target
decreases-unsound_target l = 4 * length l.parts.entries.now + 2

abbrev pub decreases-unsound_leaning : goal.decreases-unsound_leaning
decreases-unsound_leaning l = 4 * length l.parts.entries.now + 2

abbrev pub decreases-unsound_turns : goal.decreases-unsound_turns
decreases-unsound_turns l = 4 * length l.turns.entries.now + 1

abbrev pub decreases-unsound_in : goal.decreases-unsound_in
decreases-unsound_in l = 4 * length l.parts.entries.now

abbrev pub invariant-unsound_turns-loop-turn : goal.invariant-unsound_turns-loop-turn
invariant-unsound_turns-loop-turn l =
    (turns_sound (trees_at l.row) ≡ turns_sound (trees_at l.fn.turns))
    × (length l.row.entries.now ≤ length l.fn.turns.entries.now)

abbrev pub decreases-unsound_turns-loop-turn : goal.decreases-unsound_turns-loop-turn
decreases-unsound_turns-loop-turn l = length l.row.entries.now

abbrev pub invariant-unsound_in-loop-item : goal.invariant-unsound_in-loop-item
invariant-unsound_in-loop-item l =
    (are_sound (trees_at l.row) ≡ are_sound (trees_at l.fn.parts))
    × (length l.row.entries.now ≤ length l.fn.parts.entries.now)

abbrev pub decreases-unsound_in-loop-item : goal.decreases-unsound_in-loop-item
decreases-unsound_in-loop-item l = length l.row.entries.now
