-- Values nest.
use Rattle.std.specs.Prelude.{Bool, List}
use Rattle.std.proofs.Common.{ℕ, length, ◌+◌, ◌*◌, ◌≤◌}
use Rattle.es_syntax.specs.Held.{held, parts_of}
use Rattle.dts_rules.specs.Rules.{Env}
use Rattle.dts_enums.specs.Forms.{Leaned, AllStart}
use Rattle.dts_enums.proofs.values.+values.Given as goal

abbrev pub decreases-starts_enum : goal.decreases-starts_enum
decreases-starts_enum l = 8 * length l.it.now.parts.entries.now + 5

abbrev pub decreases-own_value : goal.decreases-own_value
decreases-own_value l = 8 * length l.parts.now.entries.now + 4

abbrev pub decreases-is_binary : goal.decreases-is_binary
decreases-is_binary l = 8 * length l.parts.now.entries.now + 3

abbrev pub decreases-is_template : goal.decreases-is_template
decreases-is_template l = 8 * length l.parts.now.entries.now + 3

abbrev pub decreases-is_paren : goal.decreases-is_paren
decreases-is_paren l = 8 * length l.parts.now.entries.now + 3

abbrev pub decreases-is_member : goal.decreases-is_member
decreases-is_member l = 8 * length l.parts.now.entries.now + 3

abbrev pub decreases-is_typed : goal.decreases-is_typed
decreases-is_typed l = 8 * length l.parts.now.entries.now + 3

abbrev pub decreases-is_leaning : goal.decreases-is_leaning
decreases-is_leaning l = 8 * length l.parts.now.entries.now + 4

abbrev pub decreases-are_turns : goal.decreases-are_turns
decreases-are_turns l = 8 * length l.turns.now.entries.now + 3

abbrev pub decreases-is_turn : goal.decreases-is_turn
decreases-is_turn l = 8 * length l.turn.now.parts.entries.now + 3

abbrev pub decreases-is_turned : goal.decreases-is_turned
decreases-is_turned l = 8 * length l.g.now.entries.now + 2

abbrev pub decreases-are_pieces : goal.decreases-are_pieces
decreases-are_pieces l = 8 * length l.turns.now.entries.now + 2

abbrev pub decreases-is_piece : goal.decreases-is_piece
decreases-is_piece l = 8 * length l.turn.now.parts.entries.now + 1

-- ---- loops: what is left leads to what all lead to
abbrev pub invariant-are_turns-loop-turn : goal.invariant-are_turns-loop-turn
invariant-are_turns-loop-turn l =
    (length l.row.entries.now ≤ length l.turns.entries.now)
    × ((x : List ℕ) (env : Env) (after : Bool)
    → Leaned env x l.tokens l.lean l.there after (parts_of x l.tokens l.row.entries.now)
    → Leaned env x l.tokens l.lean l.before after (parts_of x l.tokens l.turns.entries.now))

abbrev pub decreases-are_turns-loop-turn : goal.decreases-are_turns-loop-turn
decreases-are_turns-loop-turn l = length l.row.entries.now

abbrev pub invariant-are_pieces-loop-turn : goal.invariant-are_pieces-loop-turn
invariant-are_pieces-loop-turn l =
    (length l.row.entries.now ≤ length l.turns.entries.now)
    × ((x : List ℕ) (env : Env) (after : Bool) → AllStart env l.there after (held x l.tokens l.row.entries.now)
    → AllStart env l.before after (held x l.tokens l.turns.entries.now))

abbrev pub decreases-are_pieces-loop-turn : goal.decreases-are_pieces-loop-turn
decreases-are_pieces-loop-turn l = length l.row.entries.now
