-- Reading of rows of which some are kept.
use Rattle.std.specs.Prelude.{◌≡◌, ℕ, false, is_some, Bool, List, Result}
use denote.Ref.{MutBor}
use Rattle.grammar_theory.specs.declared.error.SyntaxError.{SyntaxError}
use Rattle.es_grammar.specs.declared.types.rows.TypeRow.{TypeRow}
use Rattle.es_lookahead.specs.declared.ends.Angle.{Angle}
use Rattle.es_lookahead.specs.Ends.{AreRight, end_in}
use Rattle.es_rules.specs.declared.cursor.Input.{Input}
use Rattle.es_rules.specs.declared.cursor.Cursor.{Cursor}
use Rattle.es_rules.specs.Steps.{keys_in, IsRead}
use Rattle.es_type_rules.specs.declared.ends.kept.Room.{Room}
use Rattle.es_type_rules.specs.ends.Kept.{kept_at}

-- something is known of the row there
abbrev pub is_kept : List Angle → TypeRow → ℕ → Bool
is_kept angles r at = is_some (end_in angles r at)

-- a function value that reads each row where so many may stand on a path, by what is kept
pub record IsKeptRing (input : Input) (room : Room) (pre : Input → Room → TypeRow → MutBor Cursor → Type 0)
    (post : Input → Room → TypeRow → MutBor Cursor → Result ℕ SyntaxError → MutBor Cursor → Type 0) : Type 0 where
  pub rights : AreRight (keys_in input) room.angles.now
  pub silent : input.keeps ≡ false
  pub callable : (r : TypeRow) (old : MutBor Cursor) → pre input room r old
  pub reads : (r : TypeRow) (old new : MutBor Cursor) (answer : Result ℕ SyntaxError) → post input room r old answer new
      → IsRead input.keeps (kept_at (keys_in input) (is_kept room.angles.now) room.rows r old.now.at) old.now.row new.now
      answer
