-- The text with other string literals in the places of some of its own, its tokens and its tree.
use Rattle.std.specs.Prelude.{ℕ, List, [], ◌∷◌, map, Option, Some, None, if◌then◌else◌}
use Rattle.base.specs.declared.range.Range.{Range}
use Rattle.es_token.specs.declared.token.Token.{Token}
use Rattle.es_ast.specs.declared.ast.Program.{Program}
use Rattle.source_text.specs.declared.text_changes.change.TextChange.{TextChange}
use Rattle.source_text.specs.text_changes.Changes as text
use Rattle.es_law_edits.specs.tokens.Moved.{is_range, moved, token_to}
use Rattle.es_law_edits.specs.moved.Move.{Move}
use Rattle.es_law_edits.specs.moved.Trees as trees

abbrev pub edited : List ℕ → List TextChange → List ℕ
edited x changes = text.changed x 0 changes

abbrev pub tokens_to : List TextChange → List Token → List Token
tokens_to changes ts = map (token_to (moved changes)) ts

-- the new text of the change of this range, where there is one
unfoldable pub new_at : List TextChange → Range → Option (List ℕ)
new_at [] r = None
new_at (c ∷ cs) r = if is_range c.range r then Some c.new_text else new_at cs r

-- what the changes do to places and to literals
abbrev pub move_of : List TextChange → Move
move_of changes = record { place = moved changes; other = new_at changes }

-- the old tree, where each literal in whose place another was put has its value and its spelling, and all places have
-- moved
abbrev pub moved_program : List TextChange → Program → Program
moved_program changes tree = trees.moved_program (move_of changes) tree
