-- What a view of a pattern tells that may have `?` or a type behind it.
use Rattle.std.specs.Prelude.{◌+◌, ℕ, Bool, List, [], ◌∷◌, Option, None, option_map, slice_get}
use Rattle.base.specs.declared.range.Range.{Range}
use Rattle.es_token.specs.declared.token.Token.{Token}
use Rattle.es_grammar.specs.declared.rows.NodeKind.{NodeKind}
use Rattle.es_grammar.specs.declared.rows.NodeKind.TheVariants as l
use Rattle.es_ast.specs.declared.ts.ts.TsPart.{TsPart}
use Rattle.es_ast.specs.declared.ast.Pat.{Pat as APat}
use Rattle.es_ast.specs.declared.ast.Pat.TheVariants as vPat
use Rattle.es_lowering.specs.Value.{Value, turns, pat_at, pat_prop_at}
use Rattle.es_lowering.specs.Texts.{ident_of}
use Rattle.es_lowering.specs.Expressions.{elements}
use Rattle.es_lowering.specs.TypeTexts.{marked}
use Rattle.es_syntax.specs.declared.cursor.Siblings.{Siblings}
use Rattle.es_syntax.specs.Held.{held}
use Rattle.es_syntax.specs.Views.{Within}
use Rattle.es_view_expressions.specs.declared.pattern.marked.Marked.{Marked}
use Rattle.es_view_expressions.specs.declared.pattern.marked.Marked.TheVariants as view

-- the alternatives
abbrev pub marked_patterns : List NodeKind
marked_patterns = l.NamePattern ∷ l.ArrayPattern ∷ l.ObjectPattern ∷ []

-- ---- each form, of what its parts are
-- a pattern with `?` or not, with a type behind it or not, over a range
abbrev pub AMarked : Type 0
AMarked = Bool → Option TsPart → Range → APat

unfoldable pub ident : List ℕ → Option Token → Option AMarked
ident x token = option_map (λ id mark ty r. vPat.Ident (marked mark id) ty r) (option_map (ident_of x) token)

unfoldable pub array : List Token → ℕ → Value → Option AMarked
array ts from elems =
    option_map (λ elems mark ty r. vPat.Array elems mark ty r) (elements vPat.Hole pat_at ts (from + 1) elems)

unfoldable pub object : Value → Option AMarked
object props = option_map (λ props mark ty r. vPat.Object props mark ty r) (turns (λ turn. pat_prop_at turn 0) props)

-- what a view tells
abbrev pub the_marked : List ℕ → List Token → Marked → Option AMarked
the_marked x ts (view.Ident token) = ident x (slice_get ts token)
the_marked x ts (view.Array from elems) = array ts from (held x ts elems.entries.now)
the_marked x ts (view.Object props) = object (held x ts props.entries.now)
the_marked x ts view.Broken = None

-- the parts take fewer entries
abbrev pub IsBelow : Siblings → Marked → Type 0
IsBelow n (view.Ident token) = Unit {0}
IsBelow n (view.Array from elems) = Within elems n
IsBelow n (view.Object props) = Within props n
IsBelow n view.Broken = Unit {0}
