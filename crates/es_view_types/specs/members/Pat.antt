-- What a view of a pattern of a parameter of a type tells.
use Rattle.std.specs.Prelude.{◌+◌, ℕ, List, [], ◌∷◌, Option, None, option_map, slice_get}
use Rattle.base.specs.declared.range.Range.{Range}
use Rattle.es_token.specs.declared.token.Token.{Token}
use Rattle.es_grammar.specs.declared.rows.NodeKind.{NodeKind}
use Rattle.es_grammar.specs.declared.rows.NodeKind.TheVariants as l
use Rattle.es_ast.specs.declared.ts.ts.TsParamPat.{TsParamPat}
use Rattle.es_ast.specs.declared.ts.ts.TsParamPat.TheVariants as vPat
use Rattle.es_lowering.specs.Value.{Value, turns, type_pat_at, type_prop_at}
use Rattle.es_lowering.specs.Texts.{ident_of}
use Rattle.es_lowering.specs.Expressions.{elements}
use Rattle.es_syntax.specs.declared.cursor.Siblings.{Siblings}
use Rattle.es_syntax.specs.Held.{held, valued}
use Rattle.es_syntax.specs.Roles.{type_pat_in}
use Rattle.es_syntax.specs.Views.{Under, Within}
use Rattle.es_view_types.specs.declared.members.pat.TypePat.{TypePat}
use Rattle.es_view_types.specs.declared.members.pat.TypePat.TheVariants as view

-- the alternatives
abbrev pub patterns : List NodeKind
patterns = l.NamePatternOfType ∷ l.ArrayPatternOfType ∷ l.ObjectPatternOfType ∷ l.RestPatternOfType ∷ []

-- ---- each form, of what its parts are
unfoldable pub ident : List ℕ → Option Token → Option TsParamPat
ident x token = option_map vPat.Ident (option_map (ident_of x) token)

unfoldable pub array : List Token → Range → ℕ → Value → Option TsParamPat
array ts r from elems = option_map (λ elems. vPat.Array elems r) (elements vPat.Hole type_pat_at ts (from + 1) elems)

unfoldable pub object : Range → Value → Option TsParamPat
object r props = option_map (λ props. vPat.Object props r) (turns (λ turn. type_prop_at turn 0) props)

unfoldable pub rest : Range → Option TsParamPat → Option TsParamPat
rest r arg = option_map (λ arg. vPat.Rest arg r) arg

-- what a view tells
abbrev pub the_pat : List ℕ → List Token → Range → TypePat → Option TsParamPat
the_pat x ts r (view.Ident token) = ident x (slice_get ts token)
the_pat x ts r (view.Array from elems) = array ts r from (held x ts elems.entries.now)
the_pat x ts r (view.Object props) = object r (held x ts props.entries.now)
the_pat x ts r (view.Rest arg) = rest r (type_pat_in (valued x ts arg))
the_pat x ts r view.Broken = None

-- the parts take fewer entries
abbrev pub IsBelow : Siblings → TypePat → Type 0
IsBelow n (view.Ident token) = Unit {0}
IsBelow n (view.Array from elems) = Within elems n
IsBelow n (view.Object props) = Within props n
IsBelow n (view.Rest arg) = Under arg n
IsBelow n view.Broken = Unit {0}
