-- What a view of a pattern tells.
use Rattle.std.specs.Prelude.{◌+◌, ℕ, false, List, [], ◌∷◌, Option, Some, None, option_map, slice_get}
use Rattle.base.specs.declared.range.Range.{Range}
use Rattle.es_token.specs.declared.token.Token.{Token}
use Rattle.es_grammar.specs.declared.rows.NodeKind.{NodeKind}
use Rattle.es_grammar.specs.declared.rows.NodeKind.TheVariants as l
use Rattle.es_ast.specs.declared.ast.Expr.{Expr}
use Rattle.es_ast.specs.declared.ast.Pat.{Pat as APat}
use Rattle.es_ast.specs.declared.ast.Pat.TheVariants as vPat
use Rattle.es_lowering.specs.Value.{Value, given, turns, pat_at, pat_prop_at}
use Rattle.es_lowering.specs.Expressions.{elements}
use Rattle.es_lowering.specs.Patterns.{ident_pat}
use Rattle.es_syntax.specs.declared.cursor.Siblings.{Siblings}
use Rattle.es_syntax.specs.Held.{held, valued}
use Rattle.es_syntax.specs.Roles.{expr_in, pat_in}
use Rattle.es_syntax.specs.Views.{Under, Within}
use Rattle.es_view_expressions.specs.declared.pattern.pat.Pat.{Pat}
use Rattle.es_view_expressions.specs.declared.pattern.pat.Pat.TheVariants as view

-- the alternatives
abbrev pub patterns : List NodeKind
patterns = l.NamePattern ∷ l.ArrayPattern ∷ l.ObjectPattern ∷ l.RestPattern ∷ l.DefaultPattern ∷ []

-- ---- each form, of what its parts are
unfoldable pub ident : List ℕ → Option Token → Option APat
ident x token = option_map (ident_pat x) token

unfoldable pub array : List Token → Range → ℕ → Value → Option APat
array ts r from elems =
    option_map (λ elems. vPat.Array elems false None r) (elements vPat.Hole pat_at ts (from + 1) elems)

unfoldable pub object : Range → Value → Option APat
object r props = option_map (λ props. vPat.Object props false None r) (turns (λ turn. pat_prop_at turn 0) props)

unfoldable pub rest : Range → Option APat → Option APat
rest r arg = option_map (λ arg. vPat.Rest arg None r) arg

unfoldable pub default : Range → Option APat → Option Expr → Option APat
default r left right = given left (λ left. given right (λ right. Some (vPat.Assign left right r)))

unfoldable pub target : Option Expr → Option APat
target expr = option_map vPat.Expr expr

-- what a view tells
abbrev pub the_pat : List ℕ → List Token → Range → Pat → Option APat
the_pat x ts r (view.Ident token) = ident x (slice_get ts token)
the_pat x ts r (view.Array from elems) = array ts r from (held x ts elems.entries.now)
the_pat x ts r (view.Object props) = object r (held x ts props.entries.now)
the_pat x ts r (view.Rest arg) = rest r (pat_in (valued x ts arg))
the_pat x ts r (view.Default left right) = default r (pat_in (valued x ts left)) (expr_in (valued x ts right))
the_pat x ts r (view.Target expr) = target (expr_in (valued x ts expr))
the_pat x ts r view.Broken = None

-- the parts take fewer entries
abbrev pub IsBelow : Siblings → Pat → Type 0
IsBelow n (view.Ident token) = Unit {0}
IsBelow n (view.Array from elems) = Within elems n
IsBelow n (view.Object props) = Within props n
IsBelow n (view.Rest arg) = Under arg n
IsBelow n (view.Default left right) = Under left n × Under right n
IsBelow n (view.Target expr) = Under expr n
IsBelow n view.Broken = Unit {0}
