-- What a view of the head of a `for` tells.
use Rattle.std.specs.Prelude.{ℕ, Bool, false, List, [], ◌∷◌, Option, Some, None, option_map, slice_get}
use Rattle.base.specs.declared.range.Range.{Range}
use Rattle.es_token.specs.declared.token.Token.{Token}
use Rattle.es_grammar.specs.declared.rows.NodeKind.{NodeKind}
use Rattle.es_grammar.specs.declared.rows.NodeKind.TheVariants as l
use Rattle.es_ast.specs.declared.ts.ts.TsPart.TheVariants as vPart
use Rattle.es_ast.specs.declared.ts.ts.TsPart.{TsPart}
use Rattle.es_ast.specs.declared.ast.Pat.{Pat}
use Rattle.es_ast.specs.declared.ast.Expr.{Expr}
use Rattle.es_lowering.specs.Value.{Value, given, optional, first_of, behind, type_at}
use Rattle.es_lowering.specs.Texts.{span_of}
use Rattle.es_lowering.specs.Operators.{listed, variable_kinds}
use Rattle.es_lowering.specs.Patterns.{ident_pat}
use Rattle.es_lowering.specs.Statements.{Head as AHead, using_kind}
use Rattle.es_lowering.specs.TypedParts.{marked_by}
use Rattle.es_lowering.specs.TypeNames.{behind_in}
use Rattle.es_ast.specs.declared.ast.Pat.TheVariants as vPat
use Rattle.es_syntax.specs.declared.cursor.Siblings.{Siblings}
use Rattle.es_syntax.specs.Held.{held, valued}
use Rattle.es_syntax.specs.Roles.{expr_in, marked_in, pat_in}
use Rattle.es_syntax.specs.Views.{Under, Within}
use Rattle.es_view_statements.specs.declared.decl.head.Head.{Head}
use Rattle.es_view_statements.specs.declared.decl.head.Head.TheVariants as view

-- the alternatives
abbrev pub heads : List NodeKind
heads =
    l.VariableHead ∷ l.UsingHead ∷ l.TypedVariableHead ∷ l.NamePattern ∷ l.ArrayPattern ∷ l.ObjectPattern ∷
    l.RestPattern ∷ l.DefaultPattern ∷ []

-- ---- each form, of what its parts are
-- a pattern with `?` or not, with a type behind it or not, over a range
abbrev pub Marked : Type 0
Marked = Bool → Option TsPart → Range → Pat

unfoldable pub variable : Option Token → Option Pat → Option AHead
variable word name =
    given (given (option_map (λ t. t.kind) word) (listed variable_kinds)) (λ kind.
    given name (λ pat. Some (Some kind, pat)))

unfoldable pub using_of : List ℕ → Bool → Option Token → Option AHead
using_of x is_await name = option_map (λ t. (Some (using_kind is_await), ident_pat x t)) name

-- its pattern stands over this range
unfoldable pub typed : Range → Option Token → Option Marked → Value → Option AHead
typed span word name ty =
    given (given (option_map (λ t. t.kind) word) (listed variable_kinds)) (λ kind.
    given (given (option_map (λ ty. option_map vPart.TypeAnn ty) (optional type_at ty)) (λ ty.
    marked_by name false ty span)) (λ pat.
    Some (Some kind, pat)))

unfoldable pub target : Option Expr → Option AHead
target expr = option_map (λ target. (None, vPat.Expr target)) expr

-- what a view tells
abbrev pub the_head : List ℕ → List Token → Head → Option AHead
the_head x ts (view.Variable word name) = variable (slice_get ts word) (pat_in (valued x ts name))
the_head x ts (view.Using is_await name) = using_of x is_await (slice_get ts name)
the_head x ts (view.Typed word name ty) =
    typed (span_of ts (first_of (valued x ts name))
    (behind_in (held x ts ty.entries.now) (behind (valued x ts name)))) (slice_get ts word)
    (marked_in (valued x ts name)) (held x ts ty.entries.now)
the_head x ts (view.Target expr) = target (expr_in (valued x ts expr))
the_head x ts (view.Pattern node) = option_map (λ target. (None, target)) (pat_in (valued x ts node))
the_head x ts view.Broken = None

-- the parts take fewer entries
abbrev pub IsBelow : Siblings → Head → Type 0
IsBelow n (view.Variable word name) = Under name n
IsBelow n (view.Using is_await name) = Unit {0}
IsBelow n (view.Typed word name ty) = Under name n × Within ty n
IsBelow n (view.Target expr) = Under expr n
IsBelow n (view.Pattern node) = Within node.parts n
IsBelow n view.Broken = Unit {0}
