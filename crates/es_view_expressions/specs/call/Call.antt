-- What a view of a call tells.
use Rattle.std.specs.Prelude.{ℕ, List, [], ◌∷◌, Option, Some, None, option_map}
use Rattle.base.specs.declared.range.Range.{Range}
use Rattle.es_token.specs.declared.token.Token.{Token}
use Rattle.es_grammar.specs.declared.rows.NodeKind.{NodeKind}
use Rattle.es_grammar.specs.declared.rows.NodeKind.TheVariants as l
use Rattle.es_ast.specs.declared.ast.Expr.{Expr}
use Rattle.es_ast.specs.declared.leaf.ImportPhase.{ImportPhase}
use Rattle.es_ast.specs.declared.ast.Expr.TheVariants as vExpr
use Rattle.es_lowering.specs.Value.{Value, given, optional, option_list, turns, expr_at, args_at, post_at, arguments_at}
use Rattle.es_lowering.specs.Expressions.{Post, chained, new_of}
use Rattle.es_lowering.specs.TypedExpressions.{typed_new_of}
use Rattle.es_ast.specs.declared.ts.ts.TsPart.TheVariants as vPart
use Rattle.es_syntax.specs.declared.cursor.Siblings.{Siblings}
use Rattle.es_syntax.specs.Held.{held, valued}
use Rattle.es_syntax.specs.Roles.{expr_in, post_in}
use Rattle.es_syntax.specs.Views.{Under, Within}
use Rattle.es_view_expressions.specs.declared.call.call.Call.{Call}
use Rattle.es_view_expressions.specs.declared.call.call.Call.TheVariants as view

-- the alternatives
abbrev pub calls : List NodeKind
calls =
    l.Super ∷ l.ImportMeta ∷ l.NewTarget ∷ l.ImportCall ∷ l.SourceCall ∷ l.DeferCall ∷ l.New ∷ l.Chain ∷ l.TypedNew
    ∷ []

-- ---- each form, of what its parts are
unfoldable pub imported : Range → ImportPhase → Option Expr → Value → Option Expr
imported r phase first second =
    given first (λ first.
    given (optional expr_at second) (λ second.
    Some (vExpr.ImportCall phase (first ∷ option_list second) r)))

unfoldable pub newed : Range → Option Expr → Value → Option Expr
newed r callee args = given callee (λ callee. given (optional args_at args) (λ args. Some (new_of r callee args)))

unfoldable pub chained_of : Range → Option Expr → Option Post → Value → Option Expr
chained_of r base first others =
    given base (λ base.
    given first (λ first.
    given (turns (λ turn. post_at turn 0) others) (λ others. Some (chained r.start base (first ∷ others)))))

unfoldable pub typed_newed : Range → Option Expr → Value → Value → Option Expr
typed_newed r callee type_args args =
    given callee (λ callee.
    given (option_map (λ args. option_map vPart.TypeArgs args) (optional arguments_at type_args)) (λ type_args.
    given (optional args_at args) (λ args. Some (typed_new_of r callee type_args args))))

-- what a view tells
abbrev pub the_call : List ℕ → List Token → Range → Call → Option Expr
the_call x ts r view.Super = Some (vExpr.Super r)
the_call x ts r view.ImportMeta = Some (vExpr.ImportMeta r)
the_call x ts r view.NewTarget = Some (vExpr.NewTarget r)
the_call x ts r (view.Import phase first second) =
    imported r phase (expr_in (valued x ts first)) (held x ts second.entries.now)
the_call x ts r (view.New callee args) = newed r (expr_in (valued x ts callee)) (held x ts args.entries.now)
the_call x ts r (view.Chain base first others) =
    chained_of r (expr_in (valued x ts base)) (post_in (valued x ts first)) (held x ts others.entries.now)
the_call x ts r (view.TypedNew callee type_args args) =
    typed_newed r (expr_in (valued x ts callee)) (held x ts type_args.entries.now) (held x ts args.entries.now)
the_call x ts r view.Broken = None

-- the parts take fewer entries
abbrev pub IsBelow : Siblings → Call → Type 0
IsBelow n view.Super = Unit {0}
IsBelow n view.ImportMeta = Unit {0}
IsBelow n view.NewTarget = Unit {0}
IsBelow n (view.Import phase first second) = Under first n × Within second n
IsBelow n (view.New callee args) = Under callee n × Within args n
IsBelow n (view.Chain base first others) = Under base n × Under first n × Within others n
IsBelow n (view.TypedNew callee type_args args) = Under callee n × Within type_args n × Within args n
IsBelow n view.Broken = Unit {0}
