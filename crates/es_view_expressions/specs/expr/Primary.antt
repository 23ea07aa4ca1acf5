-- What a view of a primary expression tells.
use Rattle.std.specs.Prelude.{◌+◌, ◌++◌, ℕ, List, [], ◌∷◌, Option, Some, None, option_map, slice_get}
use Rattle.base.specs.declared.range.Range.{Range}
use Rattle.es_token.specs.declared.token.Token.{Token}
use Rattle.es_grammar.specs.declared.rows.NodeKind.{NodeKind}
use Rattle.es_grammar.specs.declared.rows.NodeKind.TheVariants as l
use Rattle.es_ast.specs.declared.leaf.Lit.TheVariants as vLit
use Rattle.es_ast.specs.declared.ast.Expr.{Expr}
use Rattle.es_ast.specs.declared.ast.Expr.TheVariants as vExpr
use Rattle.es_lowering.specs.Value.{Value, given, turns, expr_at, prop_at}
use Rattle.es_lowering.specs.Texts.{ident_of, numeric_of, str_of, regex_of, piece_of, piece_there}
use Rattle.es_lowering.specs.Expressions.{word_of, elements}
use Rattle.es_syntax.specs.declared.cursor.Siblings.{Siblings}
use Rattle.es_syntax.specs.Held.{held, valued}
use Rattle.es_syntax.specs.Roles.{expr_in}
use Rattle.es_syntax.specs.Views.{Under, Within}
use Rattle.es_view_expressions.specs.declared.expr.primary.Primary.{Primary}
use Rattle.es_view_expressions.specs.declared.expr.primary.Primary.TheVariants as view

-- the alternatives
abbrev pub primaries : List NodeKind
primaries =
    l.Name ∷ l.Word ∷ l.Number ∷ l.Str ∷ l.RegExp ∷ l.Template ∷ l.TemplateParts ∷ l.Parenthesized ∷ l.ArrayLiteral ∷
    l.ObjectLiteral ∷ l.Spread ∷ []

-- ---- each form, of what its parts are
unfoldable pub ident : List ℕ → Option Token → Option Expr
ident x token = option_map (λ t. vExpr.Ident (ident_of x t)) token

unfoldable pub word : Range → Option Token → Option Expr
word r token = given (option_map (λ t. t.kind) token) (word_of r)

unfoldable pub number : List ℕ → Option Token → Option Expr
number x token = option_map vExpr.Lit (given token (numeric_of x))

unfoldable pub str : List ℕ → Option Token → Option Expr
str x token = option_map (λ t. vExpr.Lit (vLit.Str (str_of x t))) token

unfoldable pub regexp : List ℕ → Option Token → Option Expr
regexp x token = option_map (λ t. vExpr.Lit (vLit.Regex (regex_of x t))) token

unfoldable pub template : List ℕ → Range → Option Token → Option Expr
template x r token = option_map (λ piece. vExpr.Tpl (piece ∷ []) [] r) (given token (piece_of x))

-- the turns behind the first hole are each a piece and an expression
unfoldable pub template_parts : List ℕ → List Token → Range → Option Token → Option Expr → Value → Option Token
    → Option Expr
template_parts x ts r head first others tail =
    given (given head (piece_of x)) (λ head.
    given first (λ first.
    given (turns (λ turn. piece_there x ts turn 0) others) (λ middles.
    given (turns (λ turn. expr_at turn 1) others) (λ others.
    given (given tail (piece_of x)) (λ tail.
    Some (vExpr.Tpl (head ∷ (middles ++ tail ∷ [])) (first ∷ others) r))))))

unfoldable pub paren : Range → Option Expr → Option Expr
paren r expr = option_map (λ e. vExpr.Paren e r) expr

unfoldable pub array : List Token → Range → ℕ → Value → Option Expr
array ts r from elems = option_map (λ elems. vExpr.Array elems r) (elements vExpr.Hole expr_at ts (from + 1) elems)

unfoldable pub object : Range → Value → Option Expr
object r props = option_map (λ props. vExpr.Object props r) (turns (λ turn. prop_at turn 0) props)

unfoldable pub spread : Range → Option Expr → Option Expr
spread r expr = option_map (λ e. vExpr.Spread e r) expr

-- what a view tells
abbrev pub the_primary : List ℕ → List Token → Range → Primary → Option Expr
the_primary x ts r (view.Ident token) = ident x (slice_get ts token)
the_primary x ts r (view.Word token) = word r (slice_get ts token)
the_primary x ts r (view.Number token) = number x (slice_get ts token)
the_primary x ts r (view.Str token) = str x (slice_get ts token)
the_primary x ts r (view.RegExp token) = regexp x (slice_get ts token)
the_primary x ts r (view.Template token) = template x r (slice_get ts token)
the_primary x ts r (view.TemplateParts head first others tail) =
    template_parts x ts r (slice_get ts head) (expr_in (valued x ts first)) (held x ts others.entries.now)
    (slice_get ts tail)
the_primary x ts r (view.Paren expr) = paren r (expr_in (valued x ts expr))
the_primary x ts r (view.Array from elems) = array ts r from (held x ts elems.entries.now)
the_primary x ts r (view.Object props) = object r (held x ts props.entries.now)
the_primary x ts r (view.Spread expr) = spread r (expr_in (valued x ts expr))
the_primary x ts r view.Broken = None

-- the parts take fewer entries
abbrev pub IsBelow : Siblings → Primary → Type 0
IsBelow n (view.Ident token) = Unit {0}
IsBelow n (view.Word token) = Unit {0}
IsBelow n (view.Number token) = Unit {0}
IsBelow n (view.Str token) = Unit {0}
IsBelow n (view.RegExp token) = Unit {0}
IsBelow n (view.Template token) = Unit {0}
IsBelow n (view.TemplateParts head first others tail) = Under first n × Within others n
IsBelow n (view.Paren expr) = Under expr n
IsBelow n (view.Array from elems) = Within elems n
IsBelow n (view.Object props) = Within props n
IsBelow n (view.Spread expr) = Under expr n
IsBelow n view.Broken = Unit {0}
