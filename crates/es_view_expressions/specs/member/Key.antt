-- What a view of a key tells.
use Rattle.std.specs.Prelude.{ℕ, true, false, List, [], ◌∷◌, Option, None, option_map, slice_get}
use Rattle.es_token.specs.declared.token.Token.{Token}
use Rattle.es_grammar.specs.declared.rows.NodeKind.{NodeKind}
use Rattle.es_grammar.specs.declared.rows.NodeKind.TheVariants as l
use Rattle.es_ast.specs.declared.leaf.Lit.TheVariants as vLit
use Rattle.es_ast.specs.declared.ast.Expr.{Expr}
use Rattle.es_ast.specs.declared.ast.Expr.TheVariants as vExpr
use Rattle.es_lowering.specs.Value.{given}
use Rattle.es_lowering.specs.Texts.{ident_of, str_of, numeric_of, private_of}
use Rattle.es_lowering.specs.Functions.{Key as AKey}
use Rattle.es_syntax.specs.declared.cursor.Siblings.{Siblings}
use Rattle.es_syntax.specs.Held.{valued}
use Rattle.es_syntax.specs.Roles.{expr_in}
use Rattle.es_syntax.specs.Views.{Under}
use Rattle.es_view_expressions.specs.declared.member.key.Key.{Key}
use Rattle.es_view_expressions.specs.declared.member.key.Key.TheVariants as view

-- the alternatives
abbrev pub keys : List NodeKind
keys = l.WordKey ∷ l.StrKey ∷ l.NumberKey ∷ l.ComputedKey ∷ l.PrivateKey ∷ []

-- ---- each form, of what its parts are
unfoldable pub word : List ℕ → Option Token → Option AKey
word x token = option_map (λ t. (false, vExpr.Ident (ident_of x t))) token

unfoldable pub str : List ℕ → Option Token → Option AKey
str x token = option_map (λ t. (false, vExpr.Lit (vLit.Str (str_of x t)))) token

unfoldable pub number : List ℕ → Option Token → Option AKey
number x token = option_map (λ lit. (false, vExpr.Lit lit)) (given token (numeric_of x))

unfoldable pub computed : Option Expr → Option AKey
computed expr = option_map (λ e. (true, e)) expr

unfoldable pub private : List ℕ → Option Token → Option AKey
private x token = option_map (λ name. (false, vExpr.PrivateName name)) (given token (private_of x))

-- what a view tells
abbrev pub the_key : List ℕ → List Token → Key → Option AKey
the_key x ts (view.Word token) = word x (slice_get ts token)
the_key x ts (view.Str token) = str x (slice_get ts token)
the_key x ts (view.Number token) = number x (slice_get ts token)
the_key x ts (view.Computed expr) = computed (expr_in (valued x ts expr))
the_key x ts (view.Private token) = private x (slice_get ts token)
the_key x ts view.Broken = None

-- the parts take fewer entries
abbrev pub IsBelow : Siblings → Key → Type 0
IsBelow n (view.Word token) = Unit {0}
IsBelow n (view.Str token) = Unit {0}
IsBelow n (view.Number token) = Unit {0}
IsBelow n (view.Computed expr) = Under expr n
IsBelow n (view.Private token) = Unit {0}
IsBelow n view.Broken = Unit {0}
