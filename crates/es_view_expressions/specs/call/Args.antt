-- What a view of arguments tells.
use Rattle.std.specs.Prelude.{ℕ, List, [], ◌∷◌, Option, None}
use Rattle.es_token.specs.declared.token.Token.{Token}
use Rattle.es_grammar.specs.declared.rows.NodeKind.{NodeKind}
use Rattle.es_grammar.specs.declared.rows.NodeKind.TheVariants as l
use Rattle.es_ast.specs.declared.ast.Expr.{Expr}
use Rattle.es_lowering.specs.Value.{Value, turns}
use Rattle.es_lowering.specs.Expressions.{argument}
use Rattle.es_syntax.specs.declared.cursor.Siblings.{Siblings}
use Rattle.es_syntax.specs.Held.{held}
use Rattle.es_syntax.specs.Views.{Within}
use Rattle.es_view_expressions.specs.declared.call.args.Args.{Args}
use Rattle.es_view_expressions.specs.declared.call.args.Args.TheVariants as view

-- the alternatives
abbrev pub argument_labels : List NodeKind
argument_labels = l.Arguments ∷ []

-- ---- each form, of what its parts are
unfoldable pub arguments : List Token → Value → Option (List Expr)
arguments ts args = turns (argument ts) args

-- what a view tells
abbrev pub the_args : List ℕ → List Token → Args → Option (List Expr)
the_args x ts (view.Arguments args) = arguments ts (held x ts args.entries.now)
the_args x ts view.Broken = None

-- the parts take fewer entries
abbrev pub IsBelow : Siblings → Args → Type 0
IsBelow n (view.Arguments args) = Within args n
IsBelow n view.Broken = Unit {0}
