-- What a view of variables tells.
use Rattle.std.specs.Prelude.{ℕ, Bool, List, [], ◌∷◌, Option, Some, None, option_map, slice_get}
use Rattle.es_token.specs.declared.token.Token.{Token}
use Rattle.es_grammar.specs.declared.rows.NodeKind.{NodeKind}
use Rattle.es_grammar.specs.declared.rows.NodeKind.TheVariants as l
use Rattle.es_ast.specs.declared.ast.VarDeclarator.{VarDeclarator}
use Rattle.es_lowering.specs.Value.{Value, given, turns, declarator_at}
use Rattle.es_lowering.specs.Operators.{listed, variable_kinds}
use Rattle.es_lowering.specs.Statements.{Variables as AVariables, using_kind}
use Rattle.es_syntax.specs.declared.cursor.Siblings.{Siblings}
use Rattle.es_syntax.specs.Held.{held, valued}
use Rattle.es_syntax.specs.Roles.{declarator_in}
use Rattle.es_syntax.specs.Views.{Under, Within}
use Rattle.es_view_statements.specs.declared.decl.variables.Variables.{Variables}
use Rattle.es_view_statements.specs.declared.decl.variables.Variables.TheVariants as view

-- the alternatives
abbrev pub variable_labels : List NodeKind
variable_labels = l.Variables ∷ l.Using ∷ []

-- ---- each form, of what its parts are
unfoldable pub var_of : Option Token → Option VarDeclarator → Value → Option AVariables
var_of word first others =
    given (given (option_map (λ t. t.kind) word) (listed variable_kinds)) (λ kind.
    given (given first (λ first.
    given (turns (λ turn. declarator_at turn 0) others) (λ others.
    Some (first ∷ others)))) (λ decls. Some (kind, decls)))

unfoldable pub using_of : Bool → Option VarDeclarator → Value → Option AVariables
using_of is_await first others =
    given (given first (λ first.
    given (turns (λ turn. declarator_at turn 0) others) (λ others.
    Some (first ∷ others)))) (λ decls. Some (using_kind is_await, decls))

-- what a view tells
abbrev pub the_variables : List ℕ → List Token → Variables → Option AVariables
the_variables x ts (view.Var word first others) =
    var_of (slice_get ts word) (declarator_in (valued x ts first)) (held x ts others.entries.now)
the_variables x ts (view.Using is_await first others) =
    using_of is_await (declarator_in (valued x ts first)) (held x ts others.entries.now)
the_variables x ts view.Broken = None

-- the parts take fewer entries
abbrev pub IsBelow : Siblings → Variables → Type 0
IsBelow n (view.Var word first others) = Under first n × Within others n
IsBelow n (view.Using is_await first others) = Under first n × Within others n
IsBelow n view.Broken = Unit {0}
