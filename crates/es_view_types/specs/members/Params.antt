-- What a view of parameters of a type of a function tells.
use Rattle.std.specs.Prelude.{◌++◌, ℕ, List, [], ◌∷◌, Option, Some, None}
use Rattle.es_token.specs.declared.token.Token.{Token}
use Rattle.es_grammar.specs.declared.rows.NodeKind.{NodeKind}
use Rattle.es_grammar.specs.declared.rows.NodeKind.TheVariants as l
use Rattle.es_ast.specs.declared.ts.ts.TsFnParam.{TsFnParam}
use Rattle.es_lowering.specs.Value.{Value, given, optional, option_list, turns, fn_param_at}
use Rattle.es_lowering.specs.TypePatterns.{rest_at}
use Rattle.es_syntax.specs.declared.cursor.Siblings.{Siblings}
use Rattle.es_syntax.specs.Held.{held}
use Rattle.es_syntax.specs.Views.{Within}
use Rattle.es_view_types.specs.declared.members.params.TypeFnParams.{TypeFnParams}
use Rattle.es_view_types.specs.declared.members.params.TypeFnParams.TheVariants as view

-- the alternatives
abbrev pub parameter_lists : List NodeKind
parameter_lists = l.ParametersOfType ∷ []

-- ---- each form, of what its parts are
unfoldable pub parameters : List Token → Value → Value → Option (List TsFnParam)
parameters ts all rest =
    given (turns (λ turn. fn_param_at turn 0) all) (λ all.
    given (optional (rest_at ts) rest) (λ rest. Some (all ++ option_list rest)))

-- what a view tells
abbrev pub the_params : List ℕ → List Token → TypeFnParams → Option (List TsFnParam)
the_params x ts (view.Params all rest) = parameters ts (held x ts all.entries.now) (held x ts rest.entries.now)
the_params x ts view.Broken = None

-- the parts take fewer entries
abbrev pub IsBelow : Siblings → TypeFnParams → Type 0
IsBelow n (view.Params all rest) = Within all n × Within rest n
IsBelow n view.Broken = Unit {0}
