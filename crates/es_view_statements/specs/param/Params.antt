-- What a view of parameters tells.
use Rattle.std.specs.Prelude.{◌++◌, ℕ, List, [], ◌∷◌, Option, Some, None}
use Rattle.es_token.specs.declared.token.Token.{Token}
use Rattle.es_grammar.specs.declared.rows.NodeKind.{NodeKind}
use Rattle.es_grammar.specs.declared.rows.NodeKind.TheVariants as l
use Rattle.es_ast.specs.declared.ast.Param.{Param}
use Rattle.es_lowering.specs.Value.{Value, given, optional, option_list, turns, param_at}
use Rattle.es_lowering.specs.Functions.{rest_at}
use Rattle.es_lowering.specs.TypedParts.{typed_rest_at}
use Rattle.es_syntax.specs.declared.cursor.Siblings.{Siblings}
use Rattle.es_syntax.specs.Held.{held, valued}
use Rattle.es_syntax.specs.Roles.{params_in}
use Rattle.es_syntax.specs.Views.{Under, Within}
use Rattle.es_view_statements.specs.declared.param.params.Params.{Params}
use Rattle.es_view_statements.specs.declared.param.params.Params.TheVariants as view

-- the alternatives
abbrev pub parameter_lists : List NodeKind
parameter_lists = l.Parameters ∷ l.Signature ∷ l.TypedParameters ∷ []

-- ---- each form, of what its parts are
unfoldable pub plain : List Token → Value → Value → Option (List Param)
plain ts all rest =
    given (turns (λ turn. param_at turn 0) all) (λ all.
    given (optional (rest_at ts) rest) (λ rest. Some (all ++ option_list rest)))

unfoldable pub bracketed : Option (List Param) → Option (List Param)
bracketed params = params

unfoldable pub typed : List Token → Value → Value → Option (List Param)
typed ts all rest =
    given (turns (λ turn. param_at turn 0) all) (λ all.
    given (optional (typed_rest_at ts) rest) (λ rest. Some (all ++ option_list rest)))

-- what a view tells
abbrev pub the_params : List ℕ → List Token → Params → Option (List Param)
the_params x ts (view.Plain all rest) = plain ts (held x ts all.entries.now) (held x ts rest.entries.now)
the_params x ts (view.Signature params) = bracketed (params_in (valued x ts params))
the_params x ts (view.Typed all rest) = typed ts (held x ts all.entries.now) (held x ts rest.entries.now)
the_params x ts view.Broken = None

-- the parts take fewer entries
abbrev pub IsBelow : Siblings → Params → Type 0
IsBelow n (view.Plain all rest) = Within all n × Within rest n
IsBelow n (view.Signature params) = Under params n
IsBelow n (view.Typed all rest) = Within all n × Within rest n
IsBelow n view.Broken = Unit {0}
