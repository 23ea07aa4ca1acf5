-- What a view of a type of a function tells.
use Rattle.std.specs.Prelude.{ℕ, Bool, true, false, List, [], ◌∷◌, Option, Some, None, option_map, slice_get}
use Rattle.base.specs.declared.range.Range.{Range}
use Rattle.es_token.specs.declared.token.Token.{Token}
use Rattle.es_grammar.specs.declared.rows.NodeKind.{NodeKind}
use Rattle.es_grammar.specs.declared.rows.NodeKind.TheVariants as l
use Rattle.es_ast.specs.declared.ts.ts.TsType.{TsType}
use Rattle.es_ast.specs.declared.ts.ts.TsType.TheVariants as vType
use Rattle.es_ast.specs.declared.ts.ts.TsFnParam.{TsFnParam}
use Rattle.es_lowering.specs.Value.{Value, given, optional, type_at, type_params_at}
use Rattle.es_lowering.specs.Texts.{this_or_name_of}
use Rattle.es_syntax.specs.declared.cursor.Siblings.{Siblings}
use Rattle.es_syntax.specs.Held.{held, valued}
use Rattle.es_syntax.specs.Roles.{fn_params_in, ts_type_in}
use Rattle.es_syntax.specs.Views.{Under, Within}
use Rattle.es_view_types.specs.declared.types.function.FunctionType.{FunctionType}
use Rattle.es_view_types.specs.declared.types.function.FunctionType.TheVariants as view

-- the alternatives
abbrev pub function_types : List NodeKind
function_types = l.FunctionType ∷ l.ConstructorType ∷ l.AssertsResult ∷ l.PredicateResult ∷ []

-- ---- each form, of what its parts are
unfoldable pub function : Range → Value → Option (List TsFnParam) → Option TsType → Option TsType
function r type_params params ty =
    given (optional type_params_at type_params) (λ type_params.
    given params (λ params.
    given ty (λ ty. Some (vType.Fn type_params params ty r))))

unfoldable pub constructor : Range → Bool → Value → Option (List TsFnParam) → Option TsType → Option TsType
constructor r is_abstract type_params params ty =
    given (optional type_params_at type_params) (λ type_params.
    given params (λ params.
    given ty (λ ty. Some (vType.Constructor is_abstract type_params params ty r))))

unfoldable pub asserts : List ℕ → Range → Option Token → Value → Option TsType
asserts x r name ty =
    given (option_map (this_or_name_of x) name) (λ name.
    given (optional type_at ty) (λ ty. Some (vType.Predicate true name ty r)))

unfoldable pub predicate : List ℕ → Range → Option Token → Option TsType → Option TsType
predicate x r name ty =
    given (option_map (this_or_name_of x) name) (λ name.
    given ty (λ ty. Some (vType.Predicate false name (Some ty) r)))

-- what a view tells
abbrev pub the_function : List ℕ → List Token → Range → FunctionType → Option TsType
the_function x ts r (view.Function type_params params ty) =
    function r (held x ts type_params.entries.now) (fn_params_in (valued x ts params)) (ts_type_in (valued x ts ty))
the_function x ts r (view.Constructor is_abstract type_params params ty) =
    constructor r is_abstract (held x ts type_params.entries.now) (fn_params_in (valued x ts params))
    (ts_type_in (valued x ts ty))
the_function x ts r (view.Asserts name ty) = asserts x r (slice_get ts name) (held x ts ty.entries.now)
the_function x ts r (view.Predicate name ty) = predicate x r (slice_get ts name) (ts_type_in (valued x ts ty))
the_function x ts r view.Broken = None

-- the parts take fewer entries
abbrev pub IsBelow : Siblings → FunctionType → Type 0
IsBelow n (view.Function type_params params ty) = Within type_params n × Under params n × Under ty n
IsBelow n (view.Constructor is_abstract type_params params ty) = Within type_params n × Under params n × Under ty n
IsBelow n (view.Asserts name ty) = Within ty n
IsBelow n (view.Predicate name ty) = Under ty n
IsBelow n view.Broken = Unit {0}
