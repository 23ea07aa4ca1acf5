-- What a view of a signature tells.
use Rattle.std.specs.Prelude.{ℕ, List, [], ◌∷◌, Option, Some, None, option_map}
use Rattle.es_token.specs.declared.token.Token.{Token}
use Rattle.es_grammar.specs.declared.rows.NodeKind.{NodeKind}
use Rattle.es_grammar.specs.declared.rows.NodeKind.TheVariants as l
use Rattle.es_ast.specs.declared.ts.ts.TsPart.TheVariants as vPart
use Rattle.es_ast.specs.declared.ast.Param.{Param}
use Rattle.es_lowering.specs.Value.{Value, Signature as ASignature, given, optional, type_at, type_params_at}
use Rattle.es_syntax.specs.declared.cursor.Siblings.{Siblings}
use Rattle.es_syntax.specs.Held.{held, valued}
use Rattle.es_syntax.specs.Roles.{params_in}
use Rattle.es_syntax.specs.Views.{Under, Within}
use Rattle.es_view_statements.specs.declared.param.signature.Signature.{Signature}
use Rattle.es_view_statements.specs.declared.param.signature.Signature.TheVariants as view

-- the alternatives
abbrev pub signatures : List NodeKind
signatures = l.TypedSignature ∷ []

-- ---- each form, of what its parts are
unfoldable pub typed : Value → Option (List Param) → Value → Option ASignature
typed type_params params return_type =
    given (option_map (λ ps. option_map vPart.TypeParams ps) (optional type_params_at type_params)) (λ type_params.
    given params (λ params.
    given (option_map (λ ty. option_map vPart.TypeAnn ty) (optional type_at return_type)) (λ result.
    Some (type_params, params, result))))

-- what a view tells
abbrev pub the_signature : List ℕ → List Token → Signature → Option ASignature
the_signature x ts (view.Typed type_params params return_type) =
    typed (held x ts type_params.entries.now) (params_in (valued x ts params)) (held x ts return_type.entries.now)
the_signature x ts view.Broken = None

-- the parts take fewer entries
abbrev pub IsBelow : Siblings → Signature → Type 0
IsBelow n (view.Typed type_params params return_type) = Within type_params n × Under params n × Within return_type n
IsBelow n view.Broken = Unit {0}
