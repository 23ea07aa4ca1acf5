-- What a view of what stands in a function tells.
use Rattle.std.specs.Prelude.{ℕ, Bool, List, Option, Some, None}
use Rattle.base.specs.declared.range.Range.{Range}
use Rattle.es_token.specs.declared.token.Token.{Token}
use Rattle.es_ast.specs.declared.ast.Stmt.{Stmt}
use Rattle.es_ast.specs.declared.ast.Param.{Param}
use Rattle.es_ast.specs.declared.ast.Function.{Function as AFunction}
use Rattle.es_lowering.specs.Value.{Value, Signature, given}
use Rattle.es_lowering.specs.Texts.{own_name_of}
use Rattle.es_lowering.specs.Functions.{function_of}
use Rattle.es_lowering.specs.TypedFunctions.{typed_function_of}
use Rattle.es_lowering.specs.TypedParts.{body_in}
use Rattle.es_syntax.specs.declared.cursor.Siblings.{Siblings}
use Rattle.es_syntax.specs.Held.{held, valued, there}
use Rattle.es_syntax.specs.Roles.{params_in, signature_in, stmt_in}
use Rattle.es_syntax.specs.Views.{Under, Within, MaybeUnder}
use Rattle.es_view_expressions.specs.declared.function.head.FunctionHead.{FunctionHead}
use Rattle.es_view_expressions.specs.declared.function.head.FunctionHead.TheVariants as view

-- ---- each form, of what its parts are
unfoldable pub plain_function : List ℕ → List Token → Range → Bool → Bool → Value → Option (List Param) → Option Stmt
    → Option AFunction
plain_function x ts r is_async is_generator name params body =
    given (own_name_of x ts name) (λ name.
    given params (λ params.
    given body (λ body. Some (function_of is_async is_generator r name params body))))

unfoldable pub typed_function : List ℕ → List Token → Range → Bool → Bool → Value → Option Signature → Value
    → Option AFunction
typed_function x ts r is_async is_generator name signature body =
    given (own_name_of x ts name) (λ name.
    given signature (λ signature.
    given (body_in body) (λ body. Some (typed_function_of is_async is_generator r name signature body))))

-- what a view tells
abbrev pub the_head : List ℕ → List Token → Range → FunctionHead → Option AFunction
the_head x ts r (view.Plain is_async is_generator name params body) =
    plain_function x ts r is_async is_generator (there x ts name) (params_in (valued x ts params))
    (stmt_in (valued x ts body))
the_head x ts r (view.Typed is_async is_generator name signature body) =
    typed_function x ts r is_async is_generator (there x ts name) (signature_in (valued x ts signature))
    (held x ts body.entries.now)
the_head x ts r view.Broken = None

-- the parts take fewer entries
abbrev pub IsBelow : Siblings → FunctionHead → Type 0
IsBelow n (view.Plain is_async is_generator name params body) = MaybeUnder name n × Under params n × Under body n
IsBelow n (view.Typed is_async is_generator name signature body) =
    MaybeUnder name n × Under signature n × Within body n
IsBelow n view.Broken = Unit {0}
