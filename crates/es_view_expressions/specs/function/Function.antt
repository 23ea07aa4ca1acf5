-- What a view of a function or a class as an expression tells.
use Rattle.std.specs.Prelude.{ℕ, Bool, false, List, [], ◌∷◌, Option, Some, None, option_map, slice_get}
use Rattle.base.specs.declared.range.Range.{Range}
use Rattle.es_token.specs.declared.token.Token.{Token}
use Rattle.es_grammar.specs.declared.rows.NodeKind.{NodeKind}
use Rattle.es_grammar.specs.declared.rows.NodeKind.TheVariants as l
use Rattle.es_ast.specs.declared.ast.Expr.{Expr}
use Rattle.es_ast.specs.declared.ast.Expr.TheVariants as vExpr
use Rattle.es_ast.specs.declared.ast.Param.{Param}
use Rattle.es_ast.specs.declared.ts.ts.TsPart.TheVariants as vPart
use Rattle.es_lowering.specs.Value.{Value, given, optional, type_at, type_params_at}
use Rattle.es_lowering.specs.Functions.{function, arrow_of, name_param, body_of}
use Rattle.es_lowering.specs.Classes.{class_}
use Rattle.es_lowering.specs.TypedFunctions.{typed_function, typed_class, typed_function_of}
use Rattle.es_syntax.specs.declared.cursor.Siblings.{Siblings}
use Rattle.es_syntax.specs.Held.{held, valued}
use Rattle.es_syntax.specs.Roles.{params_in}
use Rattle.es_syntax.specs.Views.{Under, Within}
use Rattle.es_view_expressions.specs.declared.function.function.Function.{Function}
use Rattle.es_view_expressions.specs.declared.function.function.Function.TheVariants as view

-- the alternatives
abbrev pub functions : List NodeKind
functions =
    l.Function ∷ l.AsyncFunction ∷ l.TypedFunction ∷ l.TypedAsyncFunction ∷ l.Class ∷ l.TypedClass ∷ l.AbstractClass
    ∷ l.NameArrow ∷ l.AsyncNameArrow ∷ l.ParenthesizedArrow ∷ l.AsyncParenthesizedArrow ∷ l.TypedParenthesizedArrow ∷
    l.TypedAsyncParenthesizedArrow ∷ []

-- ---- each form, of what its parts are
unfoldable pub named_arrow : List ℕ → List Token → Range → Bool → Option Token → Value → Option Expr
named_arrow x ts r is_async param body =
    given param (λ t.
    given (body_of ts body) (λ body. Some (arrow_of is_async r (name_param x t ∷ []) body)))

unfoldable pub arrow : List Token → Range → Bool → Option (List Param) → Value → Option Expr
arrow ts r is_async params body =
    given params (λ params.
    given (body_of ts body) (λ body. Some (arrow_of is_async r params body)))

unfoldable pub typed_arrow_of : List Token → Range → Bool → Value → Option (List Param) → Value → Value → Option Expr
typed_arrow_of ts r is_async type_params params return_type body =
    given (option_map (λ ps. option_map vPart.TypeParams ps) (optional type_params_at type_params)) (λ type_params.
    given params (λ params.
    given (option_map (λ ty. option_map vPart.TypeAnn ty) (optional type_at return_type)) (λ return_type.
    given (body_of ts body) (λ body.
    Some (vExpr.Arrow (typed_function_of is_async false r None (type_params, params, return_type) (Some body)))))))

-- what a view tells
abbrev pub the_function : List ℕ → List Token → Range → Function → Option Expr
the_function x ts r (view.Plain is_async parts) =
    option_map vExpr.Fn (function x ts is_async r (held x ts parts.entries.now))
the_function x ts r (view.Typed is_async parts) =
    option_map vExpr.Fn (typed_function x ts is_async r (held x ts parts.entries.now))
the_function x ts r (view.Class parts) = option_map vExpr.Class (class_ x ts r (held x ts parts.entries.now))
the_function x ts r (view.TypedClass is_abstract parts) =
    option_map vExpr.Class (typed_class x ts is_abstract r (held x ts parts.entries.now))
the_function x ts r (view.NameArrow is_async param body) =
    named_arrow x ts r is_async (slice_get ts param) (valued x ts body)
the_function x ts r (view.Arrow is_async params body) =
    arrow ts r is_async (params_in (valued x ts params)) (valued x ts body)
the_function x ts r (view.TypedArrow is_async type_params params return_type body) =
    typed_arrow_of ts r is_async (held x ts type_params.entries.now) (params_in (valued x ts params))
    (held x ts return_type.entries.now) (valued x ts body)
the_function x ts r view.Broken = None

-- the parts take fewer entries
abbrev pub IsBelow : Siblings → Function → Type 0
IsBelow n (view.Plain is_async parts) = Within parts n
IsBelow n (view.Typed is_async parts) = Within parts n
IsBelow n (view.Class parts) = Within parts n
IsBelow n (view.TypedClass is_abstract parts) = Within parts n
IsBelow n (view.NameArrow is_async param body) = Under body n
IsBelow n (view.Arrow is_async params body) = Under params n × Under body n
IsBelow n (view.TypedArrow is_async type_params params return_type body) =
    Within type_params n × Under params n × Within return_type n × Under body n
IsBelow n view.Broken = Unit {0}
