-- What a view of a further part of a chain tells.
use Rattle.std.specs.Prelude.{ℕ, false, List, [], ◌∷◌, Option, Some, None, option_map, slice_get}
use Rattle.base.specs.declared.range.Range.{Range}
use Rattle.es_token.specs.declared.token.Token.{Token}
use Rattle.es_grammar.specs.declared.rows.NodeKind.{NodeKind}
use Rattle.es_grammar.specs.declared.rows.NodeKind.TheVariants as l
use Rattle.es_ast.specs.declared.ts.ts.TsPart.TheVariants as vPart
use Rattle.es_ast.specs.declared.ast.Expr.{Expr}
use Rattle.es_lowering.specs.Value.{Value, given, optional, arguments_at}
use Rattle.es_lowering.specs.Texts.{property_of}
use Rattle.es_lowering.specs.Expressions.{Post as APost, member_of, index_of, call_of, tagged_of, optional_of}
use Rattle.es_lowering.specs.TypedExpressions.{typed_call_of, typed_tagged_of, typed_optional_of, non_null_of}
use Rattle.es_syntax.specs.declared.cursor.Siblings.{Siblings}
use Rattle.es_syntax.specs.Held.{held, valued}
use Rattle.es_syntax.specs.Roles.{args_in, expr_in}
use Rattle.es_syntax.specs.Views.{Under, Within}
use Rattle.es_view_expressions.specs.declared.call.post.Post.{Post}
use Rattle.es_view_expressions.specs.declared.call.post.Post.TheVariants as view

-- the alternatives
abbrev pub posts : List NodeKind
posts =
    l.MemberPost ∷ l.IndexPost ∷ l.CallPost ∷ l.TemplatePost ∷ l.OptionalPost ∷ l.TypedCallPost ∷ l.TypedTemplatePost
    ∷ l.TypedOptionalPost ∷ l.NonNullPost ∷ []

-- ---- each form, of what its parts are
unfoldable pub member : List ℕ → Range → Option Token → Option APost
member x r name = option_map (member_of false r) (given name (property_of x))

unfoldable pub index : Range → Option Expr → Option APost
index r expr = option_map (index_of false r) expr

unfoldable pub call : Range → Option (List Expr) → Option APost
call r args = option_map (call_of false r) args

unfoldable pub tagged : Range → Option Expr → Option APost
tagged r tpl = option_map (tagged_of r) tpl

unfoldable pub optioned : List ℕ → List Token → Range → Value → Option APost
optioned x ts r inner = optional_of x ts r inner

unfoldable pub typed_call : Range → Value → Option (List Expr) → Option APost
typed_call r type_args args =
    given (option_map (λ args. option_map vPart.TypeArgs args) (optional arguments_at type_args)) (λ type_args.
    given args (λ args. Some (typed_call_of false r type_args args)))

unfoldable pub typed_tagged : Range → Value → Option Expr → Option APost
typed_tagged r type_args tpl =
    given (option_map (λ args. option_map vPart.TypeArgs args) (optional arguments_at type_args))
    (λ type_args. option_map (typed_tagged_of r type_args) tpl)

unfoldable pub typed_optioned : List ℕ → List Token → Range → Value → Option APost
typed_optioned x ts r inner = typed_optional_of x ts r inner

-- what a view tells
abbrev pub the_post : List ℕ → List Token → Range → Post → Option APost
the_post x ts r (view.Member name) = member x r (slice_get ts name)
the_post x ts r (view.Index expr) = index r (expr_in (valued x ts expr))
the_post x ts r (view.Call args) = call r (args_in (valued x ts args))
the_post x ts r (view.Template tpl) = tagged r (expr_in (valued x ts tpl))
the_post x ts r (view.Optional inner) = optioned x ts r (valued x ts inner)
the_post x ts r (view.TypedCall type_args args) =
    typed_call r (held x ts type_args.entries.now) (args_in (valued x ts args))
the_post x ts r (view.TypedTemplate type_args tpl) =
    typed_tagged r (held x ts type_args.entries.now) (expr_in (valued x ts tpl))
the_post x ts r (view.TypedOptional inner) = typed_optioned x ts r (valued x ts inner)
the_post x ts r view.NonNull = Some (non_null_of r)
the_post x ts r view.Broken = None

-- the parts take fewer entries
abbrev pub IsBelow : Siblings → Post → Type 0
IsBelow n (view.Member name) = Unit {0}
IsBelow n (view.Index expr) = Under expr n
IsBelow n (view.Call args) = Under args n
IsBelow n (view.Template tpl) = Under tpl n
IsBelow n (view.Optional inner) = Under inner n
IsBelow n (view.TypedCall type_args args) = Within type_args n × Under args n
IsBelow n (view.TypedTemplate type_args tpl) = Within type_args n × Under tpl n
IsBelow n (view.TypedOptional inner) = Under inner n
IsBelow n view.NonNull = Unit {0}
IsBelow n view.Broken = Unit {0}
