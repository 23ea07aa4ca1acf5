-- What a view of a property tells.
use Rattle.std.specs.Prelude.{ℕ, Bool, false, List, [], ◌∷◌, Option, Some, None, option_map, slice_get}
use Rattle.base.specs.declared.range.Range.{Range}
use Rattle.es_token.specs.declared.token.Token.{Token}
use Rattle.es_grammar.specs.declared.rows.NodeKind.{NodeKind}
use Rattle.es_grammar.specs.declared.rows.NodeKind.TheVariants as l
use Rattle.es_ast.specs.declared.ts.leaf.MethodKind.{MethodKind}
use Rattle.es_ast.specs.declared.ts.leaf.MethodKind.TheVariants as vMethod
use Rattle.es_ast.specs.declared.ast.Stmt.{Stmt}
use Rattle.es_ast.specs.declared.ast.Param.{Param}
use Rattle.es_ast.specs.declared.ast.Prop.{Prop as AProp}
use Rattle.es_ast.specs.declared.ast.Prop.TheVariants as vProp
use Rattle.es_lowering.specs.Value.{Signature, given, first_of, behind}
use Rattle.es_lowering.specs.Texts.{ident_of, span_of}
use Rattle.es_lowering.specs.Operators.{listed, accessor_kinds}
use Rattle.es_lowering.specs.Functions.{Key, function_of}
use Rattle.es_lowering.specs.TypedFunctions.{typed_function_of}
use Rattle.es_ast.specs.declared.ast.Expr.{Expr}
use Rattle.es_syntax.specs.declared.cursor.Siblings.{Siblings}
use Rattle.es_syntax.specs.Held.{valued}
use Rattle.es_syntax.specs.Roles.{expr_in, key_in, params_in, signature_in, stmt_in}
use Rattle.es_syntax.specs.Views.{Under}
use Rattle.es_view_expressions.specs.declared.member.prop.Prop.{Prop}
use Rattle.es_view_expressions.specs.declared.member.prop.Prop.TheVariants as view

-- the alternatives
abbrev pub props : List NodeKind
props =
    l.GeneratorProperty ∷ l.MethodProperty ∷ l.AsyncProperty ∷ l.AccessorProperty ∷ l.KeyValue ∷ l.Shorthand ∷
    l.SpreadProperty ∷ l.TypedGeneratorProperty ∷ l.TypedMethodProperty ∷ l.TypedAsyncProperty ∷
    l.TypedAccessorProperty ∷ []

-- ---- each form, of what its parts are
-- a method, whose function spans from its parameters to its body
unfoldable pub method : Range → MethodKind → Bool → Bool → Range → Option Key → Option (List Param) → Option Stmt
    → Option AProp
method r kind is_async is_generator span key params body =
    given key (λ key.
    given (given params (λ params. given body (λ body.
    Some (function_of is_async is_generator span None params body)))) (λ function.
    Some (vProp.Method kind key.0 key.1 function r)))

-- `get` or `set` before it
unfoldable pub accessor : Range → Option Token → Range → Option Key → Option (List Param) → Option Stmt → Option AProp
accessor r sign span key params body =
    given (given (option_map (λ t. t.kind) sign) (listed accessor_kinds)) (λ kind.
    method r kind false false span key params body)

unfoldable pub key_value : Range → Option Key → Option Expr → Option AProp
key_value r key value = given key (λ key. given value (λ value. Some (vProp.KeyValue key.0 key.1 value r)))

unfoldable pub shorthand : List ℕ → Option Token → Option AProp
shorthand x name = option_map (λ t. vProp.Shorthand (ident_of x t)) name

unfoldable pub spread : Range → Option Expr → Option AProp
spread r expr = option_map (λ e. vProp.Spread e r) expr

unfoldable pub typed_method : Range → MethodKind → Bool → Bool → Range → Option Key → Option Signature → Option Stmt
    → Option AProp
typed_method r kind is_async is_generator span key signature body =
    given key (λ key.
    given signature (λ signature.
    given body (λ body.
    Some (vProp.Method kind key.0 key.1 (typed_function_of is_async is_generator span None signature (Some body)) r))))

unfoldable pub typed_accessor : Range → Option Token → Range → Option Key → Option Signature → Option Stmt
    → Option AProp
typed_accessor r sign span key signature body =
    given (given (option_map (λ t. t.kind) sign) (listed accessor_kinds)) (λ kind.
    typed_method r kind false false span key signature body)

-- what a view tells
abbrev pub the_prop : List ℕ → List Token → Range → Prop → Option AProp
the_prop x ts r (view.Method is_async is_generator key params body) =
    method r vMethod.Method is_async is_generator
    (span_of ts (first_of (valued x ts params)) (behind (valued x ts body))) (key_in (valued x ts key))
    (params_in (valued x ts params)) (stmt_in (valued x ts body))
the_prop x ts r (view.Accessor sign key params body) =
    accessor r (slice_get ts sign) (span_of ts (first_of (valued x ts params)) (behind (valued x ts body)))
    (key_in (valued x ts key)) (params_in (valued x ts params)) (stmt_in (valued x ts body))
the_prop x ts r (view.KeyValue key value) = key_value r (key_in (valued x ts key)) (expr_in (valued x ts value))
the_prop x ts r (view.Shorthand name) = shorthand x (slice_get ts name)
the_prop x ts r (view.Spread expr) = spread r (expr_in (valued x ts expr))
the_prop x ts r (view.TypedMethod is_async is_generator key signature body) =
    typed_method r vMethod.Method is_async is_generator
    (span_of ts (first_of (valued x ts signature)) (behind (valued x ts body))) (key_in (valued x ts key))
    (signature_in (valued x ts signature)) (stmt_in (valued x ts body))
the_prop x ts r (view.TypedAccessor sign key signature body) =
    typed_accessor r (slice_get ts sign) (span_of ts (first_of (valued x ts signature)) (behind (valued x ts body)))
    (key_in (valued x ts key)) (signature_in (valued x ts signature)) (stmt_in (valued x ts body))
the_prop x ts r view.Broken = None

-- the parts take fewer entries
abbrev pub IsBelow : Siblings → Prop → Type 0
IsBelow n (view.Method is_async is_generator key params body) = Under key n × Under params n × Under body n
IsBelow n (view.Accessor sign key params body) = Under key n × Under params n × Under body n
IsBelow n (view.KeyValue key value) = Under key n × Under value n
IsBelow n (view.Shorthand name) = Unit {0}
IsBelow n (view.Spread expr) = Under expr n
IsBelow n (view.TypedMethod is_async is_generator key signature body) = Under key n × Under signature n × Under body n
IsBelow n (view.TypedAccessor sign key signature body) = Under key n × Under signature n × Under body n
IsBelow n view.Broken = Unit {0}
