-- What a view of a member of a class tells.
use Rattle.std.specs.Prelude.{ℕ, Bool, false, List, [], ◌∷◌, Option, Some, None, option_map, slice_get}
use Rattle.base.specs.declared.range.Range.{Range}
use Rattle.es_token.specs.declared.token.Token.{Token}
use Rattle.es_token.specs.declared.token.TokenKind.TheVariants as k
use Rattle.es_grammar.specs.declared.rows.NodeKind.{NodeKind}
use Rattle.es_grammar.specs.declared.rows.NodeKind.TheVariants as l
use Rattle.es_ast.specs.declared.ts.leaf.MethodKind.{MethodKind}
use Rattle.es_ast.specs.declared.ts.leaf.MethodKind.TheVariants as vMethod
use Rattle.es_ast.specs.declared.ts.ts.TsPart.TheVariants as vPart
use Rattle.es_ast.specs.declared.ts.ts.TsType.{TsType}
use Rattle.es_ast.specs.declared.ast.Stmt.{Stmt}
use Rattle.es_ast.specs.declared.ast.Param.{Param}
use Rattle.es_ast.specs.declared.ast.ClassMember.{ClassMember}
use Rattle.es_ast.specs.declared.ast.ClassMember.TheVariants as vMember
use Rattle.es_lowering.specs.Value.{Value, Signature, given, optional, first_of, behind, expr_at, type_at}
use Rattle.es_lowering.specs.Texts.{ident_of, span_of, kind_at}
use Rattle.es_lowering.specs.Operators.{listed, accessor_kinds}
use Rattle.es_lowering.specs.Functions.{Key, plain, function_of}
use Rattle.es_lowering.specs.Classes.{modified}
use Rattle.es_lowering.specs.TypedParts.{modifiers_in, body_in, behind_body}
use Rattle.es_lowering.specs.TypedFunctions.{typed_function_of, with_accessor, is_mark}
use Rattle.es_syntax.specs.declared.cursor.Siblings.{Siblings}
use Rattle.es_syntax.specs.Held.{held, valued}
use Rattle.es_syntax.specs.Roles.{block_in, key_in, params_in, signature_in, stmt_in, ts_type_in}
use Rattle.es_syntax.specs.Views.{Under, Within}
use Rattle.es_view_statements.specs.declared.class.member.Member.{Member}
use Rattle.es_view_statements.specs.declared.class.member.Member.TheVariants as view

-- the alternatives
abbrev pub members : List NodeKind
members =
    l.EmptyMember ∷ l.StaticBlock ∷ l.GeneratorMember ∷ l.MethodMember ∷ l.AsyncMember ∷ l.AccessorMember ∷
    l.FieldMember ∷ l.AccessorField ∷ l.TypedGeneratorMember ∷ l.TypedMethodMember ∷ l.TypedAsyncMember ∷
    l.TypedAccessorMember ∷ l.TypedFieldMember ∷ l.TypedAccessorField ∷ l.IndexMember ∷ []

-- ---- each form, of what its parts are
unfoldable pub static_of : Range → Option (List Stmt) → Option ClassMember
static_of r stmts = option_map (λ stmts. vMember.StaticBlock stmts r) stmts

-- a method, whose function spans from its parameters to its body
unfoldable pub method : Range → MethodKind → Bool → Bool → Bool → Range → Option Key → Option (List Param) → Option Stmt
    → Option ClassMember
method r kind is_static is_async is_generator span key params body =
    given key (λ key.
    given (given params (λ params. given body (λ body.
    Some (function_of is_async is_generator span None params body)))) (λ function.
    Some (vMember.Method (modified is_static false) kind key.0 key.1 false function r)))

-- `get` or `set` before it
unfoldable pub accessor : Range → Option Token → Bool → Range → Option Key → Option (List Param) → Option Stmt
    → Option ClassMember
accessor r word is_static span key params body =
    given (given (option_map (λ t. t.kind) word) (listed accessor_kinds)) (λ kind.
    method r kind is_static false false span key params body)

unfoldable pub field : Range → Bool → Bool → Option Key → Value → Option ClassMember
field r is_static is_accessor key value =
    given key (λ key.
    given (optional expr_at value) (λ value.
    Some (vMember.Prop (modified is_static is_accessor) key.0 key.1 false false None value r)))

-- the same of TypeScript: a method may have no body, and then its function ends with its signature
unfoldable pub typed_method : List Token → Range → MethodKind → Value → Bool → Bool → Range → Option Key → Bool
    → Option Signature → Value → Option ClassMember
typed_method ts r kind modifiers is_async is_generator span key mark signature body =
    given (modifiers_in ts plain modifiers) (λ modifiers.
    given key (λ key.
    given signature (λ signature.
    given (body_in body) (λ body.
    Some (vMember.Method modifiers kind key.0 key.1 mark
    (typed_function_of is_async is_generator span None signature body) r)))))

unfoldable pub typed_accessor : List Token → Range → Option Token → Value → Range → Option Key → Bool
    → Option Signature → Value → Option ClassMember
typed_accessor ts r word modifiers span key mark signature body =
    given (given (option_map (λ t. t.kind) word) (listed accessor_kinds)) (λ kind.
    typed_method ts r kind modifiers false false span key mark signature body)

-- the mark is `?` or `!`
unfoldable pub typed_field_of : List Token → Range → Bool → Value → Option Key → Value → Value → Value
    → Option ClassMember
typed_field_of ts r is_accessor modifiers key mark ty value =
    given (modifiers_in ts plain modifiers) (λ modifiers.
    given key (λ key.
    given (option_map (λ ty. option_map vPart.TypeAnn ty) (optional type_at ty)) (λ ty.
    given (optional expr_at value) (λ value.
    Some (vMember.Prop (with_accessor is_accessor modifiers) key.0 key.1 (is_mark k.Question (kind_at ts mark 0))
    (is_mark k.Exclamation (kind_at ts mark 0)) ty value r)))))

unfoldable pub index : List ℕ → List Token → Range → Value → Option Token → Option TsType → Value → Option ClassMember
index x ts r modifiers name of ty =
    given (modifiers_in ts plain modifiers) (λ modifiers.
    given (option_map (ident_of x) name) (λ name.
    given (option_map vPart.TypeAnn of) (λ of.
    given (option_map (λ ty. option_map vPart.TypeAnn ty) (optional type_at ty)) (λ ty.
    Some (vMember.TsIndexSignature modifiers name (Some of) ty r)))))

-- what a view tells
abbrev pub the_member : List ℕ → List Token → Range → Member → Option ClassMember
the_member x ts r view.Empty = Some (vMember.Empty r)
the_member x ts r (view.StaticBlock block) = static_of r (block_in (valued x ts block))
the_member x ts r (view.Method is_static is_async is_generator key params body) =
    method r vMethod.Method is_static is_async is_generator
    (span_of ts (first_of (valued x ts params)) (behind (valued x ts body))) (key_in (valued x ts key))
    (params_in (valued x ts params)) (stmt_in (valued x ts body))
the_member x ts r (view.Accessor is_static word key params body) =
    accessor r (slice_get ts word) is_static
    (span_of ts (first_of (valued x ts params)) (behind (valued x ts body))) (key_in (valued x ts key))
    (params_in (valued x ts params)) (stmt_in (valued x ts body))
the_member x ts r (view.Field is_static is_accessor key value) =
    field r is_static is_accessor (key_in (valued x ts key)) (held x ts value.entries.now)
the_member x ts r (view.TypedMethod modifiers is_async is_generator key mark signature body) =
    typed_method ts r vMethod.Method (held x ts modifiers.entries.now) is_async is_generator
    (span_of ts (first_of (valued x ts signature))
    (behind_body (held x ts body.entries.now) (behind (valued x ts signature)))) (key_in (valued x ts key)) mark
    (signature_in (valued x ts signature)) (held x ts body.entries.now)
the_member x ts r (view.TypedAccessor modifiers word key mark signature body) =
    typed_accessor ts r (slice_get ts word) (held x ts modifiers.entries.now)
    (span_of ts (first_of (valued x ts signature))
    (behind_body (held x ts body.entries.now) (behind (valued x ts signature)))) (key_in (valued x ts key)) mark
    (signature_in (valued x ts signature)) (held x ts body.entries.now)
the_member x ts r (view.TypedField modifiers is_accessor key mark ty value) =
    typed_field_of ts r is_accessor (held x ts modifiers.entries.now) (key_in (valued x ts key))
    (held x ts mark.entries.now) (held x ts ty.entries.now) (held x ts value.entries.now)
the_member x ts r (view.Index modifiers name of ty) =
    index x ts r (held x ts modifiers.entries.now) (slice_get ts name) (ts_type_in (valued x ts of))
    (held x ts ty.entries.now)
the_member x ts r view.Broken = None

-- the parts take fewer entries
abbrev pub IsBelow : Siblings → Member → Type 0
IsBelow n view.Empty = Unit {0}
IsBelow n (view.StaticBlock block) = Under block n
IsBelow n (view.Method is_static is_async is_generator key params body) = Under key n × Under params n × Under body n
IsBelow n (view.Accessor is_static word key params body) = Under key n × Under params n × Under body n
IsBelow n (view.Field is_static is_accessor key value) = Under key n × Within value n
IsBelow n (view.TypedMethod modifiers is_async is_generator key mark signature body) =
    Within modifiers n × Under key n × Under signature n × Within body n
IsBelow n (view.TypedAccessor modifiers word key mark signature body) =
    Within modifiers n × Under key n × Under signature n × Within body n
IsBelow n (view.TypedField modifiers is_accessor key mark ty value) =
    Within modifiers n × Under key n × Within mark n × Within ty n × Within value n
IsBelow n (view.Index modifiers name of ty) = Within modifiers n × Under of n × Within ty n
IsBelow n view.Broken = Unit {0}
