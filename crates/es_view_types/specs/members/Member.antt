-- What a view of a member of a type tells.
use Rattle.std.specs.Prelude.{ℕ, Bool, List, [], ◌∷◌, Option, Some, None, option_map, slice_get}
use Rattle.base.specs.declared.range.Range.{Range}
use Rattle.es_token.specs.declared.token.Token.{Token}
use Rattle.es_grammar.specs.declared.rows.NodeKind.{NodeKind}
use Rattle.es_grammar.specs.declared.rows.NodeKind.TheVariants as l
use Rattle.es_ast.specs.declared.ts.ts.TsTypeElement.{TsTypeElement}
use Rattle.es_ast.specs.declared.ts.ts.TsTypeElement.TheVariants as vMember
use Rattle.es_ast.specs.declared.ts.ts.TsType.{TsType}
use Rattle.es_ast.specs.declared.ts.ts.TsFnParam.{TsFnParam}
use Rattle.es_ast.specs.declared.ts.leaf.MethodKind.TheVariants as vMethod
use Rattle.es_ast.specs.declared.ts.leaf.TsKey.{TsKey}
use Rattle.es_lowering.specs.Value.{Value, given, optional, type_at, type_params_at}
use Rattle.es_lowering.specs.Texts.{ident_of}
use Rattle.es_lowering.specs.Operators.{listed, accessor_kinds}
use Rattle.es_syntax.specs.declared.cursor.Siblings.{Siblings}
use Rattle.es_syntax.specs.Held.{held, valued}
use Rattle.es_syntax.specs.Roles.{fn_params_in, ts_type_in, type_key_in}
use Rattle.es_syntax.specs.Views.{Under, Within}
use Rattle.es_view_types.specs.declared.members.member.TypeMember.{TypeMember}
use Rattle.es_view_types.specs.declared.members.member.TypeMember.TheVariants as view

-- the alternatives
abbrev pub members : List NodeKind
members =
    l.CallSignature ∷ l.ConstructSignature ∷ l.IndexSignature ∷ l.AccessorSignature ∷ l.MethodSignature ∷
    l.PropertySignature ∷ l.ReadonlyProperty ∷ []

-- ---- each form, of what its parts are
unfoldable pub call : Range → Value → Option (List TsFnParam) → Value → Option TsTypeElement
call r type_params params ty =
    given (optional type_params_at type_params) (λ type_params.
    given params (λ params.
    given (optional type_at ty) (λ ty. Some (vMember.CallSignature type_params params ty r))))

unfoldable pub construct : Range → Value → Option (List TsFnParam) → Value → Option TsTypeElement
construct r type_params params ty =
    given (optional type_params_at type_params) (λ type_params.
    given params (λ params.
    given (optional type_at ty) (λ ty. Some (vMember.ConstructSignature type_params params ty r))))

unfoldable pub index : List ℕ → Range → Bool → Option Token → Option TsType → Value → Option TsTypeElement
index x r readonly name of ty =
    given (option_map (ident_of x) name) (λ name.
    given of (λ of.
    given (optional type_at ty) (λ ty. Some (vMember.IndexSignature readonly name of ty r))))

unfoldable pub accessor : Range → Option Token → Option TsKey → Bool → Value → Option (List TsFnParam) → Value
    → Option TsTypeElement
accessor r word key mark type_params params ty =
    given (given (option_map (λ t. t.kind) word) (listed accessor_kinds)) (λ kind.
    given key (λ key.
    given (optional type_params_at type_params) (λ type_params.
    given params (λ params.
    given (optional type_at ty) (λ ty. Some (vMember.MethodSignature kind key mark type_params params ty r))))))

unfoldable pub method : Range → Option TsKey → Bool → Value → Option (List TsFnParam) → Value → Option TsTypeElement
method r key mark type_params params ty =
    given key (λ key.
    given (optional type_params_at type_params) (λ type_params.
    given params (λ params.
    given (optional type_at ty) (λ ty.
    Some (vMember.MethodSignature vMethod.Method key mark type_params params ty r)))))

unfoldable pub property : Range → Bool → Option TsKey → Bool → Value → Option TsTypeElement
property r readonly key mark ty =
    given key (λ key.
    given (optional type_at ty) (λ ty. Some (vMember.PropertySignature readonly key mark ty r)))

-- what a view tells
abbrev pub the_member : List ℕ → List Token → Range → TypeMember → Option TsTypeElement
the_member x ts r (view.Call type_params params ty) =
    call r (held x ts type_params.entries.now) (fn_params_in (valued x ts params)) (held x ts ty.entries.now)
the_member x ts r (view.Construct type_params params ty) =
    construct r (held x ts type_params.entries.now) (fn_params_in (valued x ts params)) (held x ts ty.entries.now)
the_member x ts r (view.Index readonly name of ty) =
    index x r readonly (slice_get ts name) (ts_type_in (valued x ts of)) (held x ts ty.entries.now)
the_member x ts r (view.Accessor word key mark type_params params ty) =
    accessor r (slice_get ts word) (type_key_in (valued x ts key)) mark (held x ts type_params.entries.now)
    (fn_params_in (valued x ts params)) (held x ts ty.entries.now)
the_member x ts r (view.Method key mark type_params params ty) =
    method r (type_key_in (valued x ts key)) mark (held x ts type_params.entries.now)
    (fn_params_in (valued x ts params)) (held x ts ty.entries.now)
the_member x ts r (view.Property readonly key mark ty) =
    property r readonly (type_key_in (valued x ts key)) mark (held x ts ty.entries.now)
the_member x ts r view.Broken = None

-- the parts take fewer entries
abbrev pub IsBelow : Siblings → TypeMember → Type 0
IsBelow n (view.Call type_params params ty) = Within type_params n × Under params n × Within ty n
IsBelow n (view.Construct type_params params ty) = Within type_params n × Under params n × Within ty n
IsBelow n (view.Index readonly name of ty) = Under of n × Within ty n
IsBelow n (view.Accessor word key mark type_params params ty) =
    Under key n × Within type_params n × Under params n × Within ty n
IsBelow n (view.Method key mark type_params params ty) =
    Under key n × Within type_params n × Under params n × Within ty n
IsBelow n (view.Property readonly key mark ty) = Under key n × Within ty n
IsBelow n view.Broken = Unit {0}
