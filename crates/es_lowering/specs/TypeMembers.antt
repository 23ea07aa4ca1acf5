-- What members of types in braces, and their keys, become.
use Rattle.std.specs.Prelude.{ℕ, ◌+◌, Bool, List, Option, Some, option_map}
use Rattle.base.specs.declared.range.Range.{Range}
use Rattle.es_token.specs.declared.token.Token.{Token}
use Rattle.es_ast.specs.declared.ts.leaf.MethodKind.{MethodKind}
use Rattle.es_ast.specs.declared.ts.leaf.TsKey.{TsKey}
use Rattle.es_ast.specs.declared.ts.leaf.TsKey.TheVariants as vKey
use Rattle.es_ast.specs.declared.ts.ts.TsTypeElement.{TsTypeElement}
use Rattle.es_ast.specs.declared.ts.ts.TsTypeElement.TheVariants as vMember
use Rattle.es_lowering.specs.Value.{given, Value, more, token, group, optional, is_there, type_at, entity_at, type_params_at, fn_params_at, type_key_at}
use Rattle.es_lowering.specs.Texts.{token_at, kind_at, ident_at, str_at}
use Rattle.es_lowering.specs.Operators.{listed, accessor_kinds}
use Rattle.es_lowering.specs.TypeTexts.{computed_numeric}

-- ---- signatures: the parts of `TParams? '(' Params ')' (':' Type)?` stand from this part on
unfoldable pub call_signature : Range → Value → Option TsTypeElement
call_signature r p =
    given (optional type_params_at (group p 0)) (λ type_params.
    given (fn_params_at p 1) (λ params.
    given (optional type_at (group p 2)) (λ ty.
    Some (vMember.CallSignature type_params params ty r))))

unfoldable pub construct_signature : Range → Value → Option TsTypeElement
construct_signature r p =
    given (optional type_params_at (group p 0)) (λ type_params.
    given (fn_params_at p 1) (λ params.
    given (optional type_at (group p 2)) (λ ty.
    Some (vMember.ConstructSignature type_params params ty r))))

unfoldable pub index_signature : List ℕ → List Token → Range → Value → Option TsTypeElement
index_signature x ts r p =
    given (ident_at x ts p 1) (λ name.
    given (type_at p 2) (λ of.
    given (optional type_at (group p 3)) (λ ty.
    Some (vMember.IndexSignature (is_there (group p 0)) name of ty r))))

-- a method of this kind, whose key stands at this part
unfoldable pub method_by : MethodKind → Range → Value → ℕ → Option TsTypeElement
method_by kind r p n =
    given (type_key_at p n) (λ key.
    given (optional type_params_at (group p (n + 2))) (λ type_params.
    given (fn_params_at p (n + 3)) (λ params.
    given (optional type_at (group p (n + 4))) (λ ty.
    Some (vMember.MethodSignature kind key (is_there (group p (n + 1))) type_params params ty r)))))

unfoldable pub accessor_signature : List Token → Range → Value → Option TsTypeElement
accessor_signature ts r p = given (given (kind_at ts p 0) (listed accessor_kinds)) (λ kind. method_by kind r p 1)

unfoldable pub property_by : Bool → Range → Value → Option TsTypeElement
property_by readonly r p =
    given (type_key_at p 0) (λ key.
    given (optional type_at (group p 2)) (λ ty.
    Some (vMember.PropertySignature readonly key (is_there (group p 1)) ty r)))

-- ---- keys in brackets: a literal, or a name
abbrev pub inner_key : List ℕ → List Token → Range → Value → Option TsKey
inner_key x ts r (more (token n) vs) = given (token_at ts (more (token n) vs) 0) (computed_numeric x r)
inner_key x ts r g = option_map (λ name. vKey.Entity name r) (entity_at g 0)

abbrev pub bracket_key : List ℕ → List Token → Range → Value → Option TsKey
bracket_key x ts r (more (token n) vs) = option_map (λ s. vKey.ComputedStr s r) (str_at x ts (more (token n) vs) 0)
bracket_key x ts r g = inner_key x ts r (group g 0)

unfoldable pub computed_key : List ℕ → List Token → Range → Value → Option TsKey
computed_key x ts r p = bracket_key x ts r (group p 0)
