-- What functions, arrows, methods of objects and classes of TypeScript become (the handbook of TypeScript, "More on
-- Functions" and "Classes").
use Rattle.std.specs.Prelude.{ℕ, ◌+◌, Bool, false, List, Option, Some, None, option_map}
use Rattle.base.specs.declared.range.Range.{Range}
use Rattle.es_token.specs.declared.token.Token.{Token}
use Rattle.es_token.specs.declared.token.TokenKind.{TokenKind}
use Rattle.es_token.specs.declared.token.TokenKind.TheVariants as k
use Rattle.grammar_theory.specs.Key.{same_kind}
use Rattle.es_ast.specs.declared.ts.leaf.Ident.{Ident}
use Rattle.es_ast.specs.declared.ts.leaf.MethodKind.{MethodKind}
use Rattle.es_ast.specs.declared.ts.ts.TsPart.TheVariants as vPart
use Rattle.es_ast.specs.declared.leaf.Modifiers.{Modifiers}
use Rattle.es_ast.specs.declared.ast.Expr.{Expr}
use Rattle.es_ast.specs.declared.ast.Expr.TheVariants as vExpr
use Rattle.es_ast.specs.declared.ast.Stmt.{Stmt}
use Rattle.es_ast.specs.declared.ast.Prop.{Prop}
use Rattle.es_ast.specs.declared.ast.Prop.TheVariants as vProp
use Rattle.es_ast.specs.declared.ast.Function.{Function, roll-Function}
use Rattle.es_ast.specs.declared.ast.Class.{Class, roll-Class}
use Rattle.es_ast.specs.declared.ast.ClassMember.{ClassMember}
use Rattle.es_ast.specs.declared.ast.ClassMember.TheVariants as vMember
use Rattle.es_lowering.specs.Value.{Value, Signature, given, part, group, first_of, behind, optional, is_there, turns, expr_at, stmt_at, params_at, member_at, key_at, signature_at, type_at}
use Rattle.es_lowering.specs.Texts.{span_of, kind_at, ident_at, own_name_at}
use Rattle.es_lowering.specs.Operators.{listed, accessor_kinds}
use Rattle.es_lowering.specs.Functions.{plain, body_of}
use Rattle.es_lowering.specs.TypedParts.{annotation_at, params_part_at, args_part_at, heritage_in, modifiers_in, body_in, behind_body}

-- ---- functions
abbrev pub typed_function_of : Bool → Bool → Range → Option Ident → Signature → Option Stmt → Function
typed_function_of is_async is_generator r name signature body = roll-Function (record {
  ident = name;
  is_async = is_async;
  is_generator = is_generator;
  type_params = signature.0;
  params = signature.1;
  return_type = signature.2;
  body = body;
  span = r;
})

-- 'function' '*'? Name? Sig (Block | END), behind `async` or not
unfoldable pub typed_function : List ℕ → List Token → Bool → Range → Value → Option Function
typed_function x ts is_async r p =
    given (own_name_at x ts p 1) (λ name.
    given (signature_at p 2) (λ signature.
    given (body_in (group p 3)) (λ body.
    Some (typed_function_of is_async (is_there (group p 0)) r name signature body))))

-- TParams? '(' Params ')' (':' Ret)? '=>' .., behind `async` or not
unfoldable pub typed_arrow : List Token → Bool → Range → Value → Option Expr
typed_arrow ts is_async r p =
    given (params_part_at p 0) (λ type_params.
    given (params_at p 1) (λ params.
    given (annotation_at p 2) (λ result.
    given (body_of ts (part (group p 3) 0)) (λ body.
    Some (vExpr.Arrow (typed_function_of is_async false r None (type_params, params, result) (Some body)))))))

-- ---- methods of objects: a group of a key and a signature stands at this part, a block behind it
unfoldable pub typed_method_property : List Token → MethodKind → Bool → Bool → Range → Value → ℕ → Option Prop
typed_method_property ts kind is_async is_generator r p n =
    given (key_at (group p n) 0) (λ key.
    given (signature_at (group p n) 1) (λ signature.
    given (stmt_at p (n + 1)) (λ body.
    Some (vProp.Method kind key.0 key.1 (typed_function_of is_async is_generator
    (span_of ts (first_of (part (group p n) 1)) (behind (part p (n + 1)))) None signature (Some body)) r))))

unfoldable pub typed_accessor_property : List Token → Range → Value → Option Prop
typed_accessor_property ts r p =
    given (given (kind_at ts p 0) (listed accessor_kinds)) (λ kind. typed_method_property ts kind false false r p 1)

-- ---- classes
-- 'class' Name? TParams? ('extends' Chain TArgs?)? ('implements' Ref%+)? '{' Member* '}', behind `abstract` or not
unfoldable pub typed_class : List ℕ → List Token → Bool → Range → Value → Option Class
typed_class x ts is_abstract r p =
    given (own_name_at x ts p 0) (λ name.
    given (params_part_at p 1) (λ type_params.
    given (optional expr_at (group p 2)) (λ super_class.
    given (args_part_at (group p 2) 1) (λ super_type_args.
    given (heritage_in ts (group p 3)) (λ implements.
    given (turns (λ turn. member_at turn 0) (group p 4)) (λ members.
    Some (roll-Class (record {
      ident = name;
      is_abstract = is_abstract;
      type_params = type_params;
      super_class = super_class;
      super_type_args = super_type_args;
      implements = implements;
      body = members;
      span = r;
    }))))))))

-- ---- members: modifiers stand at the first part
-- a group of a key, its mark and a signature stands at this part, a body or none behind it
unfoldable pub typed_method_member : List Token → MethodKind → Bool → Bool → Range → Value → ℕ → Option ClassMember
typed_method_member ts kind is_async is_generator r p n =
    given (modifiers_in ts plain (group p 0)) (λ modifiers.
    given (key_at (group p n) 0) (λ key.
    given (signature_at (group p n) 2) (λ signature.
    given (body_in (group p (n + 1))) (λ body.
    Some (vMember.Method modifiers kind key.0 key.1 (is_there (group (group p n) 1))
    (typed_function_of is_async is_generator
    (span_of ts (first_of (part (group p n) 2)) (behind_body (group p (n + 1)) (behind (part (group p n) 2)))) None
    signature body) r)))))

unfoldable pub typed_accessor_member : List Token → Range → Value → Option ClassMember
typed_accessor_member ts r p =
    given (given (kind_at ts p 1) (listed accessor_kinds)) (λ kind. typed_method_member ts kind false false r p 2)

-- `accessor` before the key of a field
abbrev pub with_accessor : Bool → Modifiers → Modifiers
with_accessor accessor m = record {
  accessibility = m.accessibility;
  is_static = m.is_static;
  is_abstract = m.is_abstract;
  is_override = m.is_override;
  readonly = m.readonly;
  declare = m.declare;
  accessor = accessor;
}

-- the mark behind a key is `?` or `!`
abbrev pub is_mark : TokenKind → Option TokenKind → Bool
is_mark kind (Some other) = same_kind other kind
is_mark kind None = false

-- Key ('?' | '!')? (':' Type)? ('=' Assign)? END, with `accessor` or without
unfoldable pub typed_field : List Token → Bool → Range → Value → Option ClassMember
typed_field ts accessor r p =
    given (modifiers_in ts plain (group p 0)) (λ modifiers.
    given (key_at p 1) (λ key.
    given (annotation_at p 3) (λ ty.
    given (optional expr_at (group p 4)) (λ value.
    Some (vMember.Prop (with_accessor accessor modifiers) key.0 key.1
    (is_mark k.Question (kind_at ts (group p 2) 0)) (is_mark k.Exclamation (kind_at ts (group p 2) 0)) ty value r)))))

-- '[' Name ':' Type ']' (':' Type)? END
unfoldable pub index_member : List ℕ → List Token → Range → Value → Option ClassMember
index_member x ts r p =
    given (modifiers_in ts plain (group p 0)) (λ modifiers.
    given (ident_at x ts p 1) (λ name.
    given (option_map vPart.TypeAnn (type_at p 2)) (λ of.
    given (annotation_at p 3) (λ ty.
    Some (vMember.TsIndexSignature modifiers name (Some of) ty r)))))
