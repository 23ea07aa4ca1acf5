-- Types that no text has: they stand nowhere, at the empty range at 0.
use Rattle.std.specs.Prelude.{ℕ, Bool, true, false, List, [], ◌∷◌, Option, Some, None, option_map, codes}
use Rattle.base.specs.declared.range.Range.{Range}
use Rattle.es_ast.specs.declared.ts.leaf.Ident.{Ident}
use Rattle.es_ast.specs.declared.ts.leaf.TsEntityName.{TsEntityName}
use Rattle.es_ast.specs.declared.ts.leaf.TsThisTypeOrIdent.TheVariants as vThis
use Rattle.es_ast.specs.declared.ts.leaf.TsKeywordTypeKind.{TsKeywordTypeKind}
use Rattle.es_ast.specs.declared.ts.leaf.TsKeywordTypeKind.TheVariants as keyword
use Rattle.es_ast.specs.declared.ts.leaf.TsTypeOperatorOp.TheVariants as operator
use Rattle.es_ast.specs.declared.ts.ts.TsPart.{TsPart}
use Rattle.es_ast.specs.declared.ts.ts.TsPart.TheVariants as vPart
use Rattle.es_ast.specs.declared.ts.ts.TsType.{TsType, out-TsType}
use Rattle.es_ast.specs.declared.ts.ts.TsType.TheVariants as vType
use Rattle.es_ast.specs.declared.ts.ts.TsType.TheOpen.{TsType-F, TsTypeElement-F}
use Rattle.es_ast.specs.declared.ts.ts.TsFnParam.{TsFnParam}
use Rattle.es_ast.specs.declared.ts.ts.TsTupleElement.{TsTupleElement}
use Rattle.es_ast.specs.declared.ts.ts.TsTypeElement.{TsTypeElement, out-TsTypeElement}
use Rattle.es_ast.specs.declared.ts.ts.TsTypeElement.TheVariants as vMember
use Rattle.es_ast.specs.declared.ts.ts.TsTypeParam.{TsTypeParam}
use Rattle.dts_rules.specs.Sets.{is_readonly}

abbrev pub nowhere : Range
nowhere = record { start = 0; end = 0 }

abbrev pub word : TsKeywordTypeKind → TsType
word kind = vType.Keyword kind nowhere

abbrev pub any_type : TsType
any_type = word keyword.Any

abbrev pub annotation : TsType → Option TsPart
annotation ty = Some (vPart.TypeAnn ty)

-- a name, as the name of a type
abbrev pub entity_of : Ident → TsEntityName
entity_of name = record { left = vThis.Ident name; rest = []; span = name.span }

abbrev pub named_type : Ident → TsType
named_type name = vType.Ref (entity_of name) None name.span

-- `typeof a`: the name keeps its place
abbrev pub typeof_name : Ident → TsType
typeof_name name = vType.Query (named_type name) nowhere

-- a name that no text has, and the type `RegExp`
abbrev pub made_name : List ℕ → Ident
made_name sym = record { sym = sym; ctxt = 0; optional = false; span = nowhere }

abbrev pub regexp_type : TsType
regexp_type = named_type (made_name (codes "RegExp"))

abbrev pub readonly_type : TsType → TsType
readonly_type ty = vType.Operator operator.ReadOnly ty nowhere

abbrev pub if_readonly : Bool → TsType → TsType
if_readonly true ty = readonly_type ty
if_readonly false ty = ty

-- ---- `Object.freeze`: what a frozen value of a type is, where that can be told
abbrev pub frozen_member_by : TsTypeElement-F TsType TsTypeElement TsFnParam TsTupleElement TsTypeParam → Option TsTypeElement
frozen_member_by (TsTypeElement-F.IndexSignature readonly name of ty span) =
    Some (vMember.IndexSignature true name of ty span)
frozen_member_by (TsTypeElement-F.PropertySignature readonly key mark ty span) =
    Some (vMember.PropertySignature true key mark ty span)
frozen_member_by _ = None

abbrev pub frozen_members : List TsTypeElement → Option (List TsTypeElement)
frozen_members [] = Some []
frozen_members (m ∷ ms) = with_member (frozen_member_by (out-TsTypeElement m)) (frozen_members ms)
  where
    with_member : Option TsTypeElement → Option (List TsTypeElement) → Option (List TsTypeElement)
    with_member (Some m) (Some ms) = Some (m ∷ ms)
    with_member _ _ = None

abbrev pub if_true : {A : Type 0} → Bool → A → Option A
if_true true a = Some a
if_true false a = None

abbrev pub frozen_by : TsType → TsType-F TsType TsTypeElement TsFnParam TsTupleElement TsTypeParam → Option TsType
frozen_by ty (TsType-F.TypeLit members span) = option_map (λ ms. vType.TypeLit ms span) (frozen_members members)
frozen_by ty (TsType-F.Array elem span) = Some (readonly_type ty)
frozen_by ty (TsType-F.Tuple elems span) = Some (readonly_type ty)
frozen_by ty (TsType-F.Operator op inner span) = if_true (is_readonly op) ty
frozen_by ty (TsType-F.Fn type_params params result span) = Some ty
frozen_by ty (TsType-F.Constructor is_abstract type_params params result span) = Some ty
frozen_by ty _ = None

unfoldable pub frozen : TsType → Option TsType
frozen ty = frozen_by ty (out-TsType ty)
