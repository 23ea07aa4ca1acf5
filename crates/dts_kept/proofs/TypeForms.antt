-- What forms of types are where the value is frozen.
use Rattle.std.specs.Prelude.{ℕ, Bool, true, false, ◌&&◌, List, [], ◌∷◌, ◌++◌, Option, Some, None, option_map, if◌then◌else◌}
use Rattle.std.proofs.Common.{◌≡◌, refl, sym, ap, ◌∙◌}
use Rattle.base.specs.declared.range.Range.{Range}
use Rattle.es_token.specs.declared.token.Token.{Token}
use Rattle.es_token.specs.declared.token.TokenKind.TheVariants as k
use Rattle.grammar_theory.specs.Key.{same_kind}
use Rattle.es_grammar.specs.declared.rows.NodeKind.{NodeKind}
use Rattle.es_grammar.specs.declared.rows.NodeKind.TheVariants as l
use Rattle.es_ast.specs.declared.ts.leaf.Ident.{Ident}
use Rattle.es_ast.specs.declared.ts.leaf.Str.{Str}
use Rattle.es_ast.specs.declared.ts.leaf.TplElement.{TplElement}
use Rattle.es_ast.specs.declared.ts.leaf.TsEntityName.{TsEntityName}
use Rattle.es_ast.specs.declared.ts.leaf.TsKeywordTypeKind.{TsKeywordTypeKind}
use Rattle.es_ast.specs.declared.ts.leaf.TsLit.{TsLit}
use Rattle.es_ast.specs.declared.ts.leaf.TsThisTypeOrIdent.{TsThisTypeOrIdent}
use Rattle.es_ast.specs.declared.ts.leaf.TsTypeOperatorOp.{TsTypeOperatorOp}
use Rattle.es_ast.specs.declared.ts.leaf.TruePlusMinus.{TruePlusMinus}
use Rattle.es_ast.specs.declared.ts.leaf.TsLit.TheVariants as vLit
use Rattle.es_ast.specs.declared.ts.ts.Nodes.{Nodes}
use Rattle.es_ast.specs.declared.ts.ts.TsFnParam.{TsFnParam}
use Rattle.es_ast.specs.declared.ts.ts.TsTupleElement.{TsTupleElement}
use Rattle.es_ast.specs.declared.ts.ts.TsType.{TsType, out-TsType, out-roll-TsType}
use Rattle.es_ast.specs.declared.ts.ts.TsTypeElement.{TsTypeElement}
use Rattle.es_ast.specs.declared.ts.ts.TsTypeParam.{TsTypeParam}
use Rattle.es_ast.specs.declared.ts.ts.TsType.TheVariants as vType
use Rattle.es_ast.specs.declared.ts.ts.TsType.TheOpen.{TsType-F}
use Rattle.es_lowering.specs.Value.{Value, group, is_there, given, optional, turns, type_at, type_member_at, type_params_at, fn_params_at, entity_at, arguments_at}
use Rattle.es_lowering.specs.Texts.{token_at, kind_at, ident_at, str_at, piece_there, this_or_name_at}
use Rattle.es_lowering.specs.Modules as modules
use Rattle.es_lowering.specs.Types as types
use Rattle.es_lowering.specs.TypeNames as type_names
use Rattle.es_lowering.specs.TypeTexts.{numeric_lit, keyword_kinds, signed_in}
use Rattle.es_lowering.specs.Operators.{listed}
use Rattle.es_lowering.specs.Lowering.{same_label, type_of}
use Rattle.es_syntax.specs.Views.{is_one_of}
use Rattle.es_expr_spans.proofs.Given.{Of, one, none, of_given, of_mapped, of_if, of_other}
use Rattle.dts_rules.specs.Sets.{is_readonly}
use Rattle.dts_rules.specs.Made.{frozen, frozen_by, frozen_members, if_true, readonly_type}
use Rattle.dts_kept.specs.Kept.{frozen_labels}

pub frozen_Keyword : (kind : TsKeywordTypeKind) (span : Range)
    → frozen (vType.Keyword kind span) ≡ None
unfolding frozen
frozen_Keyword kind span =
    ap (frozen_by (vType.Keyword kind span))
    (ap out-TsType (sym (vType.rolls-Keyword kind span)) ∙ out-roll-TsType (TsType-F.Keyword kind span))

pub frozen_This : (span : Range)
    → frozen (vType.This span) ≡ None
unfolding frozen
frozen_This span =
    ap (frozen_by (vType.This span))
    (ap out-TsType (sym (vType.rolls-This span)) ∙ out-roll-TsType (TsType-F.This span))

pub frozen_Lit : (lit : TsLit)
    → frozen (vType.Lit lit) ≡ None
unfolding frozen
frozen_Lit lit =
    ap (frozen_by (vType.Lit lit))
    (ap out-TsType (sym (vType.rolls-Lit lit)) ∙ out-roll-TsType (TsType-F.Lit lit))

pub frozen_Tpl : (quasis : List TplElement) (types : List TsType) (span : Range)
    → frozen (vType.Tpl quasis types span) ≡ None
unfolding frozen
frozen_Tpl quasis types span =
    ap (frozen_by (vType.Tpl quasis types span))
    (ap out-TsType (sym (vType.rolls-Tpl quasis types span)) ∙ out-roll-TsType (TsType-F.Tpl quasis types span))

pub frozen_Ref : (name : TsEntityName) (args : Option (Nodes TsType)) (span : Range)
    → frozen (vType.Ref name args span) ≡ None
unfolding frozen
frozen_Ref name args span =
    ap (frozen_by (vType.Ref name args span))
    (ap out-TsType (sym (vType.rolls-Ref name args span)) ∙ out-roll-TsType (TsType-F.Ref name args span))

pub frozen_Query : (ty : TsType) (span : Range)
    → frozen (vType.Query ty span) ≡ None
unfolding frozen
frozen_Query ty span =
    ap (frozen_by (vType.Query ty span))
    (ap out-TsType (sym (vType.rolls-Query ty span)) ∙ out-roll-TsType (TsType-F.Query ty span))

pub frozen_Import : (arg : Str) (qualifier : Option TsEntityName) (args : Option (Nodes TsType)) (span : Range)
    → frozen (vType.Import arg qualifier args span) ≡ None
unfolding frozen
frozen_Import arg qualifier args span =
    ap (frozen_by (vType.Import arg qualifier args span))
    (ap out-TsType (sym (vType.rolls-Import arg qualifier args span))
    ∙ out-roll-TsType (TsType-F.Import arg qualifier args span))

pub frozen_Paren : (ty : TsType) (span : Range)
    → frozen (vType.Paren ty span) ≡ None
unfolding frozen
frozen_Paren ty span =
    ap (frozen_by (vType.Paren ty span))
    (ap out-TsType (sym (vType.rolls-Paren ty span)) ∙ out-roll-TsType (TsType-F.Paren ty span))

pub frozen_TypeLit : (members : List TsTypeElement) (span : Range)
    → frozen (vType.TypeLit members span) ≡ option_map (λ ms. vType.TypeLit ms span) (frozen_members members)
unfolding frozen
frozen_TypeLit members span =
    ap (frozen_by (vType.TypeLit members span))
    (ap out-TsType (sym (vType.rolls-TypeLit members span)) ∙ out-roll-TsType (TsType-F.TypeLit members span))

pub frozen_Tuple : (elems : List TsTupleElement) (span : Range)
    → frozen (vType.Tuple elems span) ≡ Some (readonly_type (vType.Tuple elems span))
unfolding frozen
frozen_Tuple elems span =
    ap (frozen_by (vType.Tuple elems span))
    (ap out-TsType (sym (vType.rolls-Tuple elems span)) ∙ out-roll-TsType (TsType-F.Tuple elems span))

pub frozen_Mapped : (readonly : TruePlusMinus) (name : Ident) (constraint : TsType) (name_type : Option TsType)
    (mark : TruePlusMinus) (ty : Option TsType) (span : Range)
    → frozen (vType.Mapped readonly name constraint name_type mark ty span) ≡ None
unfolding frozen
frozen_Mapped readonly name constraint name_type mark ty span =
    ap (frozen_by (vType.Mapped readonly name constraint name_type mark ty span))
    (ap out-TsType (sym (vType.rolls-Mapped readonly name constraint name_type mark ty span))
    ∙ out-roll-TsType (TsType-F.Mapped readonly name constraint name_type mark ty span))

pub frozen_Fn : (type_params : Option (Nodes TsTypeParam)) (params : List TsFnParam) (ty : TsType) (span : Range)
    → frozen (vType.Fn type_params params ty span) ≡ Some (vType.Fn type_params params ty span)
unfolding frozen
frozen_Fn type_params params ty span =
    ap (frozen_by (vType.Fn type_params params ty span))
    (ap out-TsType (sym (vType.rolls-Fn type_params params ty span))
    ∙ out-roll-TsType (TsType-F.Fn type_params params ty span))

pub frozen_Constructor : (is_abstract : Bool) (type_params : Option (Nodes TsTypeParam)) (params : List TsFnParam)
    (ty : TsType) (span : Range)
    → frozen (vType.Constructor is_abstract type_params params ty span)
    ≡ Some (vType.Constructor is_abstract type_params params ty span)
unfolding frozen
frozen_Constructor is_abstract type_params params ty span =
    ap (frozen_by (vType.Constructor is_abstract type_params params ty span))
    (ap out-TsType (sym (vType.rolls-Constructor is_abstract type_params params ty span))
    ∙ out-roll-TsType (TsType-F.Constructor is_abstract type_params params ty span))

pub frozen_Conditional : (check : TsType) (extends : TsType) (cons : TsType) (alt : TsType) (span : Range)
    → frozen (vType.Conditional check extends cons alt span) ≡ None
unfolding frozen
frozen_Conditional check extends cons alt span =
    ap (frozen_by (vType.Conditional check extends cons alt span))
    (ap out-TsType (sym (vType.rolls-Conditional check extends cons alt span))
    ∙ out-roll-TsType (TsType-F.Conditional check extends cons alt span))

pub frozen_Union : (types : List TsType) (span : Range)
    → frozen (vType.Union types span) ≡ None
unfolding frozen
frozen_Union types span =
    ap (frozen_by (vType.Union types span))
    (ap out-TsType (sym (vType.rolls-Union types span)) ∙ out-roll-TsType (TsType-F.Union types span))

pub frozen_Intersection : (types : List TsType) (span : Range)
    → frozen (vType.Intersection types span) ≡ None
unfolding frozen
frozen_Intersection types span =
    ap (frozen_by (vType.Intersection types span))
    (ap out-TsType (sym (vType.rolls-Intersection types span)) ∙ out-roll-TsType (TsType-F.Intersection types span))

pub frozen_Operator : (op : TsTypeOperatorOp) (ty : TsType) (span : Range)
    → frozen (vType.Operator op ty span) ≡ if_true (is_readonly op) (vType.Operator op ty span)
unfolding frozen
frozen_Operator op ty span =
    ap (frozen_by (vType.Operator op ty span))
    (ap out-TsType (sym (vType.rolls-Operator op ty span)) ∙ out-roll-TsType (TsType-F.Operator op ty span))

pub frozen_Infer : (name : Ident) (span : Range)
    → frozen (vType.Infer name span) ≡ None
unfolding frozen
frozen_Infer name span =
    ap (frozen_by (vType.Infer name span))
    (ap out-TsType (sym (vType.rolls-Infer name span)) ∙ out-roll-TsType (TsType-F.Infer name span))

pub frozen_Array : (elem : TsType) (span : Range)
    → frozen (vType.Array elem span) ≡ Some (readonly_type (vType.Array elem span))
unfolding frozen
frozen_Array elem span =
    ap (frozen_by (vType.Array elem span))
    (ap out-TsType (sym (vType.rolls-Array elem span)) ∙ out-roll-TsType (TsType-F.Array elem span))

pub frozen_IndexedAccess : (obj : TsType) (index : TsType) (span : Range)
    → frozen (vType.IndexedAccess obj index span) ≡ None
unfolding frozen
frozen_IndexedAccess obj index span =
    ap (frozen_by (vType.IndexedAccess obj index span))
    (ap out-TsType (sym (vType.rolls-IndexedAccess obj index span))
    ∙ out-roll-TsType (TsType-F.IndexedAccess obj index span))

pub frozen_Predicate : (asserts : Bool) (name : TsThisTypeOrIdent) (ty : Option TsType) (span : Range)
    → frozen (vType.Predicate asserts name ty span) ≡ None
unfolding frozen
frozen_Predicate asserts name ty span =
    ap (frozen_by (vType.Predicate asserts name ty span))
    (ap out-TsType (sym (vType.rolls-Predicate asserts name ty span))
    ∙ out-roll-TsType (TsType-F.Predicate asserts name ty span))

abbrev pub None_ : TsType → Type 0
None_ ty = frozen ty ≡ None

abbrev Others : NodeKind → Type 0
Others label =
    (same_label label l.FunctionType ≡ false) × (same_label label l.ConstructorType ≡ false)
    × (same_label label l.ArrayTypes ≡ false) × (same_label label l.TypeOperator ≡ false)
    × (same_label label l.MembersType ≡ false) × (same_label label l.TupleType ≡ false)

module _ (x : List ℕ) (ts : List Token) (r : Range) where
  word : (p : Value) → Of None_ (types.word_type ts r p)
  unfolding types.word_type types.word_of
  word p =
      of_given None_ (kind_at ts p 0) (λ kind.
      of_if None_ (same_kind kind k.TrueWord) (one None_ (frozen_Lit (vLit.Bool true r)))
      (of_if None_ (same_kind kind k.FalseWord) (one None_ (frozen_Lit (vLit.Bool false r)))
      (of_mapped None_ (listed keyword_kinds kind) (λ kind. frozen_Keyword kind r))))

  keyword : (p : Value) → Of None_ (types.keyword_type ts r p)
  unfolding types.keyword_type
  keyword p = of_given None_ (given (kind_at ts p 0) (listed keyword_kinds)) (λ kind. one None_ (frozen_Keyword kind r))

  str : (p : Value) → Of None_ (types.str_type x ts p)
  unfolding types.str_type
  str p = of_mapped None_ (str_at x ts p 0) (λ s. frozen_Lit (vLit.Str s))

  number : (p : Value) → Of None_ (types.number_type x ts r p)
  unfolding types.number_type
  number p = of_mapped None_ (given (token_at ts p 1) (numeric_lit x (is_there (group p 0)) r)) frozen_Lit

  template : (p : Value) → Of None_ (types.template_type x ts r p)
  unfolding types.template_type
  template p = of_mapped None_ (piece_there x ts p 0) (λ piece. frozen_Tpl (piece ∷ []) [] r)

  templates : (p : Value) → Of None_ (types.template_types x ts r p)
  unfolding types.template_types
  templates p =
      of_given None_ (piece_there x ts p 0) (λ head.
      of_given None_ (type_at p 1) (λ first.
      of_given None_ (turns (λ turn. piece_there x ts turn 0) (group p 2)) (λ middles.
      of_given None_ (turns (λ turn. type_at turn 1) (group p 2)) (λ others.
      of_given None_ (piece_there x ts p 3) (λ tail.
      one None_ (frozen_Tpl (head ∷ (middles ++ tail ∷ [])) (first ∷ others) r))))))

  paren : (p : Value) → Of None_ (types.parenthesized_type r p)
  unfolding types.parenthesized_type
  paren p = of_mapped None_ (type_at p 0) (λ ty. frozen_Paren ty r)

  query : (p : Value) → Of None_ (types.type_query r p)
  unfolding types.type_query
  query p = of_mapped None_ (type_at (group p 0) 0) (λ ty. frozen_Query ty r)

  mapped : (p : Value) → Of None_ (types.mapped_type x ts r p)
  unfolding types.mapped_type
  mapped p =
      of_given None_ (signed_in ts (group p 0)) (λ readonly.
      of_given None_ (ident_at x ts p 1) (λ name.
      of_given None_ (type_at p 2) (λ constraint.
      of_given None_ (optional type_at (group p 3)) (λ name_type.
      of_given None_ (signed_in ts (group p 4)) (λ mark.
      of_given None_ (optional type_at (group p 5)) (λ ty.
      one None_ (frozen_Mapped readonly name constraint name_type mark ty r)))))))

  infer : (p : Value) → Of None_ (types.infer_type x ts r p)
  unfolding types.infer_type
  infer p = of_mapped None_ (ident_at x ts p 0) (λ name. frozen_Infer name r)

  union : (p : Value) → Of None_ (types.union_type r p)
  unfolding types.union_type
  union p = of_mapped None_ (types.operands p) (λ tys. frozen_Union tys r)

  leading_union : (p : Value) → Of None_ (types.leading_union_type r p)
  unfolding types.leading_union_type
  leading_union p = of_mapped None_ (type_names.types_from p 0) (λ tys. frozen_Union tys r)

  intersection : (p : Value) → Of None_ (types.intersection_type r p)
  unfolding types.intersection_type
  intersection p = of_mapped None_ (types.operands p) (λ tys. frozen_Intersection tys r)

  leading_intersection : (p : Value) → Of None_ (types.leading_intersection_type r p)
  unfolding types.leading_intersection_type
  leading_intersection p = of_mapped None_ (type_names.types_from p 0) (λ tys. frozen_Intersection tys r)

  conditional : (p : Value) → Of None_ (types.conditional_type r p)
  unfolding types.conditional_type
  conditional p =
      of_given None_ (type_at p 0) (λ check.
      of_given None_ (type_at p 1) (λ extends.
      of_given None_ (type_at p 2) (λ cons.
      of_given None_ (type_at p 3) (λ alt. one None_ (frozen_Conditional check extends cons alt r)))))

  import : (p : Value) → Of None_ (type_names.import_type x ts r p)
  unfolding type_names.import_type
  import p =
      of_given None_ (str_at x ts p 0) (λ arg.
      of_given None_ (optional entity_at (group p 1)) (λ qualifier.
      of_given None_ (optional arguments_at (group p 2)) (λ args. one None_ (frozen_Import arg qualifier args r))))

  asserts : (p : Value) → Of None_ (types.asserts_result x ts r p)
  unfolding types.asserts_result
  asserts p =
      of_given None_ (this_or_name_at x ts p 0) (λ name.
      of_given None_ (optional type_at (group p 1)) (λ ty. one None_ (frozen_Predicate true name ty r)))

  predicate : (p : Value) → Of None_ (types.predicate_result x ts r p)
  unfolding types.predicate_result
  predicate p =
      of_given None_ (this_or_name_at x ts p 0) (λ name.
      of_given None_ (type_at p 1) (λ ty. one None_ (frozen_Predicate false name (Some ty) r)))

  reference : (p : Value) → Of None_ (type_names.reference r p)
  unfolding type_names.reference
  reference p =
      of_given None_ (entity_at p 0) (λ name.
      of_given None_ (arguments_at p 1) (λ args. one None_ (frozen_Ref name (Some args) r)))

  named : (p : Value) → Of None_ (option_map (type_names.named r) (modules.entity x ts r p))
  named p = of_mapped None_ (modules.entity x ts r p) (λ name. frozen_Ref name None r)

  none_of : (label : NodeKind) (p : Value) → Others label → Of None_ (type_of x ts label r p)
  unfolding type_of
  none_of label p e =
      of_other None_ (same_label label l.FunctionType) (types.function_type r p) e.0
      (of_other None_ (same_label label l.ConstructorType) (types.constructor_type r p) e.1
      (of_if None_ (same_label label l.ConditionalType) (conditional p)
      (of_if None_ (same_label label l.UnionType) (union p)
      (of_if None_ (same_label label l.LeadingUnionType) (leading_union p)
      (of_if None_ (same_label label l.IntersectionType) (intersection p)
      (of_if None_ (same_label label l.LeadingIntersectionType) (leading_intersection p)
      (of_other None_ (same_label label l.TypeOperator) (types.type_operator ts r p) e.3
      (of_if None_ (same_label label l.InferType) (infer p)
      (of_other None_ (same_label label l.ArrayTypes) (types.array_types ts r p) e.2
      (of_if None_ (same_label label l.KeywordType) (keyword p)
      (of_if None_ (same_label label l.ThisType) (one None_ (frozen_This r))
      (of_if None_ (same_label label l.WordType) (word p)
      (of_if None_ (same_label label l.StrType) (str p)
      (of_if None_ (same_label label l.NumberType) (number p)
      (of_if None_ (same_label label l.TemplateType) (template p)
      (of_if None_ (same_label label l.TemplateTypes) (templates p)
      (of_if None_ (same_label label l.TypeQuery) (query p)
      (of_if None_ (same_label label l.ParenthesizedType) (paren p)
      (of_other None_ (same_label label l.MembersType) (types.members_type r p) e.4
      (of_other None_ (same_label label l.TupleType) (types.tuple_type r p) e.5
      (of_if None_ (same_label label l.MappedType) (mapped p)
      (of_if None_ (same_label label l.Reference) (reference p)
      (of_if None_ (same_label label l.ImportType) (import p)
      (of_if None_ (same_label label l.AssertsResult) (asserts p)
      (of_if None_ (same_label label l.PredicateResult) (predicate p)
      (of_if None_ (same_label label l.EntityOfType) (named p)
      (none None_)))))))))))))))))))))))))))

first : (b rest : Bool) → (if b then true else rest) ≡ false → (b ≡ false) × (rest ≡ false)
first true rest e = let bad : ⊥ = cc in absurd bad
first false rest e = (refl, e)

others : (label : NodeKind) → is_one_of frozen_labels label ≡ false → Others label
others label e =
    let a = first (same_label label l.FunctionType) _ e in
    let b = first (same_label label l.ConstructorType) _ a.1 in
    let c = first (same_label label l.ArrayTypes) _ b.1 in
    let d = first (same_label label l.TypeOperator) _ c.1 in
    let f = first (same_label label l.MembersType) _ d.1 in
    let g = first (same_label label l.TupleType) _ f.1 in
    (a.0, b.0, c.0, d.0, f.0, g.0)

pub other_type : (x : List ℕ) (ts : List Token) (label : NodeKind) (r : Range) (p : Value)
    → is_one_of frozen_labels label ≡ false → Of None_ (type_of x ts label r p)
other_type x ts label r p e = none_of x ts r label p (others label e)
