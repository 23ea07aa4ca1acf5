-- Which forms of types are those of arrays.
use Rattle.std.specs.Prelude.{ℕ, Bool, true, false, ◌&&◌, List, [], ◌∷◌, ◌++◌, Option, Some, option_map, if◌then◌else◌}
use Rattle.std.proofs.Common.{◌≡◌, refl, sym, ap, ◌∙◌}
use Rattle.base.specs.declared.range.Range.{Range}
use Rattle.es_token.specs.declared.token.Token.{Token}
use Rattle.es_token.specs.declared.token.TokenKind.TheVariants as k
use Rattle.grammar_theory.specs.Key.{same_kind}
use Rattle.es_grammar.specs.declared.rows.NodeKind.{NodeKind}
use Rattle.es_grammar.specs.declared.rows.NodeKind.TheVariants as l
use Rattle.es_ast.specs.declared.ts.leaf.Ident.{Ident}
use Rattle.es_ast.specs.declared.ts.leaf.Str.{Str}
use Rattle.es_ast.specs.declared.ts.leaf.TplElement.{TplElement}
use Rattle.es_ast.specs.declared.ts.leaf.TsEntityName.{TsEntityName}
use Rattle.es_ast.specs.declared.ts.leaf.TsKeywordTypeKind.{TsKeywordTypeKind}
use Rattle.es_ast.specs.declared.ts.leaf.TsLit.{TsLit}
use Rattle.es_ast.specs.declared.ts.leaf.TsThisTypeOrIdent.{TsThisTypeOrIdent}
use Rattle.es_ast.specs.declared.ts.leaf.TsTypeOperatorOp.{TsTypeOperatorOp}
use Rattle.es_ast.specs.declared.ts.leaf.TruePlusMinus.{TruePlusMinus}
use Rattle.es_ast.specs.declared.ts.leaf.TsLit.TheVariants as vLit
use Rattle.es_ast.specs.declared.ts.ts.Nodes.{Nodes}
use Rattle.es_ast.specs.declared.ts.ts.TsFnParam.{TsFnParam}
use Rattle.es_ast.specs.declared.ts.ts.TsTupleElement.{TsTupleElement}
use Rattle.es_ast.specs.declared.ts.ts.TsType.{TsType}
use Rattle.es_ast.specs.declared.ts.ts.TsTypeElement.{TsTypeElement}
use Rattle.es_ast.specs.declared.ts.ts.TsTypeParam.{TsTypeParam}
use Rattle.es_ast.specs.declared.ts.ts.TsType.TheVariants as vType
use Rattle.es_ast.specs.declared.ts.ts.TsType.TheOpen.{TsType-F}
use Rattle.es_ast.specs.declared.ts.ts.TsType.TheFolds.{fold-roll-TsType}
use Rattle.es_lowering.specs.Value.{Value, group, is_there, given, optional, turns, type_at, type_member_at, type_params_at, fn_params_at, entity_at, arguments_at}
use Rattle.es_lowering.specs.Texts.{token_at, kind_at, ident_at, str_at, piece_there, this_or_name_at}
use Rattle.es_lowering.specs.Modules as modules
use Rattle.es_lowering.specs.Types as types
use Rattle.es_lowering.specs.TypeNames as type_names
use Rattle.es_lowering.specs.TypeTexts.{numeric_lit, keyword_kinds, signed_in}
use Rattle.es_lowering.specs.Operators.{listed}
use Rattle.es_lowering.specs.Lowering.{same_label, type_of}
use Rattle.es_syntax.specs.Views.{is_one_of}
use Rattle.es_expr_spans.proofs.Given.{Of, one, none, of_given, of_mapped, of_if, of_other}
use Rattle.dts_rules.specs.Sets.{no_array, array_by, is_array_type, is_array_name, is_readonly}
use Rattle.dts_sets.specs.Forms.{array_labels, ArrayType}

pub array_Keyword : (kind : TsKeywordTypeKind) (span : Range) → is_array_type (vType.Keyword kind span) ≡ false
unfolding is_array_type
array_Keyword kind span =
    ap is_array_type (sym (vType.rolls-Keyword kind span))
    ∙ fold-roll-TsType Bool Bool Bool Bool Bool array_by no_array no_array no_array no_array
    (TsType-F.Keyword kind span)

pub array_This : (span : Range) → is_array_type (vType.This span) ≡ false
unfolding is_array_type
array_This span =
    ap is_array_type (sym (vType.rolls-This span))
    ∙ fold-roll-TsType Bool Bool Bool Bool Bool array_by no_array no_array no_array no_array (TsType-F.This span)

pub array_Lit : (lit : TsLit) → is_array_type (vType.Lit lit) ≡ false
unfolding is_array_type
array_Lit lit =
    ap is_array_type (sym (vType.rolls-Lit lit))
    ∙ fold-roll-TsType Bool Bool Bool Bool Bool array_by no_array no_array no_array no_array (TsType-F.Lit lit)

pub array_Tpl : (quasis : List TplElement) (types : List TsType) (span : Range) → is_array_type (vType.Tpl quasis
    types span) ≡ false
unfolding is_array_type
array_Tpl quasis types span =
    ap is_array_type (sym (vType.rolls-Tpl quasis types span))
    ∙ fold-roll-TsType Bool Bool Bool Bool Bool array_by no_array no_array no_array no_array
    (TsType-F.Tpl quasis types span)

pub array_Ref : (name : TsEntityName) (args : Option (Nodes TsType)) (span : Range) → is_array_type (vType.Ref name
    args span) ≡ is_array_name name.left name.rest
unfolding is_array_type
array_Ref name args span =
    ap is_array_type (sym (vType.rolls-Ref name args span))
    ∙ fold-roll-TsType Bool Bool Bool Bool Bool array_by no_array no_array no_array no_array
    (TsType-F.Ref name args span)

pub array_Query : (ty : TsType) (span : Range) → is_array_type (vType.Query ty span) ≡ false
unfolding is_array_type
array_Query ty span =
    ap is_array_type (sym (vType.rolls-Query ty span))
    ∙ fold-roll-TsType Bool Bool Bool Bool Bool array_by no_array no_array no_array no_array (TsType-F.Query ty span)

pub array_Import : (arg : Str) (qualifier : Option TsEntityName) (args : Option (Nodes TsType)) (span : Range) →
    is_array_type (vType.Import arg qualifier args span) ≡ false
unfolding is_array_type
array_Import arg qualifier args span =
    ap is_array_type (sym (vType.rolls-Import arg qualifier args span))
    ∙ fold-roll-TsType Bool Bool Bool Bool Bool array_by no_array no_array no_array no_array
    (TsType-F.Import arg qualifier args span)

pub array_Paren : (ty : TsType) (span : Range) → is_array_type (vType.Paren ty span) ≡ false
unfolding is_array_type
array_Paren ty span =
    ap is_array_type (sym (vType.rolls-Paren ty span))
    ∙ fold-roll-TsType Bool Bool Bool Bool Bool array_by no_array no_array no_array no_array (TsType-F.Paren ty span)

pub array_TypeLit : (members : List TsTypeElement) (span : Range) → is_array_type (vType.TypeLit members span) ≡
    false
unfolding is_array_type
array_TypeLit members span =
    ap is_array_type (sym (vType.rolls-TypeLit members span))
    ∙ fold-roll-TsType Bool Bool Bool Bool Bool array_by no_array no_array no_array no_array
    (TsType-F.TypeLit members span)

pub array_Tuple : (elems : List TsTupleElement) (span : Range) → is_array_type (vType.Tuple elems span) ≡ true
unfolding is_array_type
array_Tuple elems span =
    ap is_array_type (sym (vType.rolls-Tuple elems span))
    ∙ fold-roll-TsType Bool Bool Bool Bool Bool array_by no_array no_array no_array no_array (TsType-F.Tuple elems span)

pub array_Mapped : (readonly : TruePlusMinus) (name : Ident) (constraint : TsType) (name_type : Option TsType) (mark
    : TruePlusMinus) (ty : Option TsType) (span : Range) → is_array_type (vType.Mapped readonly name constraint
    name_type mark ty span) ≡ false
unfolding is_array_type
array_Mapped readonly name constraint name_type mark ty span =
    ap is_array_type (sym (vType.rolls-Mapped readonly name constraint name_type mark ty span))
    ∙ fold-roll-TsType Bool Bool Bool Bool Bool array_by no_array no_array no_array no_array
    (TsType-F.Mapped readonly name constraint name_type mark ty span)

pub array_Fn : (type_params : Option (Nodes TsTypeParam)) (params : List TsFnParam) (ty : TsType) (span : Range) →
    is_array_type (vType.Fn type_params params ty span) ≡ false
unfolding is_array_type
array_Fn type_params params ty span =
    ap is_array_type (sym (vType.rolls-Fn type_params params ty span))
    ∙ fold-roll-TsType Bool Bool Bool Bool Bool array_by no_array no_array no_array no_array
    (TsType-F.Fn type_params params ty span)

pub array_Constructor : (is_abstract : Bool) (type_params : Option (Nodes TsTypeParam)) (params : List TsFnParam)
    (ty : TsType) (span : Range) → is_array_type (vType.Constructor is_abstract type_params params ty span) ≡ false
unfolding is_array_type
array_Constructor is_abstract type_params params ty span =
    ap is_array_type (sym (vType.rolls-Constructor is_abstract type_params params ty span))
    ∙ fold-roll-TsType Bool Bool Bool Bool Bool array_by no_array no_array no_array no_array
    (TsType-F.Constructor is_abstract type_params params ty span)

pub array_Conditional : (check : TsType) (extends : TsType) (cons : TsType) (alt : TsType) (span : Range) →
    is_array_type (vType.Conditional check extends cons alt span) ≡ false
unfolding is_array_type
array_Conditional check extends cons alt span =
    ap is_array_type (sym (vType.rolls-Conditional check extends cons alt span))
    ∙ fold-roll-TsType Bool Bool Bool Bool Bool array_by no_array no_array no_array no_array
    (TsType-F.Conditional check extends cons alt span)

pub array_Union : (types : List TsType) (span : Range) → is_array_type (vType.Union types span) ≡ false
unfolding is_array_type
array_Union types span =
    ap is_array_type (sym (vType.rolls-Union types span))
    ∙ fold-roll-TsType Bool Bool Bool Bool Bool array_by no_array no_array no_array no_array (TsType-F.Union types span)

pub array_Intersection : (types : List TsType) (span : Range) → is_array_type (vType.Intersection types span) ≡
    false
unfolding is_array_type
array_Intersection types span =
    ap is_array_type (sym (vType.rolls-Intersection types span))
    ∙ fold-roll-TsType Bool Bool Bool Bool Bool array_by no_array no_array no_array no_array
    (TsType-F.Intersection types span)

pub array_Operator : (op : TsTypeOperatorOp) (ty : TsType) (span : Range) → is_array_type (vType.Operator op ty
    span) ≡ (is_readonly op && is_array_type ty)
unfolding is_array_type
array_Operator op ty span =
    ap is_array_type (sym (vType.rolls-Operator op ty span))
    ∙ fold-roll-TsType Bool Bool Bool Bool Bool array_by no_array no_array no_array no_array
    (TsType-F.Operator op ty span)

pub array_Infer : (name : Ident) (span : Range) → is_array_type (vType.Infer name span) ≡ false
unfolding is_array_type
array_Infer name span =
    ap is_array_type (sym (vType.rolls-Infer name span))
    ∙ fold-roll-TsType Bool Bool Bool Bool Bool array_by no_array no_array no_array no_array (TsType-F.Infer name span)

pub array_Array : (elem : TsType) (span : Range) → is_array_type (vType.Array elem span) ≡ true
unfolding is_array_type
array_Array elem span =
    ap is_array_type (sym (vType.rolls-Array elem span))
    ∙ fold-roll-TsType Bool Bool Bool Bool Bool array_by no_array no_array no_array no_array (TsType-F.Array elem span)

pub array_IndexedAccess : (obj : TsType) (index : TsType) (span : Range) → is_array_type (vType.IndexedAccess obj
    index span) ≡ false
unfolding is_array_type
array_IndexedAccess obj index span =
    ap is_array_type (sym (vType.rolls-IndexedAccess obj index span))
    ∙ fold-roll-TsType Bool Bool Bool Bool Bool array_by no_array no_array no_array no_array
    (TsType-F.IndexedAccess obj index span)

pub array_Predicate : (asserts : Bool) (name : TsThisTypeOrIdent) (ty : Option TsType) (span : Range) →
    is_array_type (vType.Predicate asserts name ty span) ≡ false
unfolding is_array_type
array_Predicate asserts name ty span =
    ap is_array_type (sym (vType.rolls-Predicate asserts name ty span))
    ∙ fold-roll-TsType Bool Bool Bool Bool Bool array_by no_array no_array no_array no_array
    (TsType-F.Predicate asserts name ty span)

abbrev None_ : TsType → Type 0
None_ ty = is_array_type ty ≡ false

abbrev Others : NodeKind → Type 0
Others label =
    (same_label label l.ArrayTypes ≡ false) × (same_label label l.TupleType ≡ false)
    × (same_label label l.TypeOperator ≡ false)
    × (same_label label l.Reference ≡ false) × (same_label label l.EntityOfType ≡ false)

module _ (x : List ℕ) (ts : List Token) (r : Range) where
  word : (p : Value) → Of None_ (types.word_type ts r p)
  unfolding types.word_type types.word_of
  word p =
      of_given None_ (kind_at ts p 0) (λ kind.
      of_if None_ (same_kind kind k.TrueWord) (one None_ (array_Lit (vLit.Bool true r)))
      (of_if None_ (same_kind kind k.FalseWord) (one None_ (array_Lit (vLit.Bool false r)))
      (of_mapped None_ (listed keyword_kinds kind) (λ kind. array_Keyword kind r))))

  keyword : (p : Value) → Of None_ (types.keyword_type ts r p)
  unfolding types.keyword_type
  keyword p = of_given None_ (given (kind_at ts p 0) (listed keyword_kinds)) (λ kind. one None_ (array_Keyword kind r))

  str : (p : Value) → Of None_ (types.str_type x ts p)
  unfolding types.str_type
  str p = of_mapped None_ (str_at x ts p 0) (λ s. array_Lit (vLit.Str s))

  number : (p : Value) → Of None_ (types.number_type x ts r p)
  unfolding types.number_type
  number p = of_mapped None_ (given (token_at ts p 1) (numeric_lit x (is_there (group p 0)) r)) array_Lit

  template : (p : Value) → Of None_ (types.template_type x ts r p)
  unfolding types.template_type
  template p = of_mapped None_ (piece_there x ts p 0) (λ piece. array_Tpl (piece ∷ []) [] r)

  templates : (p : Value) → Of None_ (types.template_types x ts r p)
  unfolding types.template_types
  templates p =
      of_given None_ (piece_there x ts p 0) (λ head.
      of_given None_ (type_at p 1) (λ first.
      of_given None_ (turns (λ turn. piece_there x ts turn 0) (group p 2)) (λ middles.
      of_given None_ (turns (λ turn. type_at turn 1) (group p 2)) (λ others.
      of_given None_ (piece_there x ts p 3) (λ tail.
      one None_ (array_Tpl (head ∷ (middles ++ tail ∷ [])) (first ∷ others) r))))))

  paren : (p : Value) → Of None_ (types.parenthesized_type r p)
  unfolding types.parenthesized_type
  paren p = of_mapped None_ (type_at p 0) (λ ty. array_Paren ty r)

  members : (p : Value) → Of None_ (types.members_type r p)
  unfolding types.members_type
  members p = of_mapped None_ (turns (λ turn. type_member_at turn 0) (group p 0)) (λ members. array_TypeLit members r)

  query : (p : Value) → Of None_ (types.type_query r p)
  unfolding types.type_query
  query p = of_mapped None_ (type_at (group p 0) 0) (λ ty. array_Query ty r)

  mapped : (p : Value) → Of None_ (types.mapped_type x ts r p)
  unfolding types.mapped_type
  mapped p =
      of_given None_ (signed_in ts (group p 0)) (λ readonly.
      of_given None_ (ident_at x ts p 1) (λ name.
      of_given None_ (type_at p 2) (λ constraint.
      of_given None_ (optional type_at (group p 3)) (λ name_type.
      of_given None_ (signed_in ts (group p 4)) (λ mark.
      of_given None_ (optional type_at (group p 5)) (λ ty.
      one None_ (array_Mapped readonly name constraint name_type mark ty r)))))))

  infer : (p : Value) → Of None_ (types.infer_type x ts r p)
  unfolding types.infer_type
  infer p = of_mapped None_ (ident_at x ts p 0) (λ name. array_Infer name r)

  union : (p : Value) → Of None_ (types.union_type r p)
  unfolding types.union_type
  union p = of_mapped None_ (types.operands p) (λ tys. array_Union tys r)

  leading_union : (p : Value) → Of None_ (types.leading_union_type r p)
  unfolding types.leading_union_type
  leading_union p = of_mapped None_ (type_names.types_from p 0) (λ tys. array_Union tys r)

  intersection : (p : Value) → Of None_ (types.intersection_type r p)
  unfolding types.intersection_type
  intersection p = of_mapped None_ (types.operands p) (λ tys. array_Intersection tys r)

  leading_intersection : (p : Value) → Of None_ (types.leading_intersection_type r p)
  unfolding types.leading_intersection_type
  leading_intersection p = of_mapped None_ (type_names.types_from p 0) (λ tys. array_Intersection tys r)

  conditional : (p : Value) → Of None_ (types.conditional_type r p)
  unfolding types.conditional_type
  conditional p =
      of_given None_ (type_at p 0) (λ check.
      of_given None_ (type_at p 1) (λ extends.
      of_given None_ (type_at p 2) (λ cons.
      of_given None_ (type_at p 3) (λ alt. one None_ (array_Conditional check extends cons alt r)))))

  function : (p : Value) → Of None_ (types.function_type r p)
  unfolding types.function_type
  function p =
      of_given None_ (optional type_params_at (group p 0)) (λ type_params.
      of_given None_ (fn_params_at p 1) (λ params.
      of_given None_ (type_at p 2) (λ ty. one None_ (array_Fn type_params params ty r))))

  constructor : (p : Value) → Of None_ (types.constructor_type r p)
  unfolding types.constructor_type
  constructor p =
      of_given None_ (optional type_params_at (group p 1)) (λ type_params.
      of_given None_ (fn_params_at p 2) (λ params.
      of_given None_ (type_at p 3)
      (λ ty. one None_ (array_Constructor (is_there (group p 0)) type_params params ty r))))

  import : (p : Value) → Of None_ (type_names.import_type x ts r p)
  unfolding type_names.import_type
  import p =
      of_given None_ (str_at x ts p 0) (λ arg.
      of_given None_ (optional entity_at (group p 1)) (λ qualifier.
      of_given None_ (optional arguments_at (group p 2)) (λ args. one None_ (array_Import arg qualifier args r))))

  asserts : (p : Value) → Of None_ (types.asserts_result x ts r p)
  unfolding types.asserts_result
  asserts p =
      of_given None_ (this_or_name_at x ts p 0) (λ name.
      of_given None_ (optional type_at (group p 1)) (λ ty. one None_ (array_Predicate true name ty r)))

  predicate : (p : Value) → Of None_ (types.predicate_result x ts r p)
  unfolding types.predicate_result
  predicate p =
      of_given None_ (this_or_name_at x ts p 0) (λ name.
      of_given None_ (type_at p 1) (λ ty. one None_ (array_Predicate false name (Some ty) r)))

  none_of : (label : NodeKind) (p : Value) → Others label → Of None_ (type_of x ts label r p)
  unfolding type_of
  none_of label p e =
      of_if None_ (same_label label l.FunctionType) (function p)
      (of_if None_ (same_label label l.ConstructorType) (constructor p)
      (of_if None_ (same_label label l.ConditionalType) (conditional p)
      (of_if None_ (same_label label l.UnionType) (union p)
      (of_if None_ (same_label label l.LeadingUnionType) (leading_union p)
      (of_if None_ (same_label label l.IntersectionType) (intersection p)
      (of_if None_ (same_label label l.LeadingIntersectionType) (leading_intersection p)
      (of_other None_ (same_label label l.TypeOperator) (types.type_operator ts r p) e.2
      (of_if None_ (same_label label l.InferType) (infer p)
      (of_other None_ (same_label label l.ArrayTypes) (types.array_types ts r p) e.0
      (of_if None_ (same_label label l.KeywordType) (keyword p)
      (of_if None_ (same_label label l.ThisType) (one None_ (array_This r))
      (of_if None_ (same_label label l.WordType) (word p)
      (of_if None_ (same_label label l.StrType) (str p)
      (of_if None_ (same_label label l.NumberType) (number p)
      (of_if None_ (same_label label l.TemplateType) (template p)
      (of_if None_ (same_label label l.TemplateTypes) (templates p)
      (of_if None_ (same_label label l.TypeQuery) (query p)
      (of_if None_ (same_label label l.ParenthesizedType) (paren p)
      (of_if None_ (same_label label l.MembersType) (members p)
      (of_other None_ (same_label label l.TupleType) (types.tuple_type r p) e.1
      (of_if None_ (same_label label l.MappedType) (mapped p)
      (of_other None_ (same_label label l.Reference) (type_names.reference r p) e.3
      (of_if None_ (same_label label l.ImportType) (import p)
      (of_if None_ (same_label label l.AssertsResult) (asserts p)
      (of_if None_ (same_label label l.PredicateResult) (predicate p)
      (of_other None_ (same_label label l.EntityOfType) (option_map (type_names.named r) (modules.entity x ts r p)) e.4
      (none None_)))))))))))))))))))))))))))

first : (b rest : Bool) → (if b then true else rest) ≡ false → (b ≡ false) × (rest ≡ false)
first true rest e = let bad : ⊥ = cc in absurd bad
first false rest e = (refl, e)

others : (label : NodeKind) → is_one_of array_labels label ≡ false → Others label
others label e =
    let a = first (same_label label l.ArrayTypes) _ e in
    let b = first (same_label label l.TupleType) _ a.1 in
    let c = first (same_label label l.TypeOperator) _ b.1 in
    let d = first (same_label label l.Reference) _ c.1 in
    let f = first (same_label label l.EntityOfType) _ d.1 in
    (a.0, b.0, c.0, d.0, f.0)

pub other_type : (x : List ℕ) (ts : List Token) (label : NodeKind) (r : Range) (p : Value)
    → is_one_of array_labels label ≡ false → ArrayType false (type_of x ts label r p)
other_type x ts label r p e = (none_of x ts r label p (others label e)).is
