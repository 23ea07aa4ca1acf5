-- Which forms of types are number literals: none but those.
use Rattle.std.specs.Prelude.{ℕ, Bool, true, false, List, [], ◌∷◌, ◌++◌, Option, Some, None, option_map, IfSome}
use Rattle.std.proofs.Common.{◌≡◌, refl, sym, ap, ◌∙◌}
use Rattle.base.specs.declared.range.Range.{Range}
use Rattle.es_token.specs.declared.token.Token.{Token}
use Rattle.es_token.specs.declared.token.TokenKind.TheVariants as k
use Rattle.grammar_theory.specs.Key.{same_kind}
use Rattle.es_grammar.specs.declared.rows.NodeKind.{NodeKind}
use Rattle.es_grammar.specs.declared.rows.NodeKind.TheVariants as l
use Rattle.es_ast.specs.declared.ts.leaf.TsLit.TheVariants as vLit
use Rattle.es_ast.specs.declared.ts.ts.TsFnParam.{TsFnParam}
use Rattle.es_ast.specs.declared.ts.ts.TsTupleElement.{TsTupleElement}
use Rattle.es_ast.specs.declared.ts.ts.TsType.{TsType, roll-TsType, out-TsType, out-roll-TsType}
use Rattle.es_ast.specs.declared.ts.ts.TsTypeElement.{TsTypeElement}
use Rattle.es_ast.specs.declared.ts.ts.TsTypeParam.{TsTypeParam}
use Rattle.es_ast.specs.declared.ts.ts.TsType.TheVariants as vType
use Rattle.es_ast.specs.declared.ts.ts.TsType.TheOpen.{TsType-F}
use Rattle.es_lowering.specs.Value.{Value, absent, nil, more, token, node, part, as_group, group, is_there, behind, given, optional, turns, type_at, element_at, type_member_at, type_params_at, fn_params_at, entity_at, arguments_at}
use Rattle.es_lowering.specs.Texts.{kind_at, ident_at, str_at, piece_there, this_or_name_at}
use Rattle.es_lowering.specs.Modules as modules
use Rattle.es_lowering.specs.Types as types
use Rattle.es_lowering.specs.TypeNames as type_names
use Rattle.es_lowering.specs.TypeTexts.{keyword_kinds, type_operators, signed_in}
use Rattle.es_lowering.specs.Operators.{listed}
use Rattle.es_lowering.specs.Lowering.{same_label, type_of}
use Rattle.es_expr_spans.proofs.Given.{Of, one, none, of_given, of_mapped, of_if, of_other}
use Rattle.dts_rules.specs.Rules.{is_number_by, is_number_type}

-- a type is what it was made of
pub by_form : (w : TsType-F TsType TsTypeElement TsFnParam TsTupleElement TsTypeParam) (b : Bool) → is_number_by w ≡ b
    → {ty : TsType} → roll-TsType w ≡ ty → is_number_type (Some ty) ≡ b
by_form w b is rolls = ap is_number_by (ap out-TsType (sym rolls) ∙ out-roll-TsType w) ∙ is

plain : (w : TsType-F TsType TsTypeElement TsFnParam TsTupleElement TsTypeParam) → is_number_by w ≡ false
    → {ty : TsType} → roll-TsType w ≡ ty → is_number_type (Some ty) ≡ false
plain w is rolls = by_form w false is rolls

abbrev None_ : TsType → Type 0
None_ ty = is_number_type (Some ty) ≡ false

module _ (x : List ℕ) (ts : List Token) (r : Range) where
  word : (p : Value) → Of None_ (types.word_type ts r p)
  unfolding types.word_type types.word_of
  word p =
      of_given None_ (kind_at ts p 0) (λ kind.
      of_if None_ (same_kind kind k.TrueWord)
      (one None_ (plain (TsType-F.Lit (vLit.Bool true r)) refl (vType.rolls-Lit (vLit.Bool true r))))
      (of_if None_ (same_kind kind k.FalseWord)
      (one None_ (plain (TsType-F.Lit (vLit.Bool false r)) refl (vType.rolls-Lit (vLit.Bool false r))))
      (of_mapped None_ (listed keyword_kinds kind)
      (λ kind. plain (TsType-F.Keyword kind r) refl (vType.rolls-Keyword kind r)))))

  keyword : (p : Value) → Of None_ (types.keyword_type ts r p)
  unfolding types.keyword_type
  keyword p = of_given None_ (given (kind_at ts p 0) (listed keyword_kinds))
      (λ kind. one None_ (plain (TsType-F.Keyword kind r) refl (vType.rolls-Keyword kind r)))

  str : (p : Value) → Of None_ (types.str_type x ts p)
  unfolding types.str_type
  str p = of_mapped None_ (str_at x ts p 0) (λ s. plain (TsType-F.Lit (vLit.Str s)) refl (vType.rolls-Lit (vLit.Str s)))

  template : (p : Value) → Of None_ (types.template_type x ts r p)
  unfolding types.template_type
  template p = of_mapped None_ (piece_there x ts p 0)
      (λ piece. plain (TsType-F.Tpl (piece ∷ []) [] r) refl (vType.rolls-Tpl (piece ∷ []) [] r))

  templates : (p : Value) → Of None_ (types.template_types x ts r p)
  unfolding types.template_types
  templates p =
      of_given None_ (piece_there x ts p 0) (λ head.
      of_given None_ (type_at p 1) (λ first.
      of_given None_ (turns (λ turn. piece_there x ts turn 0) (group p 2)) (λ middles.
      of_given None_ (turns (λ turn. type_at turn 1) (group p 2)) (λ others.
      of_given None_ (piece_there x ts p 3) (λ tail.
      one None_ (plain (TsType-F.Tpl (head ∷ (middles ++ tail ∷ [])) (first ∷ others) r) refl
      (vType.rolls-Tpl (head ∷ (middles ++ tail ∷ [])) (first ∷ others) r)))))))

  paren : (p : Value) → Of None_ (types.parenthesized_type r p)
  unfolding types.parenthesized_type
  paren p = of_mapped None_ (type_at p 0) (λ ty. plain (TsType-F.Paren ty r) refl (vType.rolls-Paren ty r))

  members : (p : Value) → Of None_ (types.members_type r p)
  unfolding types.members_type
  members p = of_mapped None_ (turns (λ turn. type_member_at turn 0) (group p 0))
      (λ members. plain (TsType-F.TypeLit members r) refl (vType.rolls-TypeLit members r))

  query : (p : Value) → Of None_ (types.type_query r p)
  unfolding types.type_query
  query p = of_mapped None_ (type_at (group p 0) 0) (λ ty. plain (TsType-F.Query ty r) refl (vType.rolls-Query ty r))

  mapped : (p : Value) → Of None_ (types.mapped_type x ts r p)
  unfolding types.mapped_type
  mapped p =
      of_given None_ (signed_in ts (group p 0)) (λ readonly.
      of_given None_ (ident_at x ts p 1) (λ name.
      of_given None_ (type_at p 2) (λ constraint.
      of_given None_ (optional type_at (group p 3)) (λ name_type.
      of_given None_ (signed_in ts (group p 4)) (λ mark.
      of_given None_ (optional type_at (group p 5)) (λ ty.
      one None_ (plain (TsType-F.Mapped readonly name constraint name_type mark ty r) refl
      (vType.rolls-Mapped readonly name constraint name_type mark ty r))))))))

  infer : (p : Value) → Of None_ (types.infer_type x ts r p)
  unfolding types.infer_type
  infer p = of_mapped None_ (ident_at x ts p 0) (λ name. plain (TsType-F.Infer name r) refl (vType.rolls-Infer name r))

  union : (p : Value) → Of None_ (types.union_type r p)
  unfolding types.union_type
  union p = of_mapped None_ (types.operands p) (λ tys. plain (TsType-F.Union tys r) refl (vType.rolls-Union tys r))

  leading_union : (p : Value) → Of None_ (types.leading_union_type r p)
  unfolding types.leading_union_type
  leading_union p = of_mapped None_ (type_names.types_from p 0)
      (λ tys. plain (TsType-F.Union tys r) refl (vType.rolls-Union tys r))

  intersection : (p : Value) → Of None_ (types.intersection_type r p)
  unfolding types.intersection_type
  intersection p = of_mapped None_ (types.operands p)
      (λ tys. plain (TsType-F.Intersection tys r) refl (vType.rolls-Intersection tys r))

  leading_intersection : (p : Value) → Of None_ (types.leading_intersection_type r p)
  unfolding types.leading_intersection_type
  leading_intersection p =
      of_mapped None_ (type_names.types_from p 0)
      (λ tys. plain (TsType-F.Intersection tys r) refl (vType.rolls-Intersection tys r))

  conditional : (p : Value) → Of None_ (types.conditional_type r p)
  unfolding types.conditional_type
  conditional p =
      of_given None_ (type_at p 0) (λ check.
      of_given None_ (type_at p 1) (λ extends.
      of_given None_ (type_at p 2) (λ cons.
      of_given None_ (type_at p 3)
      (λ alt. one None_ (plain (TsType-F.Conditional check extends cons alt r) refl
      (vType.rolls-Conditional check extends cons alt r))))))

  function : (p : Value) → Of None_ (types.function_type r p)
  unfolding types.function_type
  function p =
      of_given None_ (optional type_params_at (group p 0)) (λ type_params.
      of_given None_ (fn_params_at p 1) (λ params.
      of_given None_ (type_at p 2)
      (λ ty. one None_ (plain (TsType-F.Fn type_params params ty r) refl
      (vType.rolls-Fn type_params params ty r)))))

  constructor : (p : Value) → Of None_ (types.constructor_type r p)
  unfolding types.constructor_type
  constructor p =
      of_given None_ (optional type_params_at (group p 1)) (λ type_params.
      of_given None_ (fn_params_at p 2) (λ params.
      of_given None_ (type_at p 3)
      (λ ty. one None_ (plain (TsType-F.Constructor (is_there (group p 0)) type_params params ty r) refl
      (vType.rolls-Constructor (is_there (group p 0)) type_params params ty r)))))

  import : (p : Value) → Of None_ (type_names.import_type x ts r p)
  unfolding type_names.import_type
  import p =
      of_given None_ (str_at x ts p 0) (λ arg.
      of_given None_ (optional entity_at (group p 1)) (λ qualifier.
      of_given None_ (optional arguments_at (group p 2))
      (λ args. one None_ (plain (TsType-F.Import arg qualifier args r) refl
      (vType.rolls-Import arg qualifier args r)))))

  asserts : (p : Value) → Of None_ (types.asserts_result x ts r p)
  unfolding types.asserts_result
  asserts p =
      of_given None_ (this_or_name_at x ts p 0) (λ name.
      of_given None_ (optional type_at (group p 1))
      (λ ty. one None_ (plain (TsType-F.Predicate true name ty r) refl (vType.rolls-Predicate true name ty r))))

  predicate : (p : Value) → Of None_ (types.predicate_result x ts r p)
  unfolding types.predicate_result
  predicate p =
      of_given None_ (this_or_name_at x ts p 0) (λ name.
      of_given None_ (type_at p 1)
      (λ ty. one None_ (plain (TsType-F.Predicate false name (Some ty) r) refl
      (vType.rolls-Predicate false name (Some ty) r))))

  operator : (p : Value) → Of None_ (types.type_operator ts r p)
  unfolding types.type_operator
  operator p =
      of_given None_ (given (kind_at ts p 0) (listed type_operators)) (λ op.
      of_given None_ (type_at p 1)
      (λ ty. one None_ (plain (TsType-F.Operator op ty r) refl (vType.rolls-Operator op ty r))))

  tuple : (p : Value) → Of None_ (types.tuple_type r p)
  unfolding types.tuple_type
  tuple p =
      of_mapped None_ (turns (λ turn. element_at turn 0) (group p 0))
      (λ elems. plain (TsType-F.Tuple elems r) refl (vType.rolls-Tuple elems r))

  reference : (p : Value) → Of None_ (type_names.reference r p)
  unfolding type_names.reference
  reference p =
      of_given None_ (entity_at p 0) (λ name.
      of_given None_ (arguments_at p 1) (λ args.
      one None_ (plain (TsType-F.Ref name (Some args) r) refl (vType.rolls-Ref name (Some args) r))))

  named : (p : Value) → Of None_ (option_map (type_names.named r) (modules.entity x ts r p))
  named p =
      of_mapped None_ (modules.entity x ts r p)
      (λ name. plain (TsType-F.Ref name None r) refl (vType.rolls-Ref name None r))

  -- `a[]`, `a[b]`
  indexed : (start end : ℕ) (ty : TsType) (index : Option TsType) → None_ (types.indexed ts start end ty index)
  indexed start end ty None = plain (TsType-F.Array ty _) refl (vType.rolls-Array ty _)
  indexed start end ty (Some index) =
      plain (TsType-F.IndexedAccess ty index _) refl (vType.rolls-IndexedAccess ty index _)

  indexes : (row : Value) (start at : ℕ) (ty : TsType) → None_ ty → Of None_ (types.indexes ts start at ty row)
  indexes (more v vs) start at ty known =
      of_given None_ (optional type_at (group (as_group v) 0)) (λ index.
      indexes vs start (types.bracket_end at (group (as_group v) 0)) _
      (indexed start (types.bracket_end at (group (as_group v) 0)) ty index))
  indexes absent start at ty known = one None_ known
  indexes nil start at ty known = one None_ known
  indexes (token n) start at ty known = one None_ known
  indexes (node from to m) start at ty known = one None_ known

  bracketed : (p : Value) → Of None_ (types.array_types ts r p)
  unfolding types.array_types
  bracketed p =
      of_given None_ (type_at p 0) (λ ty.
      of_given None_ (optional type_at (group p 1)) (λ index.
      indexes (group p 2) r.start (types.bracket_end (behind (part p 0)) (group p 1)) _
      (indexed r.start (types.bracket_end (behind (part p 0)) (group p 1)) ty index)))

  none_of : (label : NodeKind) (p : Value) → same_label label l.NumberType ≡ false → Of None_ (type_of x ts label r p)
  unfolding type_of
  none_of label p e =
      of_if None_ (same_label label l.FunctionType) (function p)
      (of_if None_ (same_label label l.ConstructorType) (constructor p)
      (of_if None_ (same_label label l.ConditionalType) (conditional p)
      (of_if None_ (same_label label l.UnionType) (union p)
      (of_if None_ (same_label label l.LeadingUnionType) (leading_union p)
      (of_if None_ (same_label label l.IntersectionType) (intersection p)
      (of_if None_ (same_label label l.LeadingIntersectionType) (leading_intersection p)
      (of_if None_ (same_label label l.TypeOperator) (operator p)
      (of_if None_ (same_label label l.InferType) (infer p)
      (of_if None_ (same_label label l.ArrayTypes) (bracketed p)
      (of_if None_ (same_label label l.KeywordType) (keyword p)
      (of_if None_ (same_label label l.ThisType) (one None_ (plain (TsType-F.This r) refl (vType.rolls-This r)))
      (of_if None_ (same_label label l.WordType) (word p)
      (of_if None_ (same_label label l.StrType) (str p)
      (of_other None_ (same_label label l.NumberType) (types.number_type x ts r p) e
      (of_if None_ (same_label label l.TemplateType) (template p)
      (of_if None_ (same_label label l.TemplateTypes) (templates p)
      (of_if None_ (same_label label l.TypeQuery) (query p)
      (of_if None_ (same_label label l.ParenthesizedType) (paren p)
      (of_if None_ (same_label label l.MembersType) (members p)
      (of_if None_ (same_label label l.TupleType) (tuple p)
      (of_if None_ (same_label label l.MappedType) (mapped p)
      (of_if None_ (same_label label l.Reference) (reference p)
      (of_if None_ (same_label label l.ImportType) (import p)
      (of_if None_ (same_label label l.AssertsResult) (asserts p)
      (of_if None_ (same_label label l.PredicateResult) (predicate p)
      (of_if None_ (same_label label l.EntityOfType) (named p)
      (none None_)))))))))))))))))))))))))))

pub other_type : (x : List ℕ) (ts : List Token) (label : NodeKind) (r : Range) (p : Value)
    → same_label label l.NumberType ≡ false → IfSome (type_of x ts label r p) None_
other_type x ts label r p e = (none_of x ts r label p e).is
