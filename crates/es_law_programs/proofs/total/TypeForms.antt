-- What the nodes of types are, where their parts are such.
use Rattle.std.specs.Prelude.{true, false, List, Option, Some, None, option_map}
use Rattle.std.proofs.Common.{ℕ, ◌+◌}
use Rattle.base.specs.declared.range.Range.{Range}
use Rattle.es_token.specs.declared.token.Token.{Token}
use Rattle.es_token.specs.declared.token.TokenKind.TheVariants as k
use Rattle.es_ast.specs.declared.ts.leaf.MethodKind.TheVariants as vMethod
use Rattle.es_ast.specs.declared.ts.leaf.TsEntityName.{TsEntityName}
use Rattle.es_ast.specs.declared.ts.ts.Nodes.{Nodes}
use Rattle.es_ast.specs.declared.ts.ts.TsParamPat.TheVariants as vTypePat
use Rattle.es_ast.specs.declared.ts.ts.TsType.{TsType}
use Rattle.es_ast.specs.declared.ts.ts.TsType.TheVariants as vType
use Rattle.es_grammar.specs.declared.rows.NodeKind.TheVariants as l
use Rattle.es_lowering.specs.Value.{Value, absent, given, part, group, behind, optional, is_there, turns, entity_at, type_at, arguments_at, type_params_at, element_at, type_member_at, type_key_at, fn_params_at, fn_param_at, type_pat_at, type_name_at, type_prop_at}
use Rattle.es_lowering.specs.Texts.{token_at, kind_at, ident_at, str_at, piece_there, this_or_name_at}
use Rattle.es_lowering.specs.Operators.{listed, accessor_kinds}
use Rattle.es_lowering.specs.TypeTexts.{number_at, keyword_kinds, type_operators, signed_in, numeric_lit}
use Rattle.es_lowering.specs.Expressions as exprs
use Rattle.es_lowering.specs.Modules as modules
use Rattle.es_lowering.specs.TypeNames as type_names
use Rattle.es_lowering.specs.TypePatterns as type_pats
use Rattle.es_lowering.specs.TypeMembers as type_members
use Rattle.es_lowering.specs.Types as types
use Rattle.es_law_programs.proofs.total.Uses.{as_entity, as_type, as_arguments, as_type_params, as_element, as_type_member, as_fn_param, as_type_pat, as_type_prop, IsThere}
use Rattle.es_law_programs.proofs.total.Needs.{rest, of, leaf, word, maybe, list, Meets}
use Rattle.es_law_programs.proofs.total.Words.{given_there, map_there, is_piece, listed_there, type_word_found, number_lit_found, piece_found}
use Rattle.es_law_programs.proofs.total.Parts.{optional_in, turns_in, elements_in, holds_found, type_marked_found, signed_found, indexes_in, bracket_found}
use Rattle.es_law_programs.proofs.total.Table.{needs_type, needs_arguments, needs_type_params, needs_element, needs_type_member, needs_type_key, needs_type_pat, needs_type_prop, needs_fn_param, needs_fn_params, needs_reference}

module _ (x : List ℕ) (ts : List Token) where
  pub type_FunctionType : (from : ℕ) (r : Range) (p : Value) → Meets ts absent (needs_type l.FunctionType) (part p)
      → IsThere (types.function_type r p)
  unfolding types.function_type
  type_FunctionType from r p m =
      given_there (optional type_params_at (group p 0)) _
      (optional_in (λ v. Meets ts absent (of as_type_params rest) (part v)) type_params_at (λ g1 h1. h1.0)
      (part p 0) m.0) (λ a2. given_there (fn_params_at p 1) _ m.1.0
      (λ a3. given_there (type_at p 2) _ m.1.1.0 (λ a4. tt)))

  pub type_ConstructorType : (from : ℕ) (r : Range) (p : Value)
      → Meets ts absent (needs_type l.ConstructorType) (part p) → IsThere (types.constructor_type r p)
  unfolding types.constructor_type
  type_ConstructorType from r p m =
      given_there (optional type_params_at (group p 1)) _
      (optional_in (λ v. Meets ts absent (of as_type_params rest) (part v)) type_params_at (λ g1 h1. h1.0)
      (part p 1) m.1.0) (λ a2. given_there (fn_params_at p 2) _ m.1.1.0
      (λ a3. given_there (type_at p 3) _ m.1.1.1.0 (λ a4. tt)))

  pub type_ConditionalType : (from : ℕ) (r : Range) (p : Value)
      → Meets ts absent (needs_type l.ConditionalType) (part p) → IsThere (types.conditional_type r p)
  unfolding types.conditional_type
  type_ConditionalType from r p m =
      given_there (type_at p 0) _ m.0
      (λ a1. given_there (type_at p 1) _ m.1.0
      (λ a2. given_there (type_at p 2) _ m.1.1.0 (λ a3. given_there (type_at p 3) _ m.1.1.1.0 (λ a4. tt))))

  pub type_UnionType : (from : ℕ) (r : Range) (p : Value) → Meets ts absent (needs_type l.UnionType) (part p)
      → IsThere (types.union_type r p)
  unfolding types.union_type
  type_UnionType from r p m =
      map_there (types.operands p) _
      (given_there (type_at p 0) _ m.0
      (λ a1. given_there (type_at p 1) _ m.1.0
      (λ a2. given_there (turns (λ turn. type_at turn 0) (group p 2)) _
      (turns_in (λ v. Meets ts absent (of as_type rest) (part v)) (λ turn. type_at turn 0)
      (λ t3 h3. h3.0) (part p 2) m.1.1.0) (λ a4. tt))))

  pub type_LeadingUnionType : (from : ℕ) (r : Range) (p : Value)
      → Meets ts absent (needs_type l.LeadingUnionType) (part p) → IsThere (types.leading_union_type r p)
  unfolding types.leading_union_type
  type_LeadingUnionType from r p m =
      map_there (type_names.types_from p 0) _
      (given_there (type_at p 0) _ m.0
      (λ a1. given_there (turns (λ turn. type_at turn 0) (group p 1)) _
      (turns_in (λ v. Meets ts absent (of as_type rest) (part v)) (λ turn. type_at turn 0) (λ t2 h2. h2.0)
      (part p 1) m.1.0) (λ a3. tt)))

  pub type_IntersectionType : (from : ℕ) (r : Range) (p : Value)
      → Meets ts absent (needs_type l.IntersectionType) (part p) → IsThere (types.intersection_type r p)
  unfolding types.intersection_type
  type_IntersectionType from r p m =
      map_there (types.operands p) _
      (given_there (type_at p 0) _ m.0
      (λ a1. given_there (type_at p 1) _ m.1.0
      (λ a2. given_there (turns (λ turn. type_at turn 0) (group p 2)) _
      (turns_in (λ v. Meets ts absent (of as_type rest) (part v)) (λ turn. type_at turn 0)
      (λ t3 h3. h3.0) (part p 2) m.1.1.0) (λ a4. tt))))

  pub type_LeadingIntersectionType : (from : ℕ) (r : Range) (p : Value)
      → Meets ts absent (needs_type l.LeadingIntersectionType) (part p) → IsThere (types.leading_intersection_type r p)
  unfolding types.leading_intersection_type
  type_LeadingIntersectionType from r p m =
      map_there (type_names.types_from p 0) _
      (given_there (type_at p 0) _ m.0
      (λ a1. given_there (turns (λ turn. type_at turn 0) (group p 1)) _
      (turns_in (λ v. Meets ts absent (of as_type rest) (part v)) (λ turn. type_at turn 0) (λ t2 h2. h2.0)
      (part p 1) m.1.0) (λ a3. tt)))

  pub type_TypeOperator : (from : ℕ) (r : Range) (p : Value) → Meets ts absent (needs_type l.TypeOperator) (part p)
      → IsThere (types.type_operator ts r p)
  unfolding type_operators types.type_operator
  type_TypeOperator from r p m =
      given_there (given (kind_at ts p 0) (listed type_operators)) _
      (listed_there type_operators (token_at ts p 0) m.0) (λ a1. given_there (type_at p 1) _ m.1.0 (λ a2. tt))

  pub type_InferType : (from : ℕ) (r : Range) (p : Value) → Meets ts absent (needs_type l.InferType) (part p)
      → IsThere (types.infer_type x ts r p)
  unfolding types.infer_type
  type_InferType from r p m = map_there (ident_at x ts p 0) _ (map_there (token_at ts p 0) _ m.0)

  pub type_ArrayTypes : (from : ℕ) (r : Range) (p : Value) → Meets ts absent (needs_type l.ArrayTypes) (part p)
      → IsThere (types.array_types ts r p)
  unfolding types.array_types
  type_ArrayTypes from r p m =
      given_there (type_at p 0) _ m.0
      (λ a1. given_there (optional type_at (group p 1)) _
      (optional_in (λ v. Meets ts absent (of as_type rest) (part v)) type_at (λ g2 h2. h2.0) (part p 1) m.1.0)
      (λ a3. indexes_in x ts r.start (types.bracket_end (behind (part p 0)) (group p 1))
      (types.indexed ts r.start (types.bracket_end (behind (part p 0)) (group p 1)) a1 a3) (part p 2)
      m.1.1.0))

  pub type_KeywordType : (from : ℕ) (r : Range) (p : Value) → Meets ts absent (needs_type l.KeywordType) (part p)
      → IsThere (types.keyword_type ts r p)
  unfolding keyword_kinds types.keyword_type
  type_KeywordType from r p m =
      given_there (given (kind_at ts p 0) (listed keyword_kinds)) _ (listed_there keyword_kinds (token_at ts p 0) m.0)
      (λ a1. tt)

  pub type_ThisType : (from : ℕ) (r : Range) (p : Value) → Meets ts absent (needs_type l.ThisType) (part p)
      → IsThere (Some (vType.This r))
  type_ThisType from r p m = tt

  pub type_WordType : (from : ℕ) (r : Range) (p : Value) → Meets ts absent (needs_type l.WordType) (part p)
      → IsThere (types.word_type ts r p)
  unfolding types.word_type
  type_WordType from r p m = type_word_found r (token_at ts p 0) m.0

  pub type_StrType : (from : ℕ) (r : Range) (p : Value) → Meets ts absent (needs_type l.StrType) (part p)
      → IsThere (types.str_type x ts p)
  unfolding types.str_type
  type_StrType from r p m = map_there (str_at x ts p 0) _ (map_there (token_at ts p 0) _ m.0)

  pub type_NumberType : (from : ℕ) (r : Range) (p : Value) → Meets ts absent (needs_type l.NumberType) (part p)
      → IsThere (types.number_type x ts r p)
  unfolding types.number_type
  type_NumberType from r p m =
      map_there (given (token_at ts p 1) (numeric_lit x (is_there (group p 0)) r)) _
      (number_lit_found x (is_there (group p 0)) r (token_at ts p 1) m.1.0)

  pub type_TemplateType : (from : ℕ) (r : Range) (p : Value) → Meets ts absent (needs_type l.TemplateType) (part p)
      → IsThere (types.template_type x ts r p)
  unfolding types.template_type
  type_TemplateType from r p m = map_there (piece_there x ts p 0) _ (piece_found x (token_at ts p 0) m.0)

  pub type_TemplateTypes : (from : ℕ) (r : Range) (p : Value) → Meets ts absent (needs_type l.TemplateTypes) (part p)
      → IsThere (types.template_types x ts r p)
  unfolding types.template_types
  type_TemplateTypes from r p m =
      given_there (piece_there x ts p 0) _ (piece_found x (token_at ts p 0) m.0)
      (λ a1. given_there (type_at p 1) _ m.1.0
      (λ a2. given_there (turns (λ turn. piece_there x ts turn 0) (group p 2)) _
      (turns_in (λ v. Meets ts absent (word is_piece (of as_type rest)) (part v))
      (λ turn. piece_there x ts turn 0) (λ t3 h3. piece_found x (token_at ts t3 0) h3.0) (part p 2)
      m.1.1.0) (λ a4. given_there (turns (λ turn. type_at turn 1) (group p 2)) _
      (turns_in (λ v. Meets ts absent (word is_piece (of as_type rest)) (part v))
      (λ turn. type_at turn 1) (λ t5 h5. h5.1.0) (part p 2) m.1.1.0)
      (λ a6. given_there (piece_there x ts p 3) _
      (piece_found x (token_at ts p 3) m.1.1.1.0) (λ a7. tt)))))

  pub type_TypeQuery : (from : ℕ) (r : Range) (p : Value) → Meets ts absent (needs_type l.TypeQuery) (part p)
      → IsThere (types.type_query r p)
  unfolding types.type_query
  type_TypeQuery from r p m = map_there (type_at (group p 0) 0) _ m.0.0

  pub type_ParenthesizedType : (from : ℕ) (r : Range) (p : Value)
      → Meets ts absent (needs_type l.ParenthesizedType) (part p) → IsThere (types.parenthesized_type r p)
  unfolding types.parenthesized_type
  type_ParenthesizedType from r p m = map_there (type_at p 0) _ m.0

  pub type_MembersType : (from : ℕ) (r : Range) (p : Value) → Meets ts absent (needs_type l.MembersType) (part p)
      → IsThere (types.members_type r p)
  unfolding types.members_type
  type_MembersType from r p m =
      map_there (turns (λ turn. type_member_at turn 0) (group p 0)) _
      (turns_in (λ v. Meets ts absent (of as_type_member rest) (part v)) (λ turn. type_member_at turn 0)
      (λ t1 h1. h1.0) (part p 0) m.0)

  pub type_TupleType : (from : ℕ) (r : Range) (p : Value) → Meets ts absent (needs_type l.TupleType) (part p)
      → IsThere (types.tuple_type r p)
  unfolding types.tuple_type
  type_TupleType from r p m =
      map_there (turns (λ turn. element_at turn 0) (group p 0)) _
      (turns_in (λ v. Meets ts absent (of as_element rest) (part v)) (λ turn. element_at turn 0) (λ t1 h1. h1.0)
      (part p 0) m.0)

  pub type_MappedType : (from : ℕ) (r : Range) (p : Value) → Meets ts absent (needs_type l.MappedType) (part p)
      → IsThere (types.mapped_type x ts r p)
  unfolding types.mapped_type
  type_MappedType from r p m =
      given_there (signed_in ts (group p 0)) _ (signed_found x ts (part p 0) m.0)
      (λ a1. given_there (ident_at x ts p 1) _ (map_there (token_at ts p 1) _ m.1.0)
      (λ a2. given_there (type_at p 2) _ m.1.1.0
      (λ a3. given_there (optional type_at (group p 3)) _
      (optional_in (λ v. Meets ts absent (of as_type rest) (part v)) type_at (λ g4 h4. h4.0) (part p 3)
      m.1.1.1.0) (λ a5. given_there (signed_in ts (group p 4)) _
      (signed_found x ts (part p 4) m.1.1.1.1.0)
      (λ a6. given_there (optional type_at (group p 5)) _
      (optional_in (λ v. Meets ts absent (of as_type rest) (part v)) type_at
      (λ g7 h7. h7.0) (part p 5) m.1.1.1.1.1.0) (λ a8. tt))))))

  pub type_Reference : (from : ℕ) (r : Range) (p : Value) → Meets ts absent (needs_type l.Reference) (part p)
      → IsThere (type_names.reference r p)
  unfolding type_names.reference
  type_Reference from r p m =
      given_there (entity_at p 0) _ m.0 (λ a1. given_there (arguments_at p 1) _ m.1.0 (λ a2. tt))

  pub type_ImportType : (from : ℕ) (r : Range) (p : Value) → Meets ts absent (needs_type l.ImportType) (part p)
      → IsThere (type_names.import_type x ts r p)
  unfolding type_names.import_type
  type_ImportType from r p m =
      given_there (str_at x ts p 0) _ (map_there (token_at ts p 0) _ m.0)
      (λ a1. given_there (optional entity_at (group p 1)) _
      (optional_in (λ v. Meets ts absent (of as_entity rest) (part v)) entity_at (λ g2 h2. h2.0) (part p 1)
      m.1.0) (λ a3. given_there (optional arguments_at (group p 2)) _
      (optional_in (λ v. Meets ts absent (of as_arguments rest) (part v)) arguments_at (λ g4 h4. h4.0)
      (part p 2) m.1.1.0) (λ a5. tt)))

  pub type_AssertsResult : (from : ℕ) (r : Range) (p : Value) → Meets ts absent (needs_type l.AssertsResult) (part p)
      → IsThere (types.asserts_result x ts r p)
  unfolding types.asserts_result
  type_AssertsResult from r p m =
      given_there (this_or_name_at x ts p 0) _ (map_there (token_at ts p 0) _ m.0)
      (λ a1. given_there (optional type_at (group p 1)) _
      (optional_in (λ v. Meets ts absent (of as_type rest) (part v)) type_at (λ g2 h2. h2.0) (part p 1) m.1.0)
      (λ a3. tt))

  pub type_PredicateResult : (from : ℕ) (r : Range) (p : Value)
      → Meets ts absent (needs_type l.PredicateResult) (part p) → IsThere (types.predicate_result x ts r p)
  unfolding types.predicate_result
  type_PredicateResult from r p m =
      given_there (this_or_name_at x ts p 0) _ (map_there (token_at ts p 0) _ m.0)
      (λ a1. given_there (type_at p 1) _ m.1.0 (λ a2. tt))

  pub type_EntityOfType : (from : ℕ) (r : Range) (p : Value) → Meets ts absent (needs_type l.EntityOfType) (part p)
      → IsThere (option_map (type_names.named r) (modules.entity x ts r p))
  unfolding modules.entity
  type_EntityOfType from r p m =
      map_there (modules.entity x ts r p) _
      (given_there (this_or_name_at x ts p 0) _ (map_there (token_at ts p 0) _ m.0)
      (λ a1. given_there (turns (λ turn. ident_at x ts turn 0) (group p 1)) _
      (turns_in (λ v. Meets ts absent (leaf rest) (part v)) (λ turn. ident_at x ts turn 0)
      (λ t2 h2. map_there (token_at ts t2 0) _ h2.0) (part p 1) m.1.0) (λ a3. tt)))

  pub arguments_TypeArguments : (from : ℕ) (r : Range) (p : Value)
      → Meets ts absent (needs_arguments l.TypeArguments) (part p) → IsThere (type_names.arguments r p)
  unfolding type_names.arguments
  arguments_TypeArguments from r p m =
      map_there (type_names.types_from p 0) _
      (given_there (type_at p 0) _ m.0
      (λ a1. given_there (turns (λ turn. type_at turn 0) (group p 1)) _
      (turns_in (λ v. Meets ts absent (of as_type rest) (part v)) (λ turn. type_at turn 0) (λ t2 h2. h2.0)
      (part p 1) m.1.0) (λ a3. tt)))

  pub type_params_TypeParameters : (from : ℕ) (r : Range) (p : Value)
      → Meets ts absent (needs_type_params l.TypeParameters) (part p) → IsThere (type_names.type_params x ts r p)
  unfolding type_names.type_param type_names.type_params
  type_params_TypeParameters from r p m =
      given_there (type_names.type_param x ts p) _
      (given_there (type_names.holds ts k.ConstWord (group p 0)) _ (holds_found x ts k.ConstWord (part p 0) m.0)
      (λ a1. given_there (type_names.holds ts k.InWord (group p 0)) _
      (holds_found x ts k.InWord (part p 0) m.0)
      (λ a2. given_there (type_names.holds ts k.OutWord (group p 0)) _
      (holds_found x ts k.OutWord (part p 0) m.0)
      (λ a3. given_there (ident_at x ts p 1) _ (map_there (token_at ts p 1) _ m.1.0)
      (λ a4. given_there (optional type_at (group p 2)) _
      (optional_in (λ v. Meets ts absent (of as_type rest) (part v)) type_at
      (λ g5 h5. h5.0) (part p 2) m.1.1.0)
      (λ a6. given_there (optional type_at (group p 3)) _
      (optional_in (λ v. Meets ts absent (of as_type rest) (part v))
      type_at (λ g7 h7. h7.0) (part p 3) m.1.1.1.0) (λ a8. tt)))))))
      (λ a9. given_there (turns (type_names.type_param x ts)
      (group p 5)) _ (turns_in
      (λ v. Meets ts absent
      (list (leaf rest) (leaf
      (maybe (of as_type rest)
      (maybe (of as_type rest) rest))))
      (part v)) (type_names.type_param x
      ts) (λ t10 h10. given_there
      (type_names.holds ts
      k.ConstWord (group t10
      0)) _ (holds_found x
      ts k.ConstWord (part t10 0) h10.0)
      (λ a11. given_there (type_names.holds ts k.InWord (group t10 0)) _
      (holds_found x ts k.InWord (part t10 0) h10.0)
      (λ a12. given_there (type_names.holds ts k.OutWord (group t10 0)) _
      (holds_found x ts k.OutWord (part t10 0) h10.0)
      (λ a13. given_there (ident_at x ts t10 1) _ (map_there (token_at ts t10 1) _ h10.1.0)
      (λ a14. given_there (optional type_at (group t10 2)) _
      (optional_in (λ v. Meets ts absent (of as_type rest) (part v)) type_at
      (λ g15 h15. h15.0) (part t10 2) h10.1.1.0)
      (λ a16. given_there (optional type_at (group t10 3)) _
      (optional_in (λ v. Meets ts absent (of as_type rest) (part v)) type_at
      (λ g17 h17. h17.0) (part t10 3) h10.1.1.1.0) (λ a18. tt)))))))
      (part p 5) m.1.1.1.1.1.0) (λ a19. tt))

  pub element_RestElement : (from : ℕ) (r : Range) (p : Value) → Meets ts absent (needs_element l.RestElement) (part p)
      → IsThere (types.rest_element x ts r p)
  unfolding types.rest_element
  element_RestElement from r p m =
      given_there (optional (types.label_at x ts) (group p 0)) _
      (optional_in (λ v. Meets ts absent (leaf rest) (part v)) (types.label_at x ts)
      (λ g1 h1. map_there (ident_at x ts g1 0) _ (map_there (token_at ts g1 0) _ h1.0)) (part p 0) m.0)
      (λ a2. given_there (type_at p 1) _ m.1.0 (λ a3. tt))

  pub element_LabelledElement : (from : ℕ) (r : Range) (p : Value)
      → Meets ts absent (needs_element l.LabelledElement) (part p) → IsThere (types.labelled_element x ts r p)
  unfolding types.labelled_element
  element_LabelledElement from r p m =
      given_there (types.label_at x ts p 0) _ (map_there (ident_at x ts p 0) _ (map_there (token_at ts p 0) _ m.0))
      (λ a1. given_there (type_at p 2) _ m.1.1.0 (λ a2. tt))

  pub element_OptionalElement : (from : ℕ) (r : Range) (p : Value)
      → Meets ts absent (needs_element l.OptionalElement) (part p) → IsThere (types.optional_element r p)
  unfolding types.optional_element
  element_OptionalElement from r p m = map_there (type_at p 0) _ m.0

  pub type_member_CallSignature : (from : ℕ) (r : Range) (p : Value)
      → Meets ts absent (needs_type_member l.CallSignature) (part p) → IsThere (type_members.call_signature r p)
  unfolding type_members.call_signature
  type_member_CallSignature from r p m =
      given_there (optional type_params_at (group p 0)) _
      (optional_in (λ v. Meets ts absent (of as_type_params rest) (part v)) type_params_at (λ g1 h1. h1.0)
      (part p 0) m.0) (λ a2. given_there (fn_params_at p 1) _ m.1.0
      (λ a3. given_there (optional type_at (group p 2)) _
      (optional_in (λ v. Meets ts absent (of as_type rest) (part v)) type_at (λ g4 h4. h4.0) (part p 2)
      m.1.1.0) (λ a5. tt)))

  pub type_member_ConstructSignature : (from : ℕ) (r : Range) (p : Value)
      → Meets ts absent (needs_type_member l.ConstructSignature) (part p)
      → IsThere (type_members.construct_signature r p)
  unfolding type_members.construct_signature
  type_member_ConstructSignature from r p m =
      given_there (optional type_params_at (group p 0)) _
      (optional_in (λ v. Meets ts absent (of as_type_params rest) (part v)) type_params_at (λ g1 h1. h1.0)
      (part p 0) m.0) (λ a2. given_there (fn_params_at p 1) _ m.1.0
      (λ a3. given_there (optional type_at (group p 2)) _
      (optional_in (λ v. Meets ts absent (of as_type rest) (part v)) type_at (λ g4 h4. h4.0) (part p 2)
      m.1.1.0) (λ a5. tt)))

  pub type_member_IndexSignature : (from : ℕ) (r : Range) (p : Value)
      → Meets ts absent (needs_type_member l.IndexSignature) (part p) → IsThere (type_members.index_signature x ts r p)
  unfolding type_members.index_signature
  type_member_IndexSignature from r p m =
      given_there (ident_at x ts p 1) _ (map_there (token_at ts p 1) _ m.1.0)
      (λ a1. given_there (type_at p 2) _ m.1.1.0
      (λ a2. given_there (optional type_at (group p 3)) _
      (optional_in (λ v. Meets ts absent (of as_type rest) (part v)) type_at (λ g3 h3. h3.0) (part p 3)
      m.1.1.1.0) (λ a4. tt)))

  pub type_member_AccessorSignature : (from : ℕ) (r : Range) (p : Value)
      → Meets ts absent (needs_type_member l.AccessorSignature) (part p)
      → IsThere (type_members.accessor_signature ts r p)
  unfolding accessor_kinds type_members.accessor_signature type_members.method_by
  type_member_AccessorSignature from r p m =
      given_there (given (kind_at ts p 0) (listed accessor_kinds)) _
      (listed_there accessor_kinds (token_at ts p 0) m.0)
      (λ a1. given_there (type_key_at p 1) _ m.1.0
      (λ a2. given_there (optional type_params_at (group p 3)) _
      (optional_in (λ v. Meets ts absent (of as_type_params rest) (part v)) type_params_at
      (λ g3 h3. h3.0) (part p 3) m.1.1.1.0)
      (λ a4. given_there (fn_params_at p 4) _ m.1.1.1.1.0
      (λ a5. given_there (optional type_at (group p 5)) _
      (optional_in (λ v. Meets ts absent (of as_type rest) (part v)) type_at
      (λ g6 h6. h6.0) (part p 5) m.1.1.1.1.1.0) (λ a7. tt)))))

  pub type_member_MethodSignature : (from : ℕ) (r : Range) (p : Value)
      → Meets ts absent (needs_type_member l.MethodSignature) (part p)
      → IsThere (type_members.method_by vMethod.Method r p 0)
  unfolding type_members.method_by
  type_member_MethodSignature from r p m =
      given_there (type_key_at p 0) _ m.0
      (λ a1. given_there (optional type_params_at (group p 2)) _
      (optional_in (λ v. Meets ts absent (of as_type_params rest) (part v)) type_params_at (λ g2 h2. h2.0)
      (part p 2) m.1.1.0) (λ a3. given_there (fn_params_at p 3) _ m.1.1.1.0
      (λ a4. given_there (optional type_at (group p 4)) _
      (optional_in (λ v. Meets ts absent (of as_type rest) (part v)) type_at (λ g5 h5. h5.0)
      (part p 4) m.1.1.1.1.0) (λ a6. tt))))

  pub type_member_PropertySignature : (from : ℕ) (r : Range) (p : Value)
      → Meets ts absent (needs_type_member l.PropertySignature) (part p) → IsThere (type_members.property_by false r p)
  unfolding type_members.property_by
  type_member_PropertySignature from r p m =
      given_there (type_key_at p 0) _ m.0
      (λ a1. given_there (optional type_at (group p 2)) _
      (optional_in (λ v. Meets ts absent (of as_type rest) (part v)) type_at (λ g2 h2. h2.0) (part p 2)
      m.1.1.0) (λ a3. tt))

  pub type_member_ReadonlyProperty : (from : ℕ) (r : Range) (p : Value)
      → Meets ts absent (needs_type_member l.ReadonlyProperty) (part p) → IsThere (type_members.property_by true r p)
  unfolding type_members.property_by
  type_member_ReadonlyProperty from r p m =
      given_there (type_key_at p 0) _ m.0
      (λ a1. given_there (optional type_at (group p 2)) _
      (optional_in (λ v. Meets ts absent (of as_type rest) (part v)) type_at (λ g2 h2. h2.0) (part p 2)
      m.1.1.0) (λ a3. tt))

  pub type_key_WordKeyOfType : (from : ℕ) (r : Range) (p : Value)
      → Meets ts absent (needs_type_key l.WordKeyOfType) (part p) → IsThere (type_pats.word_key x ts p)
  unfolding type_pats.word_key
  type_key_WordKeyOfType from r p m = map_there (ident_at x ts p 0) _ (map_there (token_at ts p 0) _ m.0)

  pub type_key_StrKeyOfType : (from : ℕ) (r : Range) (p : Value)
      → Meets ts absent (needs_type_key l.StrKeyOfType) (part p) → IsThere (type_pats.str_key x ts p)
  unfolding type_pats.str_key
  type_key_StrKeyOfType from r p m = map_there (str_at x ts p 0) _ (map_there (token_at ts p 0) _ m.0)

  pub type_key_NumberKeyOfType : (from : ℕ) (r : Range) (p : Value)
      → Meets ts absent (needs_type_key l.NumberKeyOfType) (part p) → IsThere (type_pats.number_key x ts p)
  unfolding type_pats.number_key
  type_key_NumberKeyOfType from r p m = map_there (number_at x ts p 0) _ (map_there (token_at ts p 0) _ m.0)

  pub type_key_ComputedKeyOfType : (from : ℕ) (r : Range) (p : Value)
      → Meets ts absent (needs_type_key l.ComputedKeyOfType) (part p) → IsThere (type_members.computed_key x ts r p)
  unfolding type_members.computed_key
  type_key_ComputedKeyOfType from r p m = bracket_found x ts r (group p 0) m.0

  pub type_key_WordPatternKey : (from : ℕ) (r : Range) (p : Value)
      → Meets ts absent (needs_type_key l.WordPatternKey) (part p) → IsThere (type_pats.word_key x ts p)
  unfolding type_pats.word_key
  type_key_WordPatternKey from r p m = map_there (ident_at x ts p 0) _ (map_there (token_at ts p 0) _ m.0)

  pub type_key_StrPatternKey : (from : ℕ) (r : Range) (p : Value)
      → Meets ts absent (needs_type_key l.StrPatternKey) (part p) → IsThere (type_pats.str_key x ts p)
  unfolding type_pats.str_key
  type_key_StrPatternKey from r p m = map_there (str_at x ts p 0) _ (map_there (token_at ts p 0) _ m.0)

  pub type_key_NumberPatternKey : (from : ℕ) (r : Range) (p : Value)
      → Meets ts absent (needs_type_key l.NumberPatternKey) (part p) → IsThere (type_pats.number_key x ts p)
  unfolding type_pats.number_key
  type_key_NumberPatternKey from r p m = map_there (number_at x ts p 0) _ (map_there (token_at ts p 0) _ m.0)

  pub type_pat_NamePatternOfType : (from : ℕ) (r : Range) (p : Value)
      → Meets ts absent (needs_type_pat l.NamePatternOfType) (part p) → IsThere (type_pats.name_pattern x ts p)
  unfolding type_pats.name_pattern
  type_pat_NamePatternOfType from r p m = map_there (ident_at x ts p 0) _ (map_there (token_at ts p 0) _ m.0)

  pub type_pat_ArrayPatternOfType : (from : ℕ) (r : Range) (p : Value)
      → Meets ts absent (needs_type_pat l.ArrayPatternOfType) (part p) → IsThere (type_pats.array_pattern ts from r p)
  unfolding type_pats.array_pattern
  type_pat_ArrayPatternOfType from r p m =
      map_there (exprs.elements vTypePat.Hole type_pat_at ts (from + 1) (group p 0)) _
      (elements_in x ts as_type_pat vTypePat.Hole type_pat_at (λ v h vs. h) (from + 1) (part p 0) m.0)

  pub type_pat_ObjectPatternOfType : (from : ℕ) (r : Range) (p : Value)
      → Meets ts absent (needs_type_pat l.ObjectPatternOfType) (part p) → IsThere (type_pats.object_pattern r p)
  unfolding type_pats.object_pattern
  type_pat_ObjectPatternOfType from r p m =
      map_there (turns (λ turn. type_prop_at turn 0) (group p 0)) _
      (turns_in (λ v. Meets ts absent (of as_type_prop rest) (part v)) (λ turn. type_prop_at turn 0)
      (λ t1 h1. h1.0) (part p 0) m.0)

  pub type_pat_RestPatternOfType : (from : ℕ) (r : Range) (p : Value)
      → Meets ts absent (needs_type_pat l.RestPatternOfType) (part p) → IsThere (type_pats.rest_pattern r p)
  unfolding type_pats.rest_pattern
  type_pat_RestPatternOfType from r p m = map_there (type_pat_at p 0) _ m.0

  pub type_prop_RestPropertyOfType : (from : ℕ) (r : Range) (p : Value)
      → Meets ts absent (needs_type_prop l.RestPropertyOfType) (part p) → IsThere (type_pats.rest_property r p)
  unfolding type_pats.rest_property
  type_prop_RestPropertyOfType from r p m = map_there (type_pat_at p 0) _ m.0

  pub type_prop_KeyProperty : (from : ℕ) (r : Range) (p : Value)
      → Meets ts absent (needs_type_prop l.KeyProperty) (part p) → IsThere (type_pats.key_property r p)
  unfolding type_pats.key_property
  type_prop_KeyProperty from r p m =
      given_there (type_key_at p 0) _ m.0 (λ a1. given_there (type_pat_at p 1) _ m.1.0 (λ a2. tt))

  pub type_prop_NamePropertyOfType : (from : ℕ) (r : Range) (p : Value)
      → Meets ts absent (needs_type_prop l.NamePropertyOfType) (part p) → IsThere (type_pats.name_property x ts p)
  unfolding type_pats.name_property
  type_prop_NamePropertyOfType from r p m = map_there (ident_at x ts p 0) _ (map_there (token_at ts p 0) _ m.0)

  pub fn_param_ThisParameterOfType : (from : ℕ) (r : Range) (p : Value)
      → Meets ts absent (needs_fn_param l.ThisParameterOfType) (part p) → IsThere (type_pats.this_parameter ts r p)
  unfolding type_pats.this_parameter
  fn_param_ThisParameterOfType from r p m =
      given_there (token_at ts p 0) _ m.0
      (λ a1. given_there (optional type_at (group p 2)) _
      (optional_in (λ v. Meets ts absent (of as_type rest) (part v)) type_at (λ g2 h2. h2.0) (part p 2)
      m.1.1.0) (λ a3. tt))

  pub fn_param_MarkedParameterOfType : (from : ℕ) (r : Range) (p : Value)
      → Meets ts absent (needs_fn_param l.MarkedParameterOfType) (part p) → IsThere (type_pats.marked_parameter r p)
  unfolding type_pats.marked_parameter
  fn_param_MarkedParameterOfType from r p m =
      given_there (type_pat_at p 0) _ m.0 (λ a1. type_marked_found x ts r (type_name_at p 0) a1 (group p 1) m.1.0)

  pub fn_params_ParametersOfType : (from : ℕ) (r : Range) (p : Value)
      → Meets ts absent (needs_fn_params l.ParametersOfType) (part p) → IsThere (type_pats.parameters ts p)
  unfolding type_pats.parameters
  fn_params_ParametersOfType from r p m =
      given_there (turns (λ turn. fn_param_at turn 0) (group p 0)) _
      (turns_in (λ v. Meets ts absent (of as_fn_param rest) (part v)) (λ turn. fn_param_at turn 0) (λ t1 h1. h1.0)
      (part p 0) m.0) (λ a2. given_there (optional (type_pats.rest_at ts) (group p 1)) _
      (optional_in (λ v. Meets ts absent (of as_type_pat (maybe (of as_type rest) rest)) (part v))
      (type_pats.rest_at ts)
      (λ g3 h3. given_there (type_pat_at g3 0) _ h3.0
      (λ a4. given_there (optional type_at (group g3 1)) _
      (optional_in (λ v. Meets ts absent (of as_type rest) (part v)) type_at
      (λ g5 h5. h5.0) (part g3 1) h3.1.0) (λ a6. tt))) (part p 1) m.1.0) (λ a7. tt))

  pub reference_Reference : (from : ℕ) (r : Range) (p : Value) → Meets ts absent (needs_reference l.Reference) (part p)
      → IsThere {A = TsEntityName × Option (Nodes TsType)} (type_names.named_reference p)
  reference_Reference from r p m =
      given_there (entity_at p 0) _ m.0 (λ a1. given_there (arguments_at p 1) _ m.1.0 (λ a2. tt))

  pub reference_EntityOfType : (from : ℕ) (r : Range) (p : Value)
      → Meets ts absent (needs_reference l.EntityOfType) (part p)
      → IsThere {A = TsEntityName × Option (Nodes TsType)}
      (option_map (λ name. (name, None)) (modules.entity x ts r p))
  unfolding modules.entity
  reference_EntityOfType from r p m =
      map_there (modules.entity x ts r p) _
      (given_there (this_or_name_at x ts p 0) _ (map_there (token_at ts p 0) _ m.0)
      (λ a1. given_there (turns (λ turn. ident_at x ts turn 0) (group p 1)) _
      (turns_in (λ v. Meets ts absent (leaf rest) (part v)) (λ turn. ident_at x ts turn 0)
      (λ t2 h2. map_there (token_at ts t2 0) _ h2.0) (part p 1) m.1.0) (λ a3. tt)))
