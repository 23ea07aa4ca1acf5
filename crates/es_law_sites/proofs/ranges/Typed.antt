-- What the patterns, functions, classes, expressions and declarations of TypeScript become: a type has no site.
use Rattle.std.specs.Prelude.{Bool, true, false, List, [], Option, Some, None, option_map, if◌then◌else◌, ◌-◌}
use Rattle.std.proofs.Common.{ℕ, ◌+◌}
use Rattle.base.specs.declared.range.Range.{Range}
use Rattle.es_token.specs.declared.token.Token.{Token}
use Rattle.es_token.specs.declared.token.TokenKind.{TokenKind}
use Rattle.es_token.specs.declared.token.TokenKind.TheVariants as k
use Rattle.grammar_theory.specs.Key.{same_kind}
use Rattle.es_ast.specs.declared.ts.leaf.Ident.{Ident}
use Rattle.es_ast.specs.declared.ts.leaf.MethodKind.{MethodKind}
use Rattle.es_ast.specs.declared.ts.ts.TsPart.{TsPart}
use Rattle.es_ast.specs.declared.ts.ts.TsPart.TheVariants as vPart
use Rattle.es_ast.specs.declared.leaf.Modifiers.{Modifiers}
use Rattle.es_ast.specs.declared.ast.Expr.{Expr}
use Rattle.es_ast.specs.declared.ast.Expr.TheVariants as vExpr
use Rattle.es_ast.specs.declared.ast.Pat.{Pat}
use Rattle.es_ast.specs.declared.ast.Pat.TheVariants as vPat
use Rattle.es_ast.specs.declared.ast.Stmt.{Stmt}
use Rattle.es_ast.specs.declared.ast.Stmt.TheVariants as vStmt
use Rattle.es_lowering.specs.Value.{Signature, Value, absent, nil, more, token, node, given, part, group, first_of, behind, optional, option_list, is_there, turns, expr_at, pat_at, stmt_at, item_at, variables_at, param_at, params_at, pat_prop_at, member_at, key_at, args_at, marked_at, signature_at, declarable_at, type_at, type_member_at, entity_at}
use Rattle.es_lowering.specs.Texts.{span_of, token_of, token_at, kind_at, ident_at, str_at, own_name_at, property_of}
use Rattle.es_lowering.specs.Operators.{listed, variable_kinds, accessor_kinds, binary_between, is_kind_at}
use Rattle.es_lowering.specs.Expressions.{elements, from_byte, member_of, index_of}
use Rattle.es_lowering.specs.Patterns.{with_default}
use Rattle.es_lowering.specs.Functions.{plain, body_of}
use Rattle.es_lowering.specs.TypeTexts.{marked}
use Rattle.es_lowering.specs.TypeNames.{behind_in}
use Rattle.es_lowering.specs.TypedParts.{annotation_at, params_part_at, args_part_at, heritage_in, marked_name, marked_array, marked_object, marked_by, annotated_span, annotated_at, modifiers_in, param_by, typed_span, tailed_span, tailed_at, marked_parameter, property_parameter, this_parameter, typed_rest_at, typed_parameters, typed_signature, body_in, behind_body}
use Rattle.es_lowering.specs.TypedFunctions.{typed_function_of, typed_function, typed_arrow, typed_method_property, typed_accessor_property, typed_class, typed_method_member, typed_accessor_member, with_accessor, is_mark, typed_field, index_member}
use Rattle.es_lowering.specs.TypedExpressions.{typed_call_of, typed_call, typed_call_post, typed_tagged_of, typed_template_post, non_null_post, typed_optional_inner, typed_optional_of, typed_optional_post, typed_new_of, typed_new, asserted_by, type_assertion, turned_by, typed_binary}
use Rattle.es_lowering.specs.TypedStatements.{typed_declarator, typed_head, caught_in, typed_handled, typed_try, interface, alias, enum_member, enum_, items_of, namespace, module_namespace, global, declared, declared_variables, export_assignment}
use Rattle.es_law_sites.proofs.ranges.Cuts.{Each, Opt, ExprCuts, PatCuts, PatPropCuts, PropCuts, StmtCuts, DeclCuts, ItemCuts, ModuleDeclCuts, ParamCuts, FunctionCuts, ClassCuts, MemberCuts, DeclaratorCuts, EnumMemberCuts, class_cuts, function_cuts, param_cuts, ts_enum_member_cuts, var_declarator_cuts}
use Rattle.es_law_sites.proofs.ranges.Forms.{pat_Ident_cuts, pat_This_cuts, pat_Hole_cuts, pat_Array_cuts, pat_Object_cuts, pat_Rest_cuts, prop_Method_cuts, class_member_Method_cuts, class_member_Prop_cuts, class_member_TsIndexSignature_cuts, decl_Var_cuts, decl_TsInterface_cuts, decl_TsTypeAlias_cuts, decl_TsEnum_cuts, decl_TsNamespace_cuts, decl_TsModule_cuts, decl_TsGlobal_cuts, module_decl_TsExportAssignment_cuts, expr_Arrow_cuts, expr_Bin_cuts, expr_Call_cuts, expr_New_cuts, expr_TaggedTpl_cuts, expr_TsNonNull_cuts, expr_TsAs_cuts, expr_TsConstAssertion_cuts, expr_TsSatisfies_cuts, stmt_Try_cuts}
use Rattle.es_law_sites.proofs.ranges.Fine.{KeyCuts, HeadCuts, VariablesCut, PostCuts, MarkedCuts, SignatureCuts, DeclarableCuts, Fine, given_fine, given_any, map_fine, map_any, each_both, listed_fine, part_fine, group_fine, optional_fine, turns_fine, expr_fine, pat_fine, stmt_fine, item_fine, variables_fine, param_fine, params_fine, pat_prop_fine, member_fine, key_fine, args_fine, marked_fine, signature_fine, declarable_fine}
use Rattle.es_law_sites.proofs.ranges.Exprs.{elements_cuts, member_of_cuts, index_of_cuts}
use Rattle.es_law_sites.proofs.ranges.Patterns.{default_cuts, body_of_cuts}

module _ (x : List ℕ) (ts : List Token) where
  -- an expression that may be absent
  maybe_expr : (p : Value) (n : ℕ) → Fine x p → Opt (Opt (ExprCuts x)) (optional expr_at (group p n))
  maybe_expr p n fine =
      optional_fine x (ExprCuts x) expr_at (λ v here. expr_fine x v 0 here) (group p n) (group_fine x p n fine)

  -- ---- patterns that may have `?` or a type behind them
  pub marked_name_cuts : (p : Value) → Opt (MarkedCuts x) (marked_name x ts p)
  unfolding marked_name
  marked_name_cuts p =
      map_any (MarkedCuts x) (ident_at x ts p 0) _ (λ id mark ty r. pat_Ident_cuts x (marked mark id) ty r)

  pub marked_array_cuts : (from : ℕ) (p : Value) → Fine x p → Opt (MarkedCuts x) (marked_array ts from p)
  unfolding marked_array
  marked_array_cuts from p fine =
      map_fine (Each (PatCuts x)) (MarkedCuts x) (elements vPat.Hole pat_at ts (from + 1) (group p 0)) _
      (elements_cuts x ts (PatCuts x) vPat.Hole pat_at (pat_Hole_cuts x) (λ v here. pat_fine x v 0 here) (from + 1)
      (group p 0) (group_fine x p 0 fine)) (λ elems f mark ty r. pat_Array_cuts x elems mark ty r f)

  pub marked_object_cuts : (p : Value) → Fine x p → Opt (MarkedCuts x) (marked_object p)
  unfolding marked_object
  marked_object_cuts p fine =
      map_fine (Each (PatPropCuts x)) (MarkedCuts x) (turns (λ turn. pat_prop_at turn 0) (group p 0)) _
      (turns_fine x (PatPropCuts x) (λ turn. pat_prop_at turn 0) (λ turn here. pat_prop_fine x turn 0 here) (group p 0)
      (group_fine x p 0 fine)) (λ props f mark ty r. pat_Object_cuts x props mark ty r f)

  marked_by_cuts : (o : Option (Bool → Option TsPart → Range → Pat)) (mark : Bool) (ty : Option TsPart) (r : Range)
      → Opt (MarkedCuts x) o → Opt (PatCuts x) (marked_by o mark ty r)
  marked_by_cuts (Some pat) mark ty r f = f mark ty r
  marked_by_cuts None mark ty r f = tt

  annotated_cuts : (p : Value) (n at : ℕ) → Fine x p → Opt (PatCuts x) (annotated_at ts p n at)
  annotated_cuts p n at fine =
      given_any (PatCuts x) (annotation_at p at) _ (λ ty.
      marked_by_cuts (marked_at p n) false ty (annotated_span ts p n at) (marked_fine x p n fine))

  -- ---- parameters
  param_by_cuts : (modifiers : Modifiers) (r : Range) (pat : Pat) → PatCuts x pat
      → ParamCuts x (param_by modifiers r pat)
  param_by_cuts modifiers r pat f = param_cuts x (record { modifiers = modifiers; pat = pat; span = r }) f

  tailed_cuts : (p : Value) (n : ℕ) → Fine x p → Opt (PatCuts x) (tailed_at ts p n)
  tailed_cuts p n fine =
      given_any (PatCuts x) (annotation_at p (n + 2)) _ (λ ty.
      given_fine (PatCuts x) (PatCuts x)
      (marked_by (marked_at p n) (is_there (group p (n + 1))) ty (typed_span ts p n)) _
      (marked_by_cuts (marked_at p n) (is_there (group p (n + 1))) ty (typed_span ts p n) (marked_fine x p n fine))
      (λ pat f.
      given_fine (Opt (ExprCuts x)) (PatCuts x) (optional expr_at (group p (n + 3))) _ (maybe_expr p (n + 3) fine)
      (λ value g. default_cuts x ts (tailed_span ts p n) pat value f g)))

  pub marked_parameter_cuts : (r : Range) (p : Value) → Fine x p → Opt (ParamCuts x) (marked_parameter ts r p)
  unfolding marked_parameter
  marked_parameter_cuts r p fine =
      map_fine (PatCuts x) (ParamCuts x) (tailed_at ts p 0) (param_by plain r) (tailed_cuts p 0 fine)
      (param_by_cuts plain r)

  pub property_parameter_cuts : (r : Range) (p : Value) → Fine x p → Opt (ParamCuts x) (property_parameter ts r p)
  unfolding property_parameter
  property_parameter_cuts r p fine =
      given_any (ParamCuts x) (modifiers_in ts plain (group p 0)) _ (λ modifiers.
      map_fine (PatCuts x) (ParamCuts x) (tailed_at ts p 1) (param_by modifiers r) (tailed_cuts p 1 fine)
      (param_by_cuts modifiers r))

  pub this_parameter_cuts : (r : Range) (p : Value) → Fine x p → Opt (ParamCuts x) (this_parameter ts r p)
  unfolding this_parameter
  this_parameter_cuts r p fine =
      given_any (ParamCuts x) (token_at ts p 0) _ (λ t.
      given_any (ParamCuts x) (annotation_at p 2) _ (λ ty.
      given_fine (Opt (ExprCuts x)) (ParamCuts x) (optional expr_at (group p 3)) _ (maybe_expr p 3 fine) (λ value g.
      let over : Range = span_of ts (first_of (part p 0)) (behind_in (group p 2) (behind (part p 0))) in
      param_by_cuts plain r (with_default r (vPat.This ty over) value)
      (default_cuts x ts r (vPat.This ty over) value (pat_This_cuts x ty over) g))))

  typed_rest_cuts : (p : Value) → Fine x p → Opt (ParamCuts x) (typed_rest_at ts p 0)
  typed_rest_cuts p fine =
      given_fine (PatCuts x) (ParamCuts x) (pat_at p 0) _ (pat_fine x p 0 fine) (λ pat f.
      given_any (ParamCuts x) (annotation_at p 1) _ (λ ty.
      let over : Range = span_of ts (first_of (part p 0) - 1) (behind_in (group p 1) (behind (part p 0))) in
      param_by_cuts plain over (vPat.Rest pat ty over) (pat_Rest_cuts x pat ty over f)))

  pub typed_parameters_cuts : (p : Value) → Fine x p → Opt (Each (ParamCuts x)) (typed_parameters ts p)
  unfolding typed_parameters
  typed_parameters_cuts p fine =
      given_fine (Each (ParamCuts x)) (Each (ParamCuts x)) (turns (λ turn. param_at turn 0) (group p 0)) _
      (turns_fine x (ParamCuts x) (λ turn. param_at turn 0) (λ turn here. param_fine x turn 0 here) (group p 0)
      (group_fine x p 0 fine)) (λ all f.
      given_fine (Opt (ParamCuts x)) (Each (ParamCuts x)) (optional (typed_rest_at ts) (group p 1)) _
      (optional_fine x (ParamCuts x) (typed_rest_at ts) typed_rest_cuts (group p 1) (group_fine x p 1 fine)) (λ rest g.
      each_both (ParamCuts x) all (option_list rest) f (listed_fine (ParamCuts x) rest g)))

  pub typed_signature_cuts : (p : Value) → Fine x p → Opt (SignatureCuts x) (typed_signature p)
  unfolding typed_signature
  typed_signature_cuts p fine =
      given_any (SignatureCuts x) (params_part_at p 0) _ (λ type_params.
      given_fine (Each (ParamCuts x)) (SignatureCuts x) (params_at p 1) _ (params_fine x p 1 fine) (λ params f.
      given_any (SignatureCuts x) (annotation_at p 2) _ (λ result. f)))

  -- ---- functions
  body_in_cuts : (v : Value) → Fine x v → Opt (Opt (StmtCuts x)) (body_in v)
  body_in_cuts (more (node from to m) vs) fine =
      map_fine (StmtCuts x) (Opt (StmtCuts x)) m.stmt Some fine.0.stmt (λ stmt f. f)
  body_in_cuts (more absent vs) fine = tt
  body_in_cuts (more nil vs) fine = tt
  body_in_cuts (more (more v ws) vs) fine = tt
  body_in_cuts (more (token n) vs) fine = tt
  body_in_cuts absent fine = tt
  body_in_cuts nil fine = tt
  body_in_cuts (token n) fine = tt
  body_in_cuts (node from to m) fine = tt

  typed_function_of_cuts : (is_async is_generator : Bool) (r : Range) (name : Option Ident) (signature : Signature)
      (body : Option Stmt) → SignatureCuts x signature → Opt (StmtCuts x) body
      → FunctionCuts x (typed_function_of is_async is_generator r name signature body)
  typed_function_of_cuts is_async is_generator r name signature body f g =
      function_cuts x (record {
        ident = name;
        is_async = is_async;
        is_generator = is_generator;
        type_params = signature.0;
        params = signature.1;
        return_type = signature.2;
        body = body;
        span = r;
      }) f g

  pub typed_function_cuts : (is_async : Bool) (r : Range) (p : Value) → Fine x p
      → Opt (FunctionCuts x) (typed_function x ts is_async r p)
  unfolding typed_function
  typed_function_cuts is_async r p fine =
      given_any (FunctionCuts x) (own_name_at x ts p 1) _ (λ name.
      given_fine (SignatureCuts x) (FunctionCuts x) (signature_at p 2) _ (signature_fine x p 2 fine) (λ signature f.
      given_fine (Opt (StmtCuts x)) (FunctionCuts x) (body_in (group p 3)) _
      (body_in_cuts (group p 3) (group_fine x p 3 fine)) (λ body g.
      typed_function_of_cuts is_async (is_there (group p 0)) r name signature body f g)))

  pub typed_arrow_cuts : (is_async : Bool) (r : Range) (p : Value) → Fine x p
      → Opt (ExprCuts x) (typed_arrow ts is_async r p)
  unfolding typed_arrow
  typed_arrow_cuts is_async r p fine =
      given_any (ExprCuts x) (params_part_at p 0) _ (λ type_params.
      given_fine (Each (ParamCuts x)) (ExprCuts x) (params_at p 1) _ (params_fine x p 1 fine) (λ params f.
      given_any (ExprCuts x) (annotation_at p 2) _ (λ result.
      given_fine (StmtCuts x) (ExprCuts x) (body_of ts (part (group p 3) 0)) _
      (body_of_cuts x ts (part (group p 3) 0) (part_fine x (group p 3) 0 (group_fine x p 3 fine))) (λ body g.
      expr_Arrow_cuts x (typed_function_of is_async false r None (type_params, params, result) (Some body))
      (typed_function_of_cuts is_async false r None (type_params, params, result) (Some body) f g)))))

  -- ---- methods of objects
  pub typed_method_property_cuts : (kind : MethodKind) (is_async is_generator : Bool) (r : Range) (p : Value) (n : ℕ)
      → Fine x p → Opt (PropCuts x) (typed_method_property ts kind is_async is_generator r p n)
  unfolding typed_method_property
  typed_method_property_cuts kind is_async is_generator r p n fine =
      given_fine (KeyCuts x) (PropCuts x) (key_at (group p n) 0) _ (key_fine x (group p n) 0 (group_fine x p n fine))
      (λ key f.
      given_fine (SignatureCuts x) (PropCuts x) (signature_at (group p n) 1) _
      (signature_fine x (group p n) 1 (group_fine x p n fine)) (λ signature g.
      given_fine (StmtCuts x) (PropCuts x) (stmt_at p (n + 1)) _ (stmt_fine x p (n + 1) fine) (λ body h.
      let over : Range = span_of ts (first_of (part (group p n) 1)) (behind (part p (n + 1))) in
      prop_Method_cuts x kind key.0 key.1 (typed_function_of is_async is_generator over None signature (Some body)) r f
      (typed_function_of_cuts is_async is_generator over None signature (Some body) g h))))

  pub typed_accessor_property_cuts : (r : Range) (p : Value) → Fine x p
      → Opt (PropCuts x) (typed_accessor_property ts r p)
  unfolding typed_accessor_property
  typed_accessor_property_cuts r p fine =
      given_any (PropCuts x) (given (kind_at ts p 0) (listed accessor_kinds)) _ (λ kind.
      typed_method_property_cuts kind false false r p 1 fine)

  -- ---- classes
  pub typed_class_cuts : (is_abstract : Bool) (r : Range) (p : Value) → Fine x p
      → Opt (ClassCuts x) (typed_class x ts is_abstract r p)
  unfolding typed_class
  typed_class_cuts is_abstract r p fine =
      given_any (ClassCuts x) (own_name_at x ts p 0) _ (λ name.
      given_any (ClassCuts x) (params_part_at p 1) _ (λ type_params.
      given_fine (Opt (ExprCuts x)) (ClassCuts x) (optional expr_at (group p 2)) _ (maybe_expr p 2 fine)
      (λ super_class f.
      given_any (ClassCuts x) (args_part_at (group p 2) 1) _ (λ super_type_args.
      given_any (ClassCuts x) (heritage_in ts (group p 3)) _ (λ implements.
      given_fine (Each (MemberCuts x)) (ClassCuts x) (turns (λ turn. member_at turn 0) (group p 4)) _
      (turns_fine x (MemberCuts x) (λ turn. member_at turn 0) (λ turn here. member_fine x turn 0 here) (group p 4)
      (group_fine x p 4 fine)) (λ members g.
      class_cuts x (record {
        ident = name;
        is_abstract = is_abstract;
        type_params = type_params;
        super_class = super_class;
        super_type_args = super_type_args;
        implements = implements;
        body = members;
        span = r;
      }) f g))))))

  pub typed_method_member_cuts : (kind : MethodKind) (is_async is_generator : Bool) (r : Range) (p : Value) (n : ℕ)
      → Fine x p → Opt (MemberCuts x) (typed_method_member ts kind is_async is_generator r p n)
  unfolding typed_method_member
  typed_method_member_cuts kind is_async is_generator r p n fine =
      given_any (MemberCuts x) (modifiers_in ts plain (group p 0)) _ (λ modifiers.
      given_fine (KeyCuts x) (MemberCuts x) (key_at (group p n) 0) _ (key_fine x (group p n) 0 (group_fine x p n fine))
      (λ key f.
      given_fine (SignatureCuts x) (MemberCuts x) (signature_at (group p n) 2) _
      (signature_fine x (group p n) 2 (group_fine x p n fine)) (λ signature g.
      given_fine (Opt (StmtCuts x)) (MemberCuts x) (body_in (group p (n + 1))) _
      (body_in_cuts (group p (n + 1)) (group_fine x p (n + 1) fine)) (λ body h.
      let over : Range = span_of ts (first_of (part (group p n) 2))
      (behind_body (group p (n + 1)) (behind (part (group p n) 2))) in
      class_member_Method_cuts x modifiers kind key.0 key.1 (is_there (group (group p n) 1))
      (typed_function_of is_async is_generator over None signature body) r f
      (typed_function_of_cuts is_async is_generator over None signature body g h)))))

  pub typed_accessor_member_cuts : (r : Range) (p : Value) → Fine x p
      → Opt (MemberCuts x) (typed_accessor_member ts r p)
  unfolding typed_accessor_member
  typed_accessor_member_cuts r p fine =
      given_any (MemberCuts x) (given (kind_at ts p 1) (listed accessor_kinds)) _ (λ kind.
      typed_method_member_cuts kind false false r p 2 fine)

  pub typed_field_cuts : (accessor : Bool) (r : Range) (p : Value) → Fine x p
      → Opt (MemberCuts x) (typed_field ts accessor r p)
  unfolding typed_field
  typed_field_cuts accessor r p fine =
      given_any (MemberCuts x) (modifiers_in ts plain (group p 0)) _ (λ modifiers.
      given_fine (KeyCuts x) (MemberCuts x) (key_at p 1) _ (key_fine x p 1 fine) (λ key f.
      given_any (MemberCuts x) (annotation_at p 3) _ (λ ty.
      given_fine (Opt (ExprCuts x)) (MemberCuts x) (optional expr_at (group p 4)) _ (maybe_expr p 4 fine) (λ value g.
      class_member_Prop_cuts x (with_accessor accessor modifiers) key.0 key.1
      (is_mark k.Question (kind_at ts (group p 2) 0)) (is_mark k.Exclamation (kind_at ts (group p 2) 0)) ty value r f
      g))))

  pub index_member_cuts : (r : Range) (p : Value) → Opt (MemberCuts x) (index_member x ts r p)
  unfolding index_member
  index_member_cuts r p =
      given_any (MemberCuts x) (modifiers_in ts plain (group p 0)) _ (λ modifiers.
      given_any (MemberCuts x) (ident_at x ts p 1) _ (λ name.
      given_any (MemberCuts x) (option_map vPart.TypeAnn (type_at p 2)) _ (λ of.
      given_any (MemberCuts x) (annotation_at p 3) _ (λ ty.
      class_member_TsIndexSignature_cuts x modifiers name (Some of) ty r))))

  -- ---- calls
  typed_call_of_cuts : (there : Bool) (r : Range) (type_args : Option TsPart) (args : List Expr)
      → Each (ExprCuts x) args → PostCuts x (typed_call_of there r type_args args)
  typed_call_of_cuts there r type_args args g start e f =
      expr_Call_cuts x e there type_args args (from_byte start r) f g

  typed_call_cuts : (there : Bool) (r : Range) (p : Value) → Fine x p → Opt (PostCuts x) (typed_call there r p)
  typed_call_cuts there r p fine =
      given_any (PostCuts x) (args_part_at p 0) _ (λ type_args.
      given_fine (Each (ExprCuts x)) (PostCuts x) (args_at p 1) _ (args_fine x p 1 fine)
      (typed_call_of_cuts there r type_args))

  pub typed_call_post_cuts : (r : Range) (p : Value) → Fine x p → Opt (PostCuts x) (typed_call_post r p)
  unfolding typed_call_post
  typed_call_post_cuts r p fine = typed_call_cuts false r p fine

  typed_tagged_of_cuts : (r : Range) (type_args : Option TsPart) (tpl : Expr) → ExprCuts x tpl
      → PostCuts x (typed_tagged_of r type_args tpl)
  typed_tagged_of_cuts r type_args tpl g start e f = expr_TaggedTpl_cuts x e type_args tpl (from_byte start r) f g

  pub typed_template_post_cuts : (r : Range) (p : Value) → Fine x p → Opt (PostCuts x) (typed_template_post r p)
  unfolding typed_template_post
  typed_template_post_cuts r p fine =
      given_any (PostCuts x) (args_part_at p 0) _ (λ type_args.
      map_fine (ExprCuts x) (PostCuts x) (expr_at p 1) (typed_tagged_of r type_args) (expr_fine x p 1 fine)
      (typed_tagged_of_cuts r type_args))

  pub non_null_post_cuts : (r : Range) → Opt (PostCuts x) (non_null_post r)
  unfolding non_null_post
  non_null_post_cuts r = λ start e f. expr_TsNonNull_cuts x e (from_byte start r) f

  typed_inner_cuts : (r : Range) (v : Value) → Fine x v → Opt (PostCuts x) (typed_optional_inner x ts r v)
  typed_inner_cuts r (more (token n) vs) fine =
      map_any (PostCuts x) (given (token_of ts (token n)) (property_of x)) (member_of true r)
      (member_of_cuts x ts true r)
  typed_inner_cuts r (more absent vs) fine = typed_call_cuts true r (more absent vs) fine
  typed_inner_cuts r (more nil vs) fine = typed_call_cuts true r (more nil vs) fine
  typed_inner_cuts r (more (more v ws) vs) fine = typed_call_cuts true r (more (more v ws) vs) fine
  typed_inner_cuts r (more (node from to m) vs) fine = typed_call_cuts true r (more (node from to m) vs) fine
  typed_inner_cuts r absent fine = typed_call_cuts true r absent fine
  typed_inner_cuts r nil fine = typed_call_cuts true r nil fine
  typed_inner_cuts r (token n) fine = typed_call_cuts true r (token n) fine
  typed_inner_cuts r (node from to m) fine = typed_call_cuts true r (node from to m) fine

  typed_optional_cuts : (r : Range) (v : Value) → Fine x v → Opt (PostCuts x) (typed_optional_of x ts r v)
  typed_optional_cuts r (node from to m) fine =
      map_fine (ExprCuts x) (PostCuts x) m.expr (index_of true r) fine.expr (index_of_cuts x ts true r)
  typed_optional_cuts r absent fine = typed_inner_cuts r nil tt
  typed_optional_cuts r nil fine = typed_inner_cuts r nil tt
  typed_optional_cuts r (more v vs) fine = typed_inner_cuts r (more v vs) fine
  typed_optional_cuts r (token n) fine = typed_inner_cuts r nil tt

  pub typed_optional_post_cuts : (r : Range) (p : Value) → Fine x p → Opt (PostCuts x) (typed_optional_post x ts r p)
  unfolding typed_optional_post
  typed_optional_post_cuts r p fine =
      typed_optional_cuts r (part (group p 0) 0) (part_fine x (group p 0) 0 (group_fine x p 0 fine))

  typed_new_of_cuts : (r : Range) (callee : Expr) (type_args : Option TsPart) (args : Option (List Expr))
      → ExprCuts x callee → Opt (Each (ExprCuts x)) args → ExprCuts x (typed_new_of r callee type_args args)
  typed_new_of_cuts r callee type_args (Some args) f g = expr_New_cuts x callee type_args true args r f g
  typed_new_of_cuts r callee type_args None f g = expr_New_cuts x callee type_args false [] r f tt

  pub typed_new_cuts : (r : Range) (p : Value) → Fine x p → Opt (ExprCuts x) (typed_new r p)
  unfolding typed_new
  typed_new_cuts r p fine =
      given_fine (ExprCuts x) (ExprCuts x) (expr_at p 0) _ (expr_fine x p 0 fine) (λ callee f.
      given_any (ExprCuts x) (args_part_at p 1) _ (λ type_args.
      given_fine (Opt (Each (ExprCuts x))) (ExprCuts x) (optional args_at (group p 2)) _
      (optional_fine x (Each (ExprCuts x)) args_at (λ v here. args_fine x v 0 here) (group p 2) (group_fine x p 2 fine))
      (λ args g. typed_new_of_cuts r callee type_args args f g)))

  -- ---- the level of `<`, with `as` and `satisfies`
  asserted_of_cuts : (as_type : Bool) (r : Range) (e : Expr) (ty : Option TsPart) → ExprCuts x e
      → ExprCuts x (if as_type then vExpr.TsAs e ty r else vExpr.TsSatisfies e ty r)
  asserted_of_cuts true r e ty f = expr_TsAs_cuts x e ty r f
  asserted_of_cuts false r e ty f = expr_TsSatisfies_cuts x e ty r f

  asserted_cuts : (r : Range) (e : Expr) (kind : TokenKind) (v : Value) → ExprCuts x e
      → Opt (ExprCuts x) (asserted_by r e kind v)
  asserted_cuts r e kind (token n) f = expr_TsConstAssertion_cuts x e r f
  asserted_cuts r e kind (node from to m) f =
      map_any (ExprCuts x) m.ts_type _ (λ ty.
      asserted_of_cuts (same_kind kind k.AsWord) r e (Some (vPart.TypeAnn ty)) f)
  asserted_cuts r e kind absent f = tt
  asserted_cuts r e kind nil f = tt
  asserted_cuts r e kind (more v vs) f = tt

  pub type_assertion_cuts : (r : Range) (p : Value) → Fine x p → Opt (ExprCuts x) (type_assertion r p)
  unfolding type_assertion
  type_assertion_cuts r p fine =
      given_fine (ExprCuts x) (ExprCuts x) (expr_at p 1) _ (expr_fine x p 1 fine) (λ e f.
      asserted_cuts r e k.AsWord (part (group p 0) 0) f)

  operated_cuts : (r : Range) (e : Expr) (from to : ℕ) (g : Value) → ExprCuts x e → Fine x g
      → Opt (ExprCuts x) (given (binary_between ts from to) (λ op.
      given (expr_at g 1) (λ right. Some (vExpr.Bin op e right r))))
  operated_cuts r e from to g f fine =
      given_any (ExprCuts x) (binary_between ts from to) _ (λ op.
      given_fine (ExprCuts x) (ExprCuts x) (expr_at g 1) _ (expr_fine x g 1 fine) (λ right h.
      expr_Bin_cuts x op e right r f h))

  turned_cuts : (r : Range) (e : Expr) (from : ℕ) (g v : Value) → ExprCuts x e → Fine x g
      → Opt (ExprCuts x) (turned_by ts r e from g v)
  turned_cuts r e from g (more v vs) f fine =
      given_any (ExprCuts x) (kind_at ts g 0) _ (λ kind. asserted_cuts r e kind v f)
  turned_cuts r e from g absent f fine = operated_cuts r e from 0 g f fine
  turned_cuts r e from g nil f fine = operated_cuts r e from 0 g f fine
  turned_cuts r e from g (token n) f fine = operated_cuts r e from n g f fine
  turned_cuts r e from g (node at to m) f fine = operated_cuts r e from at g f fine

  pub typed_binary_cuts : (r : Range) (p : Value) → Fine x p → Opt (ExprCuts x) (typed_binary ts r p)
  unfolding typed_binary
  typed_binary_cuts r p fine =
      given_fine (ExprCuts x) (ExprCuts x) (expr_at p 0) _ (expr_fine x p 0 fine) (λ left f.
      turned_cuts r left (behind (part p 0)) (group p 1) (part (group p 1) 1) f (group_fine x p 1 fine))

  -- ---- variables
  pub typed_declarator_cuts : (r : Range) (p : Value) → Fine x p → Opt (DeclaratorCuts x) (typed_declarator ts r p)
  unfolding typed_declarator
  typed_declarator_cuts r p fine =
      given_fine (PatCuts x) (DeclaratorCuts x) (annotated_at ts p 0 2) _ (annotated_cuts p 0 2 fine) (λ pat f.
      given_fine (Opt (ExprCuts x)) (DeclaratorCuts x) (optional expr_at (group p 3)) _ (maybe_expr p 3 fine)
      (λ value g.
      var_declarator_cuts x (record { name = pat; definite = is_there (group p 1); init = value; span = r }) f g))

  pub typed_head_cuts : (p : Value) → Fine x p → Opt (HeadCuts x) (typed_head ts p)
  unfolding typed_head
  typed_head_cuts p fine =
      given_any (HeadCuts x) (given (kind_at ts p 0) (listed variable_kinds)) _ (λ kind.
      given_fine (PatCuts x) (HeadCuts x) (annotated_at ts p 1 2) _ (annotated_cuts p 1 2 fine) (λ pat f. f))

  -- ---- `try`
  caught_in_cuts : (v : Value) → Fine x v → Opt (Opt (PatCuts x)) (caught_in ts v)
  caught_in_cuts (more v vs) fine =
      map_fine (PatCuts x) (Opt (PatCuts x)) (annotated_at ts (more v vs) 0 1) Some
      (annotated_cuts (more v vs) 0 1 fine)
      (λ pat f. f)
  caught_in_cuts absent fine = tt
  caught_in_cuts nil fine = tt
  caught_in_cuts (token n) fine = tt
  caught_in_cuts (node from to m) fine = tt

  typed_caught_cuts : (r : Range) (block : Stmt) (v : Value) → StmtCuts x block → Fine x v
      → Opt (StmtCuts x) (given (caught_in ts (group v 0)) (λ param.
      given (stmt_at v 1) (λ handler.
      given (optional stmt_at (group v 2)) (λ finalizer. Some (vStmt.Try block param (Some handler) finalizer r)))))
  typed_caught_cuts r block v b fine =
      given_fine (Opt (PatCuts x)) (StmtCuts x) (caught_in ts (group v 0)) _
      (caught_in_cuts (group v 0) (group_fine x v 0 fine)) (λ param f.
      given_fine (StmtCuts x) (StmtCuts x) (stmt_at v 1) _ (stmt_fine x v 1 fine) (λ handler g.
      given_fine (Opt (StmtCuts x)) (StmtCuts x) (optional stmt_at (group v 2)) _
      (optional_fine x (StmtCuts x) stmt_at (λ w here. stmt_fine x w 0 here) (group v 2) (group_fine x v 2 fine))
      (λ finalizer h.
      stmt_Try_cuts x block param (Some handler) finalizer r b f g h)))

  typed_handled_cuts : (r : Range) (block : Stmt) (v : Value) → StmtCuts x block → Fine x v
      → Opt (StmtCuts x) (typed_handled ts r block v)
  typed_handled_cuts r block (more body nil) b fine =
      map_fine (StmtCuts x) (StmtCuts x) (stmt_at (more body nil) 0) _ (stmt_fine x (more body nil) 0 fine)
      (λ finalizer f.
      stmt_Try_cuts x block None None (Some finalizer) r b tt tt f)
  typed_handled_cuts r block (more body absent) b fine = typed_caught_cuts r block (more body absent) b fine
  typed_handled_cuts r block (more body (more w vs)) b fine = typed_caught_cuts r block (more body (more w vs)) b fine
  typed_handled_cuts r block (more body (token n)) b fine = typed_caught_cuts r block (more body (token n)) b fine
  typed_handled_cuts r block (more body (node from to m)) b fine =
      typed_caught_cuts r block (more body (node from to m)) b fine
  typed_handled_cuts r block absent b fine = typed_caught_cuts r block absent b fine
  typed_handled_cuts r block nil b fine = typed_caught_cuts r block nil b fine
  typed_handled_cuts r block (token n) b fine = typed_caught_cuts r block (token n) b fine
  typed_handled_cuts r block (node from to m) b fine = typed_caught_cuts r block (node from to m) b fine

  pub typed_try_cuts : (r : Range) (p : Value) → Fine x p → Opt (StmtCuts x) (typed_try ts r p)
  unfolding typed_try
  typed_try_cuts r p fine =
      given_fine (StmtCuts x) (StmtCuts x) (stmt_at p 0) _ (stmt_fine x p 0 fine) (λ block f.
      typed_handled_cuts r block (group p 1) f (group_fine x p 1 fine))

  -- ---- declarations, behind `declare` or not
  pub interface_cuts : (p : Value) → Opt (DeclarableCuts x) (interface x ts p)
  unfolding interface
  interface_cuts p =
      given_any (DeclarableCuts x) (ident_at x ts p 0) _ (λ id.
      given_any (DeclarableCuts x) (params_part_at p 1) _ (λ type_params.
      given_any (DeclarableCuts x) (heritage_in ts (group p 2)) _ (λ extends.
      given_any (DeclarableCuts x)
      (option_map vPart.Members (turns (λ turn. type_member_at turn 0) (group p 3))) _ (λ body.
      λ declare r. decl_TsInterface_cuts x declare id type_params extends (Some body) r))))

  pub alias_cuts : (p : Value) → Opt (DeclarableCuts x) (alias x ts p)
  unfolding alias
  alias_cuts p =
      given_any (DeclarableCuts x) (ident_at x ts p 0) _ (λ id.
      given_any (DeclarableCuts x) (params_part_at p 1) _ (λ type_params.
      given_any (DeclarableCuts x) (option_map vPart.TypeAnn (type_at p 2)) _ (λ ty.
      λ declare r. decl_TsTypeAlias_cuts x declare id type_params (Some ty) r)))

  enum_member_cuts : (turn : Value) → Fine x turn → Opt (EnumMemberCuts x) (enum_member ts turn)
  enum_member_cuts turn fine =
      given_fine (KeyCuts x) (EnumMemberCuts x) (key_at turn 0) _ (key_fine x turn 0 fine) (λ key f.
      given_fine (Opt (ExprCuts x)) (EnumMemberCuts x) (optional expr_at (group turn 1)) _ (maybe_expr turn 1 fine)
      (λ value g.
      ts_enum_member_cuts x (record {
        computed = key.0;
        id = key.1;
        init = value;
        span = span_of ts (first_of (part turn 0)) (behind_in (group turn 1) (behind (part turn 0)));
      }) f g))

  pub enum_cuts : (p : Value) → Fine x p → Opt (DeclarableCuts x) (enum_ x ts p)
  unfolding enum_
  enum_cuts p fine =
      given_any (DeclarableCuts x) (ident_at x ts p 1) _ (λ id.
      given_fine (Each (EnumMemberCuts x)) (DeclarableCuts x) (turns (enum_member ts) (group p 2)) _
      (turns_fine x (EnumMemberCuts x) (enum_member ts) enum_member_cuts (group p 2) (group_fine x p 2 fine))
      (λ members f declare r. decl_TsEnum_cuts x declare (is_there (group p 0)) id members r f))

  items_cuts : (v : Value) → Fine x v → Opt (Each (ItemCuts x)) (items_of v)
  items_cuts v fine = turns_fine x (ItemCuts x) (λ turn. item_at turn 0) (λ turn here. item_fine x turn 0 here) v fine

  pub namespace_cuts : (p : Value) → Fine x p → Opt (DeclarableCuts x) (namespace ts p)
  unfolding namespace
  namespace_cuts p fine =
      given_any (DeclarableCuts x) (kind_at ts p 0) _ (λ kind.
      given_any (DeclarableCuts x) (entity_at p 1) _ (λ id.
      given_fine (Each (ItemCuts x)) (DeclarableCuts x) (items_of (group p 2)) _
      (items_cuts (group p 2) (group_fine x p 2 fine)) (λ body f declare r.
      decl_TsNamespace_cuts x declare (same_kind kind k.ModuleWord) id body r f)))

  pub module_namespace_cuts : (p : Value) → Fine x p → Opt (DeclarableCuts x) (module_namespace x ts p)
  unfolding module_namespace
  module_namespace_cuts p fine =
      given_any (DeclarableCuts x) (str_at x ts p 0) _ (λ id.
      given_fine (Each (ItemCuts x)) (DeclarableCuts x) (items_of (group (group p 1) 0)) _
      (items_cuts (group (group p 1) 0) (group_fine x (group p 1) 0 (group_fine x p 1 fine))) (λ body f declare r.
      decl_TsModule_cuts x declare id (is_kind_at ts k.OpenBrace (behind (part p 0))) body r f))

  pub global_cuts : (p : Value) → Fine x p → Opt (DeclarableCuts x) (global p)
  unfolding global
  global_cuts p fine =
      map_fine (Each (ItemCuts x)) (DeclarableCuts x) (items_of (group p 0)) _
      (items_cuts (group p 0) (group_fine x p 0 fine)) (λ body f declare r. decl_TsGlobal_cuts x declare body r f)

  pub declared_cuts : (r : Range) (p : Value) → Fine x p → Opt (DeclCuts x) (declared r p)
  unfolding declared
  declared_cuts r p fine =
      map_fine (DeclarableCuts x) (DeclCuts x) (declarable_at p 0) _ (declarable_fine x p 0 fine) (λ decl f. f true r)

  pub declared_variables_cuts : (r : Range) (p : Value) → Fine x p → Opt (DeclCuts x) (declared_variables r p)
  unfolding declared_variables
  declared_variables_cuts r p fine =
      map_fine (VariablesCut x) (DeclCuts x) (variables_at p 0) _ (variables_fine x p 0 fine) (λ v f.
      decl_Var_cuts x true v.0 v.1 r f)

  -- ---- items
  pub export_assignment_cuts : (r : Range) (p : Value) → Fine x p → Opt (ModuleDeclCuts x) (export_assignment r p)
  unfolding export_assignment
  export_assignment_cuts r p fine =
      map_fine (ExprCuts x) (ModuleDeclCuts x) (expr_at p 0) _ (expr_fine x p 0 fine) (λ e f.
      module_decl_TsExportAssignment_cuts x e r f)
