-- The sites of all that a node may be read as are those of its alternative.
use Rattle.std.specs.Prelude.{true, false, List, [], Some}
use Rattle.std.specs.List.{flat_map}
use Rattle.std.proofs.Common.{◌≡◌, ℕ, refl, ◌∙◌}
use Rattle.base.specs.declared.range.Range.{Range}
use Rattle.es_token.specs.declared.token.Token.{Token}
use Rattle.es_ast.specs.declared.ts.leaf.MethodKind.TheVariants as vMethod
use Rattle.es_ast.specs.declared.leaf.ImportPhase.TheVariants as vPhase
use Rattle.es_ast.specs.declared.leaf.ImportAttributes.{ImportAttributes}
use Rattle.es_ast.specs.declared.ast.Expr.TheVariants as vExpr
use Rattle.es_ast.specs.declared.ast.Prop.TheVariants as vProp
use Rattle.es_ast.specs.declared.ast.ClassMember.TheOpen.{Expr-F, Prop-F}
use Rattle.es_grammar.specs.declared.rows.NodeKind.{NodeKind}
use Rattle.es_grammar.specs.declared.rows.NodeKind.TheVariants as l
use Rattle.es_site.specs.Attributes.{attribute_of}
use Rattle.es_site.specs.Sites.{sites_of, sites_of_class_member, sites_of_decl, sites_of_expr, sites_of_module_decl, sites_of_object_pat_prop, sites_of_pat, sites_of_stmt, sites_of_class, sites_of_function, sites_of_param, sites_of_var_declarator}
use Rattle.es_site.proofs.Equations.{expr_Fn, expr_Class, expr_Super, expr_ImportMeta, expr_NewTarget, expr_Arrow, decl_Fn, decl_Class, decl_Var, stmt_Block, stmt_Empty, stmt_Debugger, stmt_Decl, class_member_Empty}
use Rattle.es_lowering.specs.Value.{Value, given, group, is_there}
use Rattle.es_lowering.specs.Texts.{kind_at}
use Rattle.es_lowering.specs.Operators.{listed, accessor_kinds}
use Rattle.es_lowering.specs.Functions as functions
use Rattle.es_lowering.specs.Classes as classes
use Rattle.es_lowering.specs.Statements as stmts
use Rattle.es_lowering.specs.TypedFunctions as typed
use Rattle.es_lowering.specs.Lowering.{build, expr_of, pat_of, marked_of, variables_of, declarable_of, decl_of, block_of, stmt_of, declarator_of, param_of, head_of, params_of, signature_of, pat_prop_of, key_of, prop_of, member_of, post_of, args_of, attributes_of, module_decl_of, program_of}
use Rattle.es_law_sites.proofs.ranges.Cuts.{Opt}
use Rattle.es_law_sites.specs.plain.Part.{Part, node}
use Rattle.es_law_sites.specs.plain.Own.{own, clause_attribute}
use Rattle.es_law_sites.proofs.plain.Given.{given_any, map_fine}
use Rattle.es_law_sites.proofs.plain.Is.{Of, PostIs, KeyIs, PropIs, MarkedIs, DeclarableIs, TypedIs, Is, head_sites, variables_sites, signature_sites, if_at}
use Rattle.es_law_sites.proofs.plain.Exprs.{Ex, expr_by, name_is, str_is, parenthesized_is, await_is, binary_is, conditional_is, pattern_assignment_is, assignment_is, sequence_is, call_post_is}
use Rattle.es_law_sites.proofs.plain.Calls.{import_call_is, source_call_is, defer_call_is, member_post_is, index_post_is, chain_is, arguments_is}
use Rattle.es_law_sites.proofs.plain.Objects.{object_literal_is, word_key_is, str_key_is, computed_key_is, key_value_is, shorthand_is}
use Rattle.es_law_sites.proofs.plain.More.{word_is, number_is, regexp_is, template_is, template_parts_is, array_literal_is, spread_is, new_is, prefix_is, update_prefix_is, update_postfix_is, private_in_is, yield_is, template_post_is, optional_post_is}
use Rattle.es_law_sites.proofs.plain.Modules.{attributes_is, bare_import_is, from_import_is, phase_import_is, require_import_is, entity_import_is, export_all_is, export_names_is, export_namespace_is, export_default_decl_is, export_default_expression_is, export_declaration_is, export_assignment_is, module_is, script_is, item_by_is}
use Rattle.es_law_sites.proofs.plain.Stmts.{block_is, declarator_is, bare_declarator_is, variables_is, using_is, variable_declaration_is, variable_head_is, using_head_is, for_each_is, for_await_is, while_is, do_is, expression_statement_is, labelled_is, if_is, continue_is, break_is, throw_is, with_is, return_is, switch_is, for_is, try_is}
use Rattle.es_law_sites.proofs.plain.Patterns.{param_is, prop_by, name_pattern_is, array_pattern_is, object_pattern_is, rest_pattern_is, default_pattern_is, rest_property_is, key_pattern_is, name_property_is, default_parameter_is, parameters_is, signature_is, function_made_is, name_arrow_is, parenthesized_arrow_is, number_key_is, private_key_is, spread_property_is, method_property_is, class_made_is, static_block_is, method_member_is, accessor_member_is, field_member_is}
use Rattle.es_law_sites.proofs.plain.Typed.{marked_name_is, marked_array_is, marked_object_is, marked_parameter_is, property_parameter_is, this_parameter_is, typed_parameters_is, typed_signature_is, typed_function_is, typed_arrow_is, typed_method_property_is, typed_class_is, typed_method_member_is, typed_accessor_member_is, typed_field_is, index_member_is, typed_call_post_is, typed_template_post_is, non_null_post_is, typed_new_is, typed_declarator_is, typed_head_is, interface_is, alias_is, enum_is, namespace_is, module_namespace_is, global_is, declared_is, declared_variables_is, typed_optional_post_is, typed_binary_is, type_assertion_is, typed_try_is}

module _ (x : List ℕ) (ts : List Token) where
  expr_law : (label : NodeKind) (from : ℕ) (r : Range) (p : Value) (q : Part) → Is x ts p q
      → Opt ((λ (k : NodeKind). Ex x ts k q) label) (expr_of x ts label from r p)
  unfolding expr_of
  expr_law label from r p q h =
      let P = (λ (k : NodeKind). Ex x ts k q) in
      if_at x ts P label l.Name _ _
      (name_is x ts r p q h) (if_at x ts P label l.Word _ _
      (word_is x ts r p q h) (if_at x ts P label l.Number _ _
      (number_is x ts r p q h) (if_at x ts P label l.Str _ _
      (str_is x ts r p q h) (if_at x ts P label l.RegExp _ _
      (regexp_is x ts r p q h) (if_at x ts P label l.Template _ _
      (template_is x ts r p q h) (if_at x ts P label l.TemplateParts _ _
      (template_parts_is x ts r p q h) (if_at x ts P label l.Parenthesized _ _
      (parenthesized_is x ts r p q h) (if_at x ts P label l.ArrayLiteral _ _
      (array_literal_is x ts r p q h from) (if_at x ts P label l.ObjectLiteral _ _
      (object_literal_is x ts r p q h) (if_at x ts P label l.Spread _ _
      (spread_is x ts r p q h) (if_at x ts P label l.Function _ _
      (map_fine (Of sites_of_function (own x ts l.Function q)) (Ex x ts l.Function q)
      (functions.function x ts false r p) vExpr.Fn (function_made_is x ts r p q h false) (λ it g.
      expr_by x ts l.Function q _ (vExpr.Fn it) (Expr-F.Expr::Fn it) (vExpr.rolls-Fn it) (expr_Fn [] it ∙ g) refl refl
      refl)) (if_at x ts P label l.AsyncFunction _ _
      (map_fine (Of sites_of_function (own x ts l.AsyncFunction q)) (Ex x ts l.AsyncFunction q)
      (functions.function x ts true r p) vExpr.Fn (function_made_is x ts r p q h true) (λ it g.
      expr_by x ts l.AsyncFunction q _ (vExpr.Fn it) (Expr-F.Expr::Fn it) (vExpr.rolls-Fn it) (expr_Fn [] it ∙ g) refl
      refl refl)) (if_at x ts P label l.Class _ _
      (map_fine (Of sites_of_class (own x ts l.Class q)) (Ex x ts l.Class q) (classes.class_ x ts r p) vExpr.Class
      (class_made_is x ts r p q h) (λ it g.
      expr_by x ts l.Class q _ (vExpr.Class it) (Expr-F.Expr::Class it) (vExpr.rolls-Class it) (expr_Class [] it ∙ g)
      refl refl refl)) (if_at x ts P label l.Super _ _
      (expr_by x ts l.Super q [] (vExpr.Super r) (Expr-F.Super r) (vExpr.rolls-Super r) (expr_Super [] r) refl refl
      refl) (if_at x ts P label l.ImportCall _ _
      (import_call_is x ts r p q h) (if_at x ts P label l.SourceCall _ _
      (source_call_is x ts r p q h) (if_at x ts P label l.DeferCall _ _
      (defer_call_is x ts r p q h) (if_at x ts P label l.ImportMeta _ _
      (expr_by x ts l.ImportMeta q [] (vExpr.ImportMeta r) (Expr-F.ImportMeta r) (vExpr.rolls-ImportMeta r)
      (expr_ImportMeta [] r) refl refl refl) (if_at x ts P label l.NewTarget _ _
      (expr_by x ts l.NewTarget q [] (vExpr.NewTarget r) (Expr-F.NewTarget r) (vExpr.rolls-NewTarget r)
      (expr_NewTarget [] r) refl refl refl) (if_at x ts P label l.New _ _
      (new_is x ts r p q h) (if_at x ts P label l.Chain _ _
      (chain_is x ts r p q h) (if_at x ts P label l.UpdatePrefix _ _
      (update_prefix_is x ts r p q h) (if_at x ts P label l.UpdatePostfix _ _
      (update_postfix_is x ts r p q h) (if_at x ts P label l.UnaryExpression _ _
      (prefix_is x ts r p q h) (if_at x ts P label l.AwaitExpression _ _
      (await_is x ts r p q h) (if_at x ts P label l.Binary _ _
      (binary_is x ts r p q h) (if_at x ts P label l.PrivateIn _ _
      (private_in_is x ts r p q h) (if_at x ts P label l.Conditional _ _
      (conditional_is x ts r p q h) (if_at x ts P label l.Assignment _ _
      (assignment_is x ts r p q h) (if_at x ts P label l.PatternAssignment _ _
      (pattern_assignment_is x ts r p q h) (if_at x ts P label l.Yield _ _
      (yield_is x ts r p q h) (if_at x ts P label l.NameArrow _ _
      (name_arrow_is x ts r p q h l.NameArrow false
      (λ it g. expr_by x ts l.NameArrow q _ (vExpr.Arrow it) (Expr-F.Arrow it) (vExpr.rolls-Arrow it)
      (expr_Arrow [] it ∙ g) refl refl refl)) (if_at x ts P label l.ParenthesizedArrow _ _
      (parenthesized_arrow_is x ts r p q h l.ParenthesizedArrow false
      (λ it g. expr_by x ts l.ParenthesizedArrow q _ (vExpr.Arrow it) (Expr-F.Arrow it) (vExpr.rolls-Arrow it)
      (expr_Arrow [] it ∙ g) refl refl refl)) (if_at x ts P label l.AsyncNameArrow _ _
      (name_arrow_is x ts r p q h l.AsyncNameArrow true
      (λ it g. expr_by x ts l.AsyncNameArrow q _ (vExpr.Arrow it) (Expr-F.Arrow it) (vExpr.rolls-Arrow it)
      (expr_Arrow [] it ∙ g) refl refl refl)) (if_at x ts P label l.AsyncParenthesizedArrow _ _
      (parenthesized_arrow_is x ts r p q h l.AsyncParenthesizedArrow true
      (λ it g. expr_by x ts l.AsyncParenthesizedArrow q _ (vExpr.Arrow it) (Expr-F.Arrow it) (vExpr.rolls-Arrow it)
      (expr_Arrow [] it ∙ g) refl refl refl)) (if_at x ts P label l.Sequence _ _
      (sequence_is x ts r p q h) (if_at x ts P label l.TypedFunction _ _
      (map_fine (Of sites_of_function (own x ts l.TypedFunction q)) (Ex x ts l.TypedFunction q)
      (typed.typed_function x ts false r p) vExpr.Fn (typed_function_is x ts r p q h false) (λ it g.
      expr_by x ts l.TypedFunction q _ (vExpr.Fn it) (Expr-F.Expr::Fn it) (vExpr.rolls-Fn it) (expr_Fn [] it ∙ g) refl
      refl refl)) (if_at x ts P label l.TypedAsyncFunction _ _
      (map_fine (Of sites_of_function (own x ts l.TypedAsyncFunction q)) (Ex x ts l.TypedAsyncFunction q)
      (typed.typed_function x ts true r p) vExpr.Fn (typed_function_is x ts r p q h true) (λ it g.
      expr_by x ts l.TypedAsyncFunction q _ (vExpr.Fn it) (Expr-F.Expr::Fn it) (vExpr.rolls-Fn it) (expr_Fn [] it ∙ g)
      refl refl refl)) (if_at x ts P label l.TypedClass _ _
      (map_fine (Of sites_of_class (own x ts l.TypedClass q)) (Ex x ts l.TypedClass q)
      (typed.typed_class x ts false r p) vExpr.Class (typed_class_is x ts r p q h false) (λ it g.
      expr_by x ts l.TypedClass q _ (vExpr.Class it) (Expr-F.Expr::Class it) (vExpr.rolls-Class it)
      (expr_Class [] it ∙ g) refl refl refl)) (if_at x ts P label l.AbstractClass _ _
      (map_fine (Of sites_of_class (own x ts l.AbstractClass q)) (Ex x ts l.AbstractClass q)
      (typed.typed_class x ts true r p) vExpr.Class (typed_class_is x ts r p q h true) (λ it g.
      expr_by x ts l.AbstractClass q _ (vExpr.Class it) (Expr-F.Expr::Class it) (vExpr.rolls-Class it)
      (expr_Class [] it ∙ g) refl refl refl)) (if_at x ts P label l.TypedNew _ _
      (typed_new_is x ts r p q h) (if_at x ts P label l.TypedBinary _ _
      (typed_binary_is x ts r p q h) (if_at x ts P label l.TypeAssertion _ _
      (type_assertion_is x ts r p q h) (if_at x ts P label l.TypedParenthesizedArrow _ _
      (typed_arrow_is x ts r p q h l.TypedParenthesizedArrow false
      (λ it g. expr_by x ts l.TypedParenthesizedArrow q _ (vExpr.Arrow it) (Expr-F.Arrow it) (vExpr.rolls-Arrow it)
      (expr_Arrow [] it ∙ g) refl refl refl)) (if_at x ts P label l.TypedAsyncParenthesizedArrow _ _
      (typed_arrow_is x ts r p q h l.TypedAsyncParenthesizedArrow true
      (λ it g. expr_by x ts l.TypedAsyncParenthesizedArrow q _ (vExpr.Arrow it) (Expr-F.Arrow it)
      (vExpr.rolls-Arrow it) (expr_Arrow [] it ∙ g) refl refl refl))
      (tt))))))))))))))))))))))))))))))))))))))))))))))

  pat_law : (label : NodeKind) (from : ℕ) (r : Range) (p : Value) (q : Part) → Is x ts p q
      → Opt ((λ (k : NodeKind). Of sites_of_pat (own x ts k q)) label) (pat_of x ts label from r p)
  unfolding pat_of
  pat_law label from r p q h =
      let P = (λ (k : NodeKind). Of sites_of_pat (own x ts k q)) in
      if_at x ts P label l.NamePattern _ _
      (name_pattern_is x ts r p q h) (if_at x ts P label l.ArrayPattern _ _
      (array_pattern_is x ts r p q h from) (if_at x ts P label l.ObjectPattern _ _
      (object_pattern_is x ts r p q h) (if_at x ts P label l.RestPattern _ _
      (rest_pattern_is x ts r p q h) (if_at x ts P label l.DefaultPattern _ _
      (default_pattern_is x ts r p q h) (tt)))))

  marked_law : (label : NodeKind) (from : ℕ) (r : Range) (p : Value) (q : Part) → Is x ts p q
      → Opt ((λ (k : NodeKind). MarkedIs (own x ts k q)) label) (marked_of x ts label from p)
  unfolding marked_of
  marked_law label from r p q h =
      let P = (λ (k : NodeKind). MarkedIs (own x ts k q)) in
      if_at x ts P label l.NamePattern _ _
      (marked_name_is x ts r p q h) (if_at x ts P label l.ArrayPattern _ _
      (marked_array_is x ts r p q h from) (if_at x ts P label l.ObjectPattern _ _
      (marked_object_is x ts r p q h) (tt)))

  variables_law : (label : NodeKind) (from : ℕ) (r : Range) (p : Value) (q : Part) → Is x ts p q
      → Opt ((λ (k : NodeKind). Of variables_sites (own x ts k q)) label) (variables_of x ts label p)
  unfolding variables_of
  variables_law label from r p q h =
      let P = (λ (k : NodeKind). Of variables_sites (own x ts k q)) in
      if_at x ts P label l.Variables _ _
      (variables_is x ts r p q h) (if_at x ts P label l.Using _ _
      (using_is x ts r p q h) (tt))

  declarable_law : (label : NodeKind) (from : ℕ) (r : Range) (p : Value) (q : Part) → Is x ts p q
      → Opt ((λ (k : NodeKind). DeclarableIs (own x ts k q)) label) (declarable_of x ts label r p)
  unfolding declarable_of
  declarable_law label from r p q h =
      let P = (λ (k : NodeKind). DeclarableIs (own x ts k q)) in
      if_at x ts P label l.TypedFunction _ _
      (map_fine (Of sites_of_function (own x ts l.TypedFunction q)) (DeclarableIs (own x ts l.TypedFunction q))
      (typed.typed_function x ts false r p) _ (typed_function_is x ts r p q h false)
      (λ it g declare span. decl_Fn [] declare it span ∙ g)) (if_at x ts P label l.TypedAsyncFunction _ _
      (map_fine (Of sites_of_function (own x ts l.TypedAsyncFunction q))
      (DeclarableIs (own x ts l.TypedAsyncFunction q)) (typed.typed_function x ts true r p) _
      (typed_function_is x ts r p q h true) (λ it g declare span. decl_Fn [] declare it span ∙ g))
      (if_at x ts P label l.TypedClass _ _
      (map_fine (Of sites_of_class (own x ts l.TypedClass q)) (DeclarableIs (own x ts l.TypedClass q))
      (typed.typed_class x ts false r p) _ (typed_class_is x ts r p q h false)
      (λ it g declare span. decl_Class [] declare it span ∙ g)) (if_at x ts P label l.AbstractClass _ _
      (map_fine (Of sites_of_class (own x ts l.AbstractClass q)) (DeclarableIs (own x ts l.AbstractClass q))
      (typed.typed_class x ts true r p) _ (typed_class_is x ts r p q h true)
      (λ it g declare span. decl_Class [] declare it span ∙ g)) (if_at x ts P label l.InterfaceDeclaration _ _
      (interface_is x ts r p q h) (if_at x ts P label l.AliasDeclaration _ _
      (alias_is x ts r p q h) (if_at x ts P label l.EnumDeclaration _ _
      (enum_is x ts r p q h) (if_at x ts P label l.NamespaceDeclaration _ _
      (namespace_is x ts r p q h) (if_at x ts P label l.ModuleDeclaration _ _
      (module_namespace_is x ts r p q h) (if_at x ts P label l.GlobalDeclaration _ _
      (global_is x ts r p q h) (tt))))))))))

  decl_law : (label : NodeKind) (from : ℕ) (r : Range) (p : Value) (q : Part) → Is x ts p q
      → Opt ((λ (k : NodeKind). Of sites_of_decl (own x ts k q)) label) (decl_of x ts label r p)
  unfolding decl_of
  decl_law label from r p q h =
      let P = (λ (k : NodeKind). Of sites_of_decl (own x ts k q)) in
      if_at x ts P label l.Function _ _
      (map_fine (Of sites_of_function (own x ts l.Function q)) (Of sites_of_decl (own x ts l.Function q))
      (functions.function x ts false r p) _ (function_made_is x ts r p q h false)
      (λ it g. decl_Fn [] false it r ∙ g)) (if_at x ts P label l.AsyncFunction _ _
      (map_fine (Of sites_of_function (own x ts l.AsyncFunction q)) (Of sites_of_decl (own x ts l.AsyncFunction q))
      (functions.function x ts true r p) _ (function_made_is x ts r p q h true)
      (λ it g. decl_Fn [] false it r ∙ g)) (if_at x ts P label l.Class _ _
      (map_fine (Of sites_of_class (own x ts l.Class q)) (Of sites_of_decl (own x ts l.Class q))
      (classes.class_ x ts r p) _ (class_made_is x ts r p q h) (λ it g. decl_Class [] false it r ∙ g))
      (if_at x ts P label l.VariableDeclaration _ _
      (variable_declaration_is x ts r p q h) (if_at x ts P label l.UsingDeclaration _ _
      (variable_declaration_is x ts r p q h) (if_at x ts P label l.Variables _ _
      (map_fine (Of variables_sites (own x ts l.Variables q)) (Of sites_of_decl (own x ts l.Variables q))
      (stmts.variables ts p) (stmts.decl_of r) (variables_is x ts r p q h)
      (λ vs g. decl_Var [] false vs.0 vs.1 r ∙ g)) (if_at x ts P label l.Using _ _
      (map_fine (Of variables_sites (own x ts l.Using q)) (Of sites_of_decl (own x ts l.Using q)) (stmts.using_ p)
      (stmts.decl_of r) (using_is x ts r p q h) (λ vs g. decl_Var [] false vs.0 vs.1 r ∙ g))
      (if_at x ts P label l.Declared _ _
      (declared_is x ts r p q h) (if_at x ts P label l.DeclaredVariables _ _
      (declared_variables_is x ts r p q h)
      (map_fine (DeclarableIs (own x ts label q)) (Of sites_of_decl (own x ts label q))
      (declarable_of x ts label r p) _ (declarable_law label from r p q h) (λ decl g. g false r))))))))))

  block_law : (label : NodeKind) (from : ℕ) (r : Range) (p : Value) (q : Part) → Is x ts p q
      → Opt ((λ (k : NodeKind). Of (flat_map sites_of_stmt) (own x ts k q)) label) (block_of x ts label p)
  unfolding block_of
  block_law label from r p q h =
      let P = (λ (k : NodeKind). Of (flat_map sites_of_stmt) (own x ts k q)) in
      if_at x ts P label l.Block _ _
      (block_is x ts r p q h) (tt)

  stmt_law : (label : NodeKind) (from : ℕ) (r : Range) (p : Value) (q : Part) → Is x ts p q
      → Opt ((λ (k : NodeKind). Of sites_of_stmt (own x ts k q)) label) (stmt_of x ts label r p)
  unfolding stmt_of
  stmt_law label from r p q h =
      let P = (λ (k : NodeKind). Of sites_of_stmt (own x ts k q)) in
      if_at x ts P label l.Block _ _
      (map_fine (Of (flat_map sites_of_stmt) (own x ts l.Block q)) (Of sites_of_stmt (own x ts l.Block q))
      (stmts.block p) _ (block_is x ts r p q h) (λ all g. stmt_Block [] all r ∙ g))
      (if_at x ts P label l.EmptyStatement _ _
      (stmt_Empty [] r) (if_at x ts P label l.ExpressionStatement _ _
      (expression_statement_is x ts r p q h) (if_at x ts P label l.LabelledStatement _ _
      (labelled_is x ts r p q h) (if_at x ts P label l.IfStatement _ _
      (if_is x ts r p q h) (if_at x ts P label l.ForStatement _ _
      (for_is x ts r p q h) (if_at x ts P label l.ForEachStatement _ _
      (for_each_is x ts r p q h) (if_at x ts P label l.ForAwaitStatement _ _
      (for_await_is x ts r p q h) (if_at x ts P label l.WhileStatement _ _
      (while_is x ts r p q h) (if_at x ts P label l.DoStatement _ _
      (do_is x ts r p q h) (if_at x ts P label l.ContinueStatement _ _
      (continue_is x ts r p q h) (if_at x ts P label l.BreakStatement _ _
      (break_is x ts r p q h) (if_at x ts P label l.ReturnStatement _ _
      (return_is x ts r p q h) (if_at x ts P label l.ThrowStatement _ _
      (throw_is x ts r p q h) (if_at x ts P label l.SwitchStatement _ _
      (switch_is x ts r p q h) (if_at x ts P label l.TryStatement _ _
      (try_is x ts r p q h) (if_at x ts P label l.DebuggerStatement _ _
      (stmt_Debugger [] r) (if_at x ts P label l.WithStatement _ _
      (with_is x ts r p q h) (if_at x ts P label l.TypedTryStatement _ _
      (typed_try_is x ts r p q h)
      (map_fine (Of sites_of_decl (own x ts label q)) (Of sites_of_stmt (own x ts label q))
      (decl_of x ts label r p) _ (decl_law label from r p q h)
      (λ decl g. stmt_Decl [] decl ∙ g))))))))))))))))))))

  declarator_law : (label : NodeKind) (from : ℕ) (r : Range) (p : Value) (q : Part) → Is x ts p q
      → Opt ((λ (k : NodeKind). Of sites_of_var_declarator (own x ts k q)) label) (declarator_of x ts label from r p)
  unfolding declarator_of
  declarator_law label from r p q h =
      let P = (λ (k : NodeKind). Of sites_of_var_declarator (own x ts k q)) in
      if_at x ts P label l.Declarator _ _
      (declarator_is x ts r p q h) (if_at x ts P label l.TypedDeclarator _ _
      (typed_declarator_is x ts r p q h)
      (map_fine (Of sites_of_pat (own x ts label q)) (Of sites_of_var_declarator (own x ts label q))
      (pat_of x ts label from r p) _ (pat_law label from r p q h)
      (λ pat g. bare_declarator_is x ts r p q h (own x ts label q) pat g)))

  param_law : (label : NodeKind) (from : ℕ) (r : Range) (p : Value) (q : Part) → Is x ts p q
      → Opt ((λ (k : NodeKind). Of sites_of_param (own x ts k q)) label) (param_of x ts label from r p)
  unfolding param_of
  param_law label from r p q h =
      let P = (λ (k : NodeKind). Of sites_of_param (own x ts k q)) in
      if_at x ts P label l.DefaultParameter _ _
      (default_parameter_is x ts r p q h) (if_at x ts P label l.ThisParameter _ _
      (this_parameter_is x ts r p q h) (if_at x ts P label l.PropertyParameter _ _
      (property_parameter_is x ts r p q h) (if_at x ts P label l.MarkedParameter _ _
      (marked_parameter_is x ts r p q h)
      (map_fine (Of sites_of_pat (own x ts label q)) (Of sites_of_param (own x ts label q))
      (pat_of x ts label from r p) _ (pat_law label from r p q h) (λ pat g. param_is _ ∙ g)))))

  head_law : (label : NodeKind) (from : ℕ) (r : Range) (p : Value) (q : Part) → Is x ts p q
      → Opt ((λ (k : NodeKind). Of head_sites (own x ts k q)) label) (head_of x ts label from r p)
  unfolding head_of
  head_law label from r p q h =
      let P = (λ (k : NodeKind). Of head_sites (own x ts k q)) in
      if_at x ts P label l.VariableHead _ _
      (variable_head_is x ts r p q h) (if_at x ts P label l.UsingHead _ _
      (using_head_is x ts r p q h) (if_at x ts P label l.TypedVariableHead _ _
      (typed_head_is x ts r p q h)
      (map_fine (Of sites_of_pat (own x ts label q)) (Of head_sites (own x ts label q))
      (pat_of x ts label from r p) _ (pat_law label from r p q h) (λ pat g. g))))

  params_law : (label : NodeKind) (from : ℕ) (r : Range) (p : Value) (q : Part) → Is x ts p q
      → Opt ((λ (k : NodeKind). Of (flat_map sites_of_param) (own x ts k q)) label) (params_of x ts label p)
  unfolding params_of
  params_law label from r p q h =
      let P = (λ (k : NodeKind). Of (flat_map sites_of_param) (own x ts k q)) in
      if_at x ts P label l.Parameters _ _
      (parameters_is x ts r p q h) (if_at x ts P label l.Signature _ _
      (signature_is x ts r p q h) (if_at x ts P label l.TypedParameters _ _
      (typed_parameters_is x ts r p q h) (tt)))

  signature_law : (label : NodeKind) (from : ℕ) (r : Range) (p : Value) (q : Part) → Is x ts p q
      → Opt ((λ (k : NodeKind). Of signature_sites (own x ts k q)) label) (signature_of x ts label p)
  unfolding signature_of
  signature_law label from r p q h =
      let P = (λ (k : NodeKind). Of signature_sites (own x ts k q)) in
      if_at x ts P label l.TypedSignature _ _
      (typed_signature_is x ts r p q h) (tt)

  pat_prop_law : (label : NodeKind) (from : ℕ) (r : Range) (p : Value) (q : Part) → Is x ts p q
      → Opt ((λ (k : NodeKind). Of sites_of_object_pat_prop (own x ts k q)) label) (pat_prop_of x ts label r p)
  unfolding pat_prop_of
  pat_prop_law label from r p q h =
      let P = (λ (k : NodeKind). Of sites_of_object_pat_prop (own x ts k q)) in
      if_at x ts P label l.RestProperty _ _
      (rest_property_is x ts r p q h) (if_at x ts P label l.KeyPattern _ _
      (key_pattern_is x ts r p q h) (if_at x ts P label l.NameProperty _ _
      (name_property_is x ts r p q h) (tt)))

  key_law : (label : NodeKind) (from : ℕ) (r : Range) (p : Value) (q : Part) → Is x ts p q
      → Opt ((λ (k : NodeKind). KeyIs x ts k q (own x ts k q)) label) (key_of x ts label p)
  unfolding key_of
  key_law label from r p q h =
      let P = (λ (k : NodeKind). KeyIs x ts k q (own x ts k q)) in
      if_at x ts P label l.WordKey _ _
      (word_key_is x ts r p q h) (if_at x ts P label l.StrKey _ _
      (str_key_is x ts r p q h) (if_at x ts P label l.NumberKey _ _
      (number_key_is x ts r p q h) (if_at x ts P label l.ComputedKey _ _
      (computed_key_is x ts r p q h) (if_at x ts P label l.PrivateKey _ _
      (private_key_is x ts r p q h) (tt)))))

  prop_law : (label : NodeKind) (from : ℕ) (r : Range) (p : Value) (q : Part) → Is x ts p q
      → Opt ((λ (k : NodeKind). PropIs x ts k q (own x ts k q)) label) (prop_of x ts label r p)
  unfolding prop_of functions.accessor_property typed.typed_accessor_property
  prop_law label from r p q h =
      let P = (λ (k : NodeKind). PropIs x ts k q (own x ts k q)) in
      if_at x ts P label l.SpreadProperty _ _
      (spread_property_is x ts r p q h) (if_at x ts P label l.AccessorProperty _ _
      (given_any _ (given (kind_at ts p 0) (listed accessor_kinds)) _
      (λ kind. method_property_is x ts r p q h l.AccessorProperty kind false false 1
      (λ k b key it g. prop_by x ts l.AccessorProperty q _ (vProp.Method k b key it r)
      (Prop-F.Prop::Method k b key it r)
      (vProp.rolls-Method k b key it r) g refl (λ word. refl) (λ word before. refl))))
      (if_at x ts P label l.AsyncProperty _ _
      (method_property_is x ts r p q h l.AsyncProperty vMethod.Method true (is_there (group p 0)) 1
      (λ k b key it g. prop_by x ts l.AsyncProperty q _ (vProp.Method k b key it r)
      (Prop-F.Prop::Method k b key it r)
      (vProp.rolls-Method k b key it r) g refl (λ word. refl) (λ word before. refl)))
      (if_at x ts P label l.GeneratorProperty _ _
      (method_property_is x ts r p q h l.GeneratorProperty vMethod.Method false true 0
      (λ k b key it g. prop_by x ts l.GeneratorProperty q _ (vProp.Method k b key it r)
      (Prop-F.Prop::Method k b key it r)
      (vProp.rolls-Method k b key it r) g refl (λ word. refl) (λ word before. refl)))
      (if_at x ts P label l.MethodProperty _ _
      (method_property_is x ts r p q h l.MethodProperty vMethod.Method false false 0
      (λ k b key it g. prop_by x ts l.MethodProperty q _ (vProp.Method k b key it r)
      (Prop-F.Prop::Method k b key it r)
      (vProp.rolls-Method k b key it r) g refl (λ word. refl) (λ word before. refl))) (if_at x ts P label l.KeyValue _ _
      (key_value_is x ts r p q h) (if_at x ts P label l.Shorthand _ _
      (shorthand_is x ts r p q h) (if_at x ts P label l.TypedAccessorProperty _ _
      (given_any _ (given (kind_at ts p 0) (listed accessor_kinds)) _
      (λ kind. typed_method_property_is x ts r p q h l.TypedAccessorProperty kind false false 1
      (λ k b key it g. prop_by x ts l.TypedAccessorProperty q _ (vProp.Method k b key it r)
      (Prop-F.Prop::Method k b key it r)
      (vProp.rolls-Method k b key it r) g refl (λ word. refl) (λ word before. refl))))
      (if_at x ts P label l.TypedAsyncProperty _ _
      (typed_method_property_is x ts r p q h l.TypedAsyncProperty vMethod.Method true (is_there (group p 0)) 1
      (λ k b key it g. prop_by x ts l.TypedAsyncProperty q _ (vProp.Method k b key it r)
      (Prop-F.Prop::Method k b key it r)
      (vProp.rolls-Method k b key it r) g refl (λ word. refl) (λ word before. refl)))
      (if_at x ts P label l.TypedGeneratorProperty _ _
      (typed_method_property_is x ts r p q h l.TypedGeneratorProperty vMethod.Method false true 0
      (λ k b key it g. prop_by x ts l.TypedGeneratorProperty q _ (vProp.Method k b key it r)
      (Prop-F.Prop::Method k b key it r)
      (vProp.rolls-Method k b key it r) g refl (λ word. refl) (λ word before. refl)))
      (if_at x ts P label l.TypedMethodProperty _ _
      (typed_method_property_is x ts r p q h l.TypedMethodProperty vMethod.Method false false 0
      (λ k b key it g. prop_by x ts l.TypedMethodProperty q _ (vProp.Method k b key it r)
      (Prop-F.Prop::Method k b key it r)
      (vProp.rolls-Method k b key it r) g refl (λ word. refl) (λ word before. refl))) (tt)))))))))))

  member_law : (label : NodeKind) (from : ℕ) (r : Range) (p : Value) (q : Part) → Is x ts p q
      → Opt ((λ (k : NodeKind). Of sites_of_class_member (own x ts k q)) label) (member_of x ts label r p)
  unfolding member_of
  member_law label from r p q h =
      let P = (λ (k : NodeKind). Of sites_of_class_member (own x ts k q)) in
      if_at x ts P label l.EmptyMember _ _
      (class_member_Empty [] r) (if_at x ts P label l.StaticBlock _ _
      (static_block_is x ts r p q h) (if_at x ts P label l.AccessorMember _ _
      (accessor_member_is x ts r p q h) (if_at x ts P label l.AsyncMember _ _
      (method_member_is x ts r p q h vMethod.Method true (is_there (group p 1)) 2)
      (if_at x ts P label l.GeneratorMember _ _
      (method_member_is x ts r p q h vMethod.Method false true 1) (if_at x ts P label l.MethodMember _ _
      (method_member_is x ts r p q h vMethod.Method false false 1) (if_at x ts P label l.FieldMember _ _
      (field_member_is x ts r p q h false) (if_at x ts P label l.AccessorField _ _
      (field_member_is x ts r p q h true) (if_at x ts P label l.TypedAccessorMember _ _
      (typed_accessor_member_is x ts r p q h) (if_at x ts P label l.TypedAsyncMember _ _
      (typed_method_member_is x ts r p q h vMethod.Method true (is_there (group p 1)) 2)
      (if_at x ts P label l.TypedGeneratorMember _ _
      (typed_method_member_is x ts r p q h vMethod.Method false true 1) (if_at x ts P label l.TypedMethodMember _ _
      (typed_method_member_is x ts r p q h vMethod.Method false false 1) (if_at x ts P label l.TypedFieldMember _ _
      (typed_field_is x ts r p q h false) (if_at x ts P label l.TypedAccessorField _ _
      (typed_field_is x ts r p q h true) (if_at x ts P label l.IndexMember _ _
      (index_member_is x ts r p q h) (tt)))))))))))))))

  post_law : (label : NodeKind) (from : ℕ) (r : Range) (p : Value) (q : Part) → Is x ts p q
      → Opt ((λ (k : NodeKind). PostIs (own x ts k q)) label) (post_of x ts label r p)
  unfolding post_of
  post_law label from r p q h =
      let P = (λ (k : NodeKind). PostIs (own x ts k q)) in
      if_at x ts P label l.MemberPost _ _
      (member_post_is x ts r p q h) (if_at x ts P label l.IndexPost _ _
      (index_post_is x ts r p q h) (if_at x ts P label l.CallPost _ _
      (call_post_is x ts r p q h) (if_at x ts P label l.TemplatePost _ _
      (template_post_is x ts r p q h) (if_at x ts P label l.OptionalPost _ _
      (optional_post_is x ts r p q h) (if_at x ts P label l.TypedCallPost _ _
      (typed_call_post_is x ts r p q h) (if_at x ts P label l.TypedTemplatePost _ _
      (typed_template_post_is x ts r p q h) (if_at x ts P label l.TypedOptionalPost _ _
      (typed_optional_post_is x ts r p q h) (if_at x ts P label l.NonNullPost _ _
      (non_null_post_is x ts r p q h) (tt)))))))))

  args_law : (label : NodeKind) (from : ℕ) (r : Range) (p : Value) (q : Part) → Is x ts p q
      → Opt ((λ (k : NodeKind). Of (flat_map sites_of_expr) (own x ts k q)) label) (args_of x ts label p)
  unfolding args_of
  args_law label from r p q h =
      let P = (λ (k : NodeKind). Of (flat_map sites_of_expr) (own x ts k q)) in
      if_at x ts P label l.Arguments _ _
      (arguments_is x ts r p q h) (tt)

  attributes_law : (label : NodeKind) (from : ℕ) (r : Range) (p : Value) (q : Part) → Is x ts p q
      → Opt ((λ (k : NodeKind) (c : ImportAttributes). attribute_of (Some c)
      ≡ clause_attribute x ts (node k q (own x ts k q))) label) (attributes_of x ts label r p)
  unfolding attributes_of
  attributes_law label from r p q h =
      let P = (λ (k : NodeKind) (c : ImportAttributes). attribute_of (Some c)
      ≡ clause_attribute x ts (node k q (own x ts k q))) in
      if_at x ts P label l.Attributes _ _
      (attributes_is x ts r p q h) (tt)

  module_decl_law : (label : NodeKind) (from : ℕ) (r : Range) (p : Value) (q : Part) → Is x ts p q
      → Opt ((λ (k : NodeKind). Of sites_of_module_decl (own x ts k q)) label) (module_decl_of x ts label r p)
  unfolding module_decl_of
  module_decl_law label from r p q h =
      let P = (λ (k : NodeKind). Of sites_of_module_decl (own x ts k q)) in
      if_at x ts P label l.BareImport _ _
      (bare_import_is x ts r p q h) (if_at x ts P label l.FromImport _ _
      (from_import_is x ts r p q h) (if_at x ts P label l.SourceImport _ _
      (phase_import_is x ts r p q h vPhase.Source) (if_at x ts P label l.DeferImport _ _
      (phase_import_is x ts r p q h vPhase.Defer) (if_at x ts P label l.RequireImport _ _
      (require_import_is x ts r p q h false) (if_at x ts P label l.EntityImport _ _
      (entity_import_is x ts r p q h false) (if_at x ts P label l.ExportedRequireImport _ _
      (require_import_is x ts r p q h true) (if_at x ts P label l.ExportedEntityImport _ _
      (entity_import_is x ts r p q h true) (if_at x ts P label l.ExportAll _ _
      (export_all_is x ts r p q h) (if_at x ts P label l.ExportNames _ _
      (export_names_is x ts r p q h) (if_at x ts P label l.ExportNamespace _ _
      (export_namespace_is x ts r p q h) (if_at x ts P label l.ExportDefaultFunction _ _
      (export_default_decl_is x ts r p q h) (if_at x ts P label l.ExportDefaultClass _ _
      (export_default_decl_is x ts r p q h) (if_at x ts P label l.ExportDefaultExpression _ _
      (export_default_expression_is x ts r p q h) (if_at x ts P label l.ExportDeclaration _ _
      (export_declaration_is x ts r p q h) (if_at x ts P label l.ExportDefaultInterface _ _
      (export_default_decl_is x ts r p q h) (if_at x ts P label l.ExportAssignment _ _
      (export_assignment_is x ts r p q h) (tt)))))))))))))))))

  program_law : (label : NodeKind) (from : ℕ) (r : Range) (p : Value) (q : Part) → Is x ts p q
      → Opt ((λ (k : NodeKind). Of sites_of (own x ts k q)) label) (program_of x ts label r p)
  unfolding program_of
  program_law label from r p q h =
      let P = (λ (k : NodeKind). Of sites_of (own x ts k q)) in
      if_at x ts P label l.Module _ _
      (module_is x ts r p q h) (if_at x ts P label l.Script _ _
      (script_is x ts r p q h) (tt))

  pub build_is : (label : NodeKind) (from : ℕ) (r : Range) (p : Value) (q : Part) → Is x ts p q
      → TypedIs x ts label q (own x ts label q) (build x ts label from r p)
  unfolding build
  build_is label from r p q h = record {
    expr = expr_law label from r p q h;
    pat = pat_law label from r p q h;
    stmt = stmt_law label from r p q h;
    decl = decl_law label from r p q h;
    item = item_by_is x ts (own x ts label q) (module_decl_of x ts label r p) (stmt_of x ts label r p)
        (module_decl_law label from r p q h) (stmt_law label from r p q h);
    program = program_law label from r p q h;
    block = block_law label from r p q h;
    variables = variables_law label from r p q h;
    declarator = declarator_law label from r p q h;
    head = head_law label from r p q h;
    param = param_law label from r p q h;
    params = params_law label from r p q h;
    pat_prop = pat_prop_law label from r p q h;
    prop = prop_law label from r p q h;
    member = member_law label from r p q h;
    key = key_law label from r p q h;
    post = post_law label from r p q h;
    args = args_law label from r p q h;
    attributes = attributes_law label from r p q h;
    marked = marked_law label from r p q h;
    signature = signature_law label from r p q h;
    declarable = declarable_law label from r p q h;
  }
