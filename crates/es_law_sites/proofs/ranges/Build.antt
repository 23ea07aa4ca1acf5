-- All that a node is, where its parts are fine and the literals that name modules are cut.
use Rattle.std.specs.Prelude.{true, false, List, Option, None}
use Rattle.std.proofs.Common.{◌≡◌, ℕ}
use Rattle.base.specs.declared.range.Range.{Range}
use Rattle.es_token.specs.declared.token.Token.{Token}
use Rattle.es_ast.specs.declared.ts.leaf.MethodKind.TheVariants as vMethod
use Rattle.es_ast.specs.declared.leaf.ImportPhase.TheVariants as vPhase
use Rattle.es_ast.specs.declared.ast.Expr.{Expr}
use Rattle.es_ast.specs.declared.ast.Expr.TheVariants as vExpr
use Rattle.es_ast.specs.declared.ast.Pat.TheVariants as vPat
use Rattle.es_ast.specs.declared.ast.Stmt.TheVariants as vStmt
use Rattle.es_grammar.specs.declared.rows.NodeKind.{NodeKind}
use Rattle.es_grammar.specs.declared.rows.NodeKind.TheVariants as l
use Rattle.es_lowering.specs.Value.{Value, absent, nil, more, token, node, group, optional, is_there}
use Rattle.es_lowering.specs.Texts.{str_at}
use Rattle.es_lowering.specs.Functions as functions
use Rattle.es_lowering.specs.Classes as classes
use Rattle.es_lowering.specs.Statements as stmts
use Rattle.es_lowering.specs.TypedFunctions as typed
use Rattle.es_lowering.specs.Lowering.{same_label, expr_of, pat_of, marked_of, variables_of, declarable_of, decl_of, block_of, stmt_of, declarator_of, param_of, head_of, params_of, signature_of, pat_prop_of, key_of, prop_of, member_of, post_of, args_of, module_decl_of, program_of, build, target_of, as_target}
use Rattle.es_law_sites.proofs.ranges.Cuts.{Each, Opt, StrCuts, ExprCuts, MemberCuts, DeclCuts, ModuleDeclCuts, PatPropCuts, PatCuts, PropCuts, StmtCuts, ClassCuts, FunctionCuts, ParamCuts, DeclaratorCuts}
use Rattle.es_law_sites.proofs.ranges.Forms.{expr_Fn_cuts, expr_Class_cuts, expr_Super_cuts, expr_ImportMeta_cuts, expr_NewTarget_cuts, decl_Fn_cuts, decl_Class_cuts, stmt_Block_cuts, stmt_Empty_cuts, stmt_Debugger_cuts, stmt_Decl_cuts, class_member_Empty_cuts, pat_Expr_cuts}
use Rattle.es_law_sites.proofs.ranges.Fine.{ProgramCuts, KeyCuts, HeadCuts, VariablesCut, PostCuts, MarkedCuts, SignatureCuts, DeclarableCuts, TypedFine, Fine, map_fine, if_fine}
use Rattle.es_law_sites.proofs.ranges.Exprs.{name_cuts, word_cuts, number_cuts, str_cuts, regexp_cuts, template_cuts, template_parts_cuts, parenthesized_cuts, array_literal_cuts, object_literal_cuts, spread_cuts, import_call_cuts, new_cuts, chain_cuts, update_prefix_cuts, update_postfix_cuts, prefix_cuts, await_cuts, binary_cuts, private_in_cuts, conditional_cuts, assignment_cuts, pattern_assignment_cuts, yield_cuts, sequence_cuts, member_post_cuts, index_post_cuts, call_post_cuts, template_post_cuts, optional_post_cuts, arguments_cuts}
use Rattle.es_law_sites.proofs.ranges.Patterns.{name_pattern_cuts, array_pattern_cuts, object_pattern_cuts, rest_pattern_cuts, default_pattern_cuts, rest_property_cuts, key_pattern_cuts, name_property_cuts, default_parameter_cuts, parameters_cuts, signature_cuts, function_made_cuts, name_arrow_cuts, parenthesized_arrow_cuts, word_key_cuts, str_key_cuts, number_key_cuts, computed_key_cuts, private_key_cuts, spread_property_cuts, shorthand_cuts, key_value_cuts, method_property_cuts, accessor_property_cuts, class_made_cuts, static_block_cuts, method_member_cuts, accessor_member_cuts, field_member_cuts, param_of_cuts as pat_param_cuts}
use Rattle.es_law_sites.proofs.ranges.Stmts.{block_cuts, declarator_cuts, bare_declarator_cuts, variables_cuts, using_cuts, variable_declaration_cuts, variable_head_cuts, using_head_cuts, for_cuts, for_each_cuts, for_await_cuts, while_cuts, do_cuts, expression_statement_cuts, labelled_cuts, if_cuts, continue_cuts, break_cuts, return_cuts, throw_cuts, switch_cuts, try_cuts, with_cuts, decl_of_cuts as variables_decl_cuts}
use Rattle.es_law_sites.proofs.ranges.Typed.{alias_cuts, declared_cuts, declared_variables_cuts, enum_cuts, export_assignment_cuts, global_cuts, index_member_cuts, interface_cuts, marked_array_cuts, marked_name_cuts, marked_object_cuts, marked_parameter_cuts, module_namespace_cuts, namespace_cuts, non_null_post_cuts, property_parameter_cuts, this_parameter_cuts, typed_accessor_member_cuts, typed_accessor_property_cuts, typed_arrow_cuts, typed_binary_cuts, type_assertion_cuts, typed_call_post_cuts, typed_class_cuts, typed_declarator_cuts, typed_field_cuts, typed_function_cuts, typed_head_cuts, typed_method_member_cuts, typed_method_property_cuts, typed_new_cuts, typed_optional_post_cuts, typed_parameters_cuts, typed_signature_cuts, typed_template_post_cuts, typed_try_cuts}
use Rattle.es_law_sites.proofs.ranges.Modules.{bare_import_cuts, from_import_cuts, phase_import_cuts, require_import_cuts, entity_import_cuts, export_all_cuts, export_names_cuts, export_namespace_cuts, export_default_decl_cuts, export_default_expression_cuts, export_declaration_cuts, item_by_cuts, module_cuts, script_cuts}

-- the literals that name modules, and those that are expressions or keys, are cut
pub record SourcesCut (x : List ℕ) (ts : List Token) (label : NodeKind) (p : Value) : Type 0 where
  pub bare_import : same_label label l.BareImport ≡ true → Opt (StrCuts x) (str_at x ts p 0)
  pub from_import : same_label label l.FromImport ≡ true → Opt (StrCuts x) (str_at x ts p 2)
  pub source_import : same_label label l.SourceImport ≡ true → Opt (StrCuts x) (str_at x ts p 1)
  pub defer_import : same_label label l.DeferImport ≡ true → Opt (StrCuts x) (str_at x ts p 1)
  pub require_import : same_label label l.RequireImport ≡ true → Opt (StrCuts x) (str_at x ts p 2)
  pub exported_require_import : same_label label l.ExportedRequireImport ≡ true → Opt (StrCuts x) (str_at x ts p 2)
  pub export_all : same_label label l.ExportAll ≡ true → Opt (StrCuts x) (str_at x ts p 2)
  pub export_names : same_label label l.ExportNames ≡ true → Opt (Opt (StrCuts x)) (optional (str_at x ts) (group p 2))
  pub str : same_label label l.Str ≡ true → Opt (StrCuts x) (str_at x ts p 0)
  pub str_key : same_label label l.StrKey ≡ true → Opt (StrCuts x) (str_at x ts p 0)

module _ (x : List ℕ) (ts : List Token) where
  expr_of_cuts : (label : NodeKind) (from : ℕ) (r : Range) (p : Value) → Fine x p → SourcesCut x ts label p
      → Opt (ExprCuts x) (expr_of x ts label from r p)
  unfolding expr_of
  expr_of_cuts label from r p fine sources =
      if_fine (ExprCuts x) (same_label label l.Name) _ _ (λ e. name_cuts x ts p)
      (if_fine (ExprCuts x) (same_label label l.Word) _ _ (λ e. word_cuts x ts r p)
      (if_fine (ExprCuts x) (same_label label l.Number) _ _ (λ e. number_cuts x ts p)
      (if_fine (ExprCuts x) (same_label label l.Str) _ _ (λ e. str_cuts x ts p (sources.str e))
      (if_fine (ExprCuts x) (same_label label l.RegExp) _ _ (λ e. regexp_cuts x ts p)
      (if_fine (ExprCuts x) (same_label label l.Template) _ _ (λ e. template_cuts x ts r p)
      (if_fine (ExprCuts x) (same_label label l.TemplateParts) _ _ (λ e. template_parts_cuts x ts r p fine)
      (if_fine (ExprCuts x) (same_label label l.Parenthesized) _ _ (λ e. parenthesized_cuts x ts r p fine)
      (if_fine (ExprCuts x) (same_label label l.ArrayLiteral) _ _ (λ e. array_literal_cuts x ts from r p fine)
      (if_fine (ExprCuts x) (same_label label l.ObjectLiteral) _ _ (λ e. object_literal_cuts x ts r p fine)
      (if_fine (ExprCuts x) (same_label label l.Spread) _ _ (λ e. spread_cuts x ts r p fine)
      (if_fine (ExprCuts x) (same_label label l.Function) _ _
      (λ e. map_fine (FunctionCuts x) (ExprCuts x) (functions.function x ts false r p) vExpr.Fn
      (function_made_cuts x ts false r p fine) (expr_Fn_cuts x))
      (if_fine (ExprCuts x) (same_label label l.AsyncFunction) _ _
      (λ e. map_fine (FunctionCuts x) (ExprCuts x) (functions.function x ts true r p) vExpr.Fn
      (function_made_cuts x ts true r p fine) (expr_Fn_cuts x))
      (if_fine (ExprCuts x) (same_label label l.Class) _ _
      (λ e. map_fine (ClassCuts x) (ExprCuts x) (classes.class_ x ts r p) vExpr.Class
      (class_made_cuts x ts r p fine) (expr_Class_cuts x))
      (if_fine (ExprCuts x) (same_label label l.Super) _ _ (λ e. expr_Super_cuts x r)
      (if_fine (ExprCuts x) (same_label label l.ImportCall) _ _ (λ e. import_call_cuts x ts vPhase.Evaluation r p fine)
      (if_fine (ExprCuts x) (same_label label l.SourceCall) _ _ (λ e. import_call_cuts x ts vPhase.Source r p fine)
      (if_fine (ExprCuts x) (same_label label l.DeferCall) _ _ (λ e. import_call_cuts x ts vPhase.Defer r p fine)
      (if_fine (ExprCuts x) (same_label label l.ImportMeta) _ _ (λ e. expr_ImportMeta_cuts x r)
      (if_fine (ExprCuts x) (same_label label l.NewTarget) _ _ (λ e. expr_NewTarget_cuts x r)
      (if_fine (ExprCuts x) (same_label label l.New) _ _ (λ e. new_cuts x ts r p fine)
      (if_fine (ExprCuts x) (same_label label l.Chain) _ _ (λ e. chain_cuts x ts r p fine)
      (if_fine (ExprCuts x) (same_label label l.UpdatePrefix) _ _ (λ e. update_prefix_cuts x ts r p fine)
      (if_fine (ExprCuts x) (same_label label l.UpdatePostfix) _ _ (λ e. update_postfix_cuts x ts r p fine)
      (if_fine (ExprCuts x) (same_label label l.UnaryExpression) _ _ (λ e. prefix_cuts x ts r p fine)
      (if_fine (ExprCuts x) (same_label label l.AwaitExpression) _ _ (λ e. await_cuts x ts r p fine)
      (if_fine (ExprCuts x) (same_label label l.Binary) _ _ (λ e. binary_cuts x ts r p fine)
      (if_fine (ExprCuts x) (same_label label l.PrivateIn) _ _ (λ e. private_in_cuts x ts r p fine)
      (if_fine (ExprCuts x) (same_label label l.Conditional) _ _ (λ e. conditional_cuts x ts r p fine)
      (if_fine (ExprCuts x) (same_label label l.Assignment) _ _ (λ e. assignment_cuts x ts r p fine)
      (if_fine (ExprCuts x) (same_label label l.PatternAssignment) _ _ (λ e. pattern_assignment_cuts x ts r p fine)
      (if_fine (ExprCuts x) (same_label label l.Yield) _ _ (λ e. yield_cuts x ts r p fine)
      (if_fine (ExprCuts x) (same_label label l.NameArrow) _ _ (λ e. name_arrow_cuts x ts false r p fine)
      (if_fine (ExprCuts x) (same_label label l.ParenthesizedArrow) _ _
      (λ e. parenthesized_arrow_cuts x ts false r p fine)
      (if_fine (ExprCuts x) (same_label label l.AsyncNameArrow) _ _ (λ e. name_arrow_cuts x ts true r p fine)
      (if_fine (ExprCuts x) (same_label label l.AsyncParenthesizedArrow) _ _
      (λ e. parenthesized_arrow_cuts x ts true r p fine)
      (if_fine (ExprCuts x) (same_label label l.Sequence) _ _ (λ e. sequence_cuts x ts r p fine)
      (if_fine (ExprCuts x) (same_label label l.TypedFunction) _ _
      (λ e. map_fine (FunctionCuts x) (ExprCuts x) (typed.typed_function x ts false r p) vExpr.Fn
      (typed_function_cuts x ts false r p fine) (expr_Fn_cuts x))
      (if_fine (ExprCuts x) (same_label label l.TypedAsyncFunction) _ _
      (λ e. map_fine (FunctionCuts x) (ExprCuts x) (typed.typed_function x ts true r p) vExpr.Fn
      (typed_function_cuts x ts true r p fine) (expr_Fn_cuts x))
      (if_fine (ExprCuts x) (same_label label l.TypedClass) _ _
      (λ e. map_fine (ClassCuts x) (ExprCuts x) (typed.typed_class x ts false r p) vExpr.Class
      (typed_class_cuts x ts false r p fine) (expr_Class_cuts x))
      (if_fine (ExprCuts x) (same_label label l.AbstractClass) _ _
      (λ e. map_fine (ClassCuts x) (ExprCuts x) (typed.typed_class x ts true r p) vExpr.Class
      (typed_class_cuts x ts true r p fine) (expr_Class_cuts x))
      (if_fine (ExprCuts x) (same_label label l.TypedNew) _ _ (λ e. typed_new_cuts x ts r p fine)
      (if_fine (ExprCuts x) (same_label label l.TypedBinary) _ _ (λ e. typed_binary_cuts x ts r p fine)
      (if_fine (ExprCuts x) (same_label label l.TypeAssertion) _ _ (λ e. type_assertion_cuts x ts r p fine)
      (if_fine (ExprCuts x) (same_label label l.TypedParenthesizedArrow) _ _ (λ e. typed_arrow_cuts x ts false r p fine)
      (if_fine (ExprCuts x) (same_label label l.TypedAsyncParenthesizedArrow) _ _
      (λ e. typed_arrow_cuts x ts true r p fine)
      (tt))))))))))))))))))))))))))))))))))))))))))))))

  pat_of_cuts : (label : NodeKind) (from : ℕ) (r : Range) (p : Value) → Fine x p
      → Opt (PatCuts x) (pat_of x ts label from r p)
  unfolding pat_of
  pat_of_cuts label from r p fine =
      if_fine (PatCuts x) (same_label label l.NamePattern) _ _ (λ e. name_pattern_cuts x ts p)
      (if_fine (PatCuts x) (same_label label l.ArrayPattern) _ _ (λ e. array_pattern_cuts x ts from r p fine)
      (if_fine (PatCuts x) (same_label label l.ObjectPattern) _ _ (λ e. object_pattern_cuts x ts r p fine)
      (if_fine (PatCuts x) (same_label label l.RestPattern) _ _ (λ e. rest_pattern_cuts x ts r p fine)
      (if_fine (PatCuts x) (same_label label l.DefaultPattern) _ _ (λ e. default_pattern_cuts x ts r p fine)
      (tt)))))

  variables_of_cuts : (label : NodeKind) (p : Value) → Fine x p → Opt (VariablesCut x) (variables_of x ts label p)
  unfolding variables_of
  variables_of_cuts label p fine =
      if_fine (VariablesCut x) (same_label label l.Variables) _ _ (λ e. variables_cuts x ts p fine)
      (if_fine (VariablesCut x) (same_label label l.Using) _ _ (λ e. using_cuts x ts p fine)
      (tt))

  marked_of_cuts : (label : NodeKind) (from : ℕ) (p : Value) → Fine x p
      → Opt (MarkedCuts x) (marked_of x ts label from p)
  unfolding marked_of
  marked_of_cuts label from p fine =
      if_fine (MarkedCuts x) (same_label label l.NamePattern) _ _ (λ e. marked_name_cuts x ts p)
      (if_fine (MarkedCuts x) (same_label label l.ArrayPattern) _ _ (λ e. marked_array_cuts x ts from p fine)
      (if_fine (MarkedCuts x) (same_label label l.ObjectPattern) _ _ (λ e. marked_object_cuts x ts p fine)
      (tt)))

  signature_of_cuts : (label : NodeKind) (p : Value) → Fine x p → Opt (SignatureCuts x) (signature_of x ts label p)
  unfolding signature_of
  signature_of_cuts label p fine =
      if_fine (SignatureCuts x) (same_label label l.TypedSignature) _ _ (λ e. typed_signature_cuts x ts p fine)
      (tt)

  declarable_of_cuts : (label : NodeKind) (r : Range) (p : Value) → Fine x p
      → Opt (DeclarableCuts x) (declarable_of x ts label r p)
  unfolding declarable_of
  declarable_of_cuts label r p fine =
      if_fine (DeclarableCuts x) (same_label label l.TypedFunction) _ _
      (λ e. map_fine (FunctionCuts x) (DeclarableCuts x) (typed.typed_function x ts false r p) _
      (typed_function_cuts x ts false r p fine) (λ function f declare span. decl_Fn_cuts x declare function span f))
      (if_fine (DeclarableCuts x) (same_label label l.TypedAsyncFunction) _ _
      (λ e. map_fine (FunctionCuts x) (DeclarableCuts x) (typed.typed_function x ts true r p) _
      (typed_function_cuts x ts true r p fine) (λ function f declare span. decl_Fn_cuts x declare function span f))
      (if_fine (DeclarableCuts x) (same_label label l.TypedClass) _ _
      (λ e. map_fine (ClassCuts x) (DeclarableCuts x) (typed.typed_class x ts false r p) _
      (typed_class_cuts x ts false r p fine) (λ class f declare span. decl_Class_cuts x declare class span f))
      (if_fine (DeclarableCuts x) (same_label label l.AbstractClass) _ _
      (λ e. map_fine (ClassCuts x) (DeclarableCuts x) (typed.typed_class x ts true r p) _
      (typed_class_cuts x ts true r p fine) (λ class f declare span. decl_Class_cuts x declare class span f))
      (if_fine (DeclarableCuts x) (same_label label l.InterfaceDeclaration) _ _ (λ e. interface_cuts x ts p)
      (if_fine (DeclarableCuts x) (same_label label l.AliasDeclaration) _ _ (λ e. alias_cuts x ts p)
      (if_fine (DeclarableCuts x) (same_label label l.EnumDeclaration) _ _ (λ e. enum_cuts x ts p fine)
      (if_fine (DeclarableCuts x) (same_label label l.NamespaceDeclaration) _ _ (λ e. namespace_cuts x ts p fine)
      (if_fine (DeclarableCuts x) (same_label label l.ModuleDeclaration) _ _ (λ e. module_namespace_cuts x ts p fine)
      (if_fine (DeclarableCuts x) (same_label label l.GlobalDeclaration) _ _ (λ e. global_cuts x ts p fine)
      (tt))))))))))

  decl_of_cuts : (label : NodeKind) (r : Range) (p : Value) → Fine x p → Opt (DeclCuts x) (decl_of x ts label r p)
  unfolding decl_of
  decl_of_cuts label r p fine =
      if_fine (DeclCuts x) (same_label label l.Function) _ _
      (λ e. map_fine (FunctionCuts x) (DeclCuts x) (functions.function x ts false r p) _
      (function_made_cuts x ts false r p fine) (λ function f. decl_Fn_cuts x false function r f))
      (if_fine (DeclCuts x) (same_label label l.AsyncFunction) _ _
      (λ e. map_fine (FunctionCuts x) (DeclCuts x) (functions.function x ts true r p) _
      (function_made_cuts x ts true r p fine) (λ function f. decl_Fn_cuts x false function r f))
      (if_fine (DeclCuts x) (same_label label l.Class) _ _
      (λ e. map_fine (ClassCuts x) (DeclCuts x) (classes.class_ x ts r p) _ (class_made_cuts x ts r p fine)
      (λ class f. decl_Class_cuts x false class r f))
      (if_fine (DeclCuts x) (same_label label l.VariableDeclaration) _ _ (λ e. variable_declaration_cuts x ts r p fine)
      (if_fine (DeclCuts x) (same_label label l.UsingDeclaration) _ _ (λ e. variable_declaration_cuts x ts r p fine)
      (if_fine (DeclCuts x) (same_label label l.Variables) _ _
      (λ e. map_fine (VariablesCut x) (DeclCuts x) (stmts.variables ts p) (stmts.decl_of r)
      (variables_cuts x ts p fine) (λ v f. variables_decl_cuts x ts r v f))
      (if_fine (DeclCuts x) (same_label label l.Using) _ _
      (λ e. map_fine (VariablesCut x) (DeclCuts x) (stmts.using_ p) (stmts.decl_of r) (using_cuts x ts p fine)
      (λ v f. variables_decl_cuts x ts r v f))
      (if_fine (DeclCuts x) (same_label label l.Declared) _ _ (λ e. declared_cuts x ts r p fine)
      (if_fine (DeclCuts x) (same_label label l.DeclaredVariables) _ _ (λ e. declared_variables_cuts x ts r p fine)
      (map_fine (DeclarableCuts x) (DeclCuts x) (declarable_of x ts label r p) _ (declarable_of_cuts label r p fine)
      (λ decl f. f false r))))))))))

  block_of_cuts : (label : NodeKind) (p : Value) → Fine x p → Opt (Each (StmtCuts x)) (block_of x ts label p)
  unfolding block_of
  block_of_cuts label p fine =
      if_fine (Each (StmtCuts x)) (same_label label l.Block) _ _ (λ e. block_cuts x ts p fine)
      (tt)

  stmt_of_cuts : (label : NodeKind) (r : Range) (p : Value) → Fine x p → Opt (StmtCuts x) (stmt_of x ts label r p)
  unfolding stmt_of
  stmt_of_cuts label r p fine =
      if_fine (StmtCuts x) (same_label label l.Block) _ _
      (λ e. map_fine (Each (StmtCuts x)) (StmtCuts x) (stmts.block p) _ (block_cuts x ts p fine)
      (λ all f. stmt_Block_cuts x all r f))
      (if_fine (StmtCuts x) (same_label label l.EmptyStatement) _ _ (λ e. stmt_Empty_cuts x r)
      (if_fine (StmtCuts x) (same_label label l.ExpressionStatement) _ _ (λ e. expression_statement_cuts x ts r p fine)
      (if_fine (StmtCuts x) (same_label label l.LabelledStatement) _ _ (λ e. labelled_cuts x ts r p fine)
      (if_fine (StmtCuts x) (same_label label l.IfStatement) _ _ (λ e. if_cuts x ts r p fine)
      (if_fine (StmtCuts x) (same_label label l.ForStatement) _ _ (λ e. for_cuts x ts r p fine)
      (if_fine (StmtCuts x) (same_label label l.ForEachStatement) _ _ (λ e. for_each_cuts x ts r p fine)
      (if_fine (StmtCuts x) (same_label label l.ForAwaitStatement) _ _ (λ e. for_await_cuts x ts r p fine)
      (if_fine (StmtCuts x) (same_label label l.WhileStatement) _ _ (λ e. while_cuts x ts r p fine)
      (if_fine (StmtCuts x) (same_label label l.DoStatement) _ _ (λ e. do_cuts x ts r p fine)
      (if_fine (StmtCuts x) (same_label label l.ContinueStatement) _ _ (λ e. continue_cuts x ts r p)
      (if_fine (StmtCuts x) (same_label label l.BreakStatement) _ _ (λ e. break_cuts x ts r p)
      (if_fine (StmtCuts x) (same_label label l.ReturnStatement) _ _ (λ e. return_cuts x ts r p fine)
      (if_fine (StmtCuts x) (same_label label l.ThrowStatement) _ _ (λ e. throw_cuts x ts r p fine)
      (if_fine (StmtCuts x) (same_label label l.SwitchStatement) _ _ (λ e. switch_cuts x ts r p fine)
      (if_fine (StmtCuts x) (same_label label l.TryStatement) _ _ (λ e. try_cuts x ts r p fine)
      (if_fine (StmtCuts x) (same_label label l.DebuggerStatement) _ _ (λ e. stmt_Debugger_cuts x r)
      (if_fine (StmtCuts x) (same_label label l.WithStatement) _ _ (λ e. with_cuts x ts r p fine)
      (if_fine (StmtCuts x) (same_label label l.TypedTryStatement) _ _ (λ e. typed_try_cuts x ts r p fine)
      (map_fine (DeclCuts x) (StmtCuts x) (decl_of x ts label r p) vStmt.Decl (decl_of_cuts label r p fine)
      (stmt_Decl_cuts x))))))))))))))))))))

  declarator_of_cuts : (label : NodeKind) (from : ℕ) (r : Range) (p : Value) → Fine x p
      → Opt (DeclaratorCuts x) (declarator_of x ts label from r p)
  unfolding declarator_of
  declarator_of_cuts label from r p fine =
      if_fine (DeclaratorCuts x) (same_label label l.Declarator) _ _ (λ e. declarator_cuts x ts r p fine)
      (if_fine (DeclaratorCuts x) (same_label label l.TypedDeclarator) _ _ (λ e. typed_declarator_cuts x ts r p fine)
      (map_fine (PatCuts x) (DeclaratorCuts x) (pat_of x ts label from r p) (stmts.declarator_of r None)
      (pat_of_cuts label from r p fine) (bare_declarator_cuts x ts r)))

  param_of_cuts : (label : NodeKind) (from : ℕ) (r : Range) (p : Value) → Fine x p
      → Opt (ParamCuts x) (param_of x ts label from r p)
  unfolding param_of
  param_of_cuts label from r p fine =
      if_fine (ParamCuts x) (same_label label l.DefaultParameter) _ _ (λ e. default_parameter_cuts x ts r p fine)
      (if_fine (ParamCuts x) (same_label label l.ThisParameter) _ _ (λ e. this_parameter_cuts x ts r p fine)
      (if_fine (ParamCuts x) (same_label label l.PropertyParameter) _ _ (λ e. property_parameter_cuts x ts r p fine)
      (if_fine (ParamCuts x) (same_label label l.MarkedParameter) _ _ (λ e. marked_parameter_cuts x ts r p fine)
      (map_fine (PatCuts x) (ParamCuts x) (pat_of x ts label from r p) (functions.param_of r)
      (pat_of_cuts label from r p fine) (pat_param_cuts x ts r)))))

  head_of_cuts : (label : NodeKind) (from : ℕ) (r : Range) (p : Value) → Fine x p
      → Opt (HeadCuts x) (head_of x ts label from r p)
  unfolding head_of
  head_of_cuts label from r p fine =
      if_fine (HeadCuts x) (same_label label l.VariableHead) _ _ (λ e. variable_head_cuts x ts p fine)
      (if_fine (HeadCuts x) (same_label label l.UsingHead) _ _ (λ e. using_head_cuts x ts p)
      (if_fine (HeadCuts x) (same_label label l.TypedVariableHead) _ _ (λ e. typed_head_cuts x ts p fine)
      (map_fine (PatCuts x) (HeadCuts x) (pat_of x ts label from r p) _ (pat_of_cuts label from r p fine)
      (λ target f. f))))

  params_of_cuts : (label : NodeKind) (p : Value) → Fine x p → Opt (Each (ParamCuts x)) (params_of x ts label p)
  unfolding params_of
  params_of_cuts label p fine =
      if_fine (Each (ParamCuts x)) (same_label label l.Parameters) _ _ (λ e. parameters_cuts x ts p fine)
      (if_fine (Each (ParamCuts x)) (same_label label l.Signature) _ _ (λ e. signature_cuts x ts p fine)
      (if_fine (Each (ParamCuts x)) (same_label label l.TypedParameters) _ _ (λ e. typed_parameters_cuts x ts p fine)
      (tt)))

  pat_prop_of_cuts : (label : NodeKind) (r : Range) (p : Value) → Fine x p
      → Opt (PatPropCuts x) (pat_prop_of x ts label r p)
  unfolding pat_prop_of
  pat_prop_of_cuts label r p fine =
      if_fine (PatPropCuts x) (same_label label l.RestProperty) _ _ (λ e. rest_property_cuts x ts r p fine)
      (if_fine (PatPropCuts x) (same_label label l.KeyPattern) _ _ (λ e. key_pattern_cuts x ts r p fine)
      (if_fine (PatPropCuts x) (same_label label l.NameProperty) _ _ (λ e. name_property_cuts x ts r p fine)
      (tt)))

  key_of_cuts : (label : NodeKind) (p : Value) → Fine x p → SourcesCut x ts label p
      → Opt (KeyCuts x) (key_of x ts label p)
  unfolding key_of
  key_of_cuts label p fine sources =
      if_fine (KeyCuts x) (same_label label l.WordKey) _ _ (λ e. word_key_cuts x ts p)
      (if_fine (KeyCuts x) (same_label label l.StrKey) _ _ (λ e. str_key_cuts x ts p (sources.str_key e))
      (if_fine (KeyCuts x) (same_label label l.NumberKey) _ _ (λ e. number_key_cuts x ts p)
      (if_fine (KeyCuts x) (same_label label l.ComputedKey) _ _ (λ e. computed_key_cuts x ts p fine)
      (if_fine (KeyCuts x) (same_label label l.PrivateKey) _ _ (λ e. private_key_cuts x ts p)
      (tt)))))

  prop_of_cuts : (label : NodeKind) (r : Range) (p : Value) → Fine x p → Opt (PropCuts x) (prop_of x ts label r p)
  unfolding prop_of
  prop_of_cuts label r p fine =
      if_fine (PropCuts x) (same_label label l.SpreadProperty) _ _ (λ e. spread_property_cuts x ts r p fine)
      (if_fine (PropCuts x) (same_label label l.AccessorProperty) _ _ (λ e. accessor_property_cuts x ts r p fine)
      (if_fine (PropCuts x) (same_label label l.AsyncProperty) _ _
      (λ e. method_property_cuts x ts vMethod.Method true (is_there (group p 0)) r p 1 fine)
      (if_fine (PropCuts x) (same_label label l.GeneratorProperty) _ _
      (λ e. method_property_cuts x ts vMethod.Method false true r p 0 fine)
      (if_fine (PropCuts x) (same_label label l.MethodProperty) _ _
      (λ e. method_property_cuts x ts vMethod.Method false false r p 0 fine)
      (if_fine (PropCuts x) (same_label label l.KeyValue) _ _ (λ e. key_value_cuts x ts r p fine)
      (if_fine (PropCuts x) (same_label label l.Shorthand) _ _ (λ e. shorthand_cuts x ts p)
      (if_fine (PropCuts x) (same_label label l.TypedAccessorProperty) _ _
      (λ e. typed_accessor_property_cuts x ts r p fine)
      (if_fine (PropCuts x) (same_label label l.TypedAsyncProperty) _ _
      (λ e. typed_method_property_cuts x ts vMethod.Method true (is_there (group p 0)) r p 1 fine)
      (if_fine (PropCuts x) (same_label label l.TypedGeneratorProperty) _ _
      (λ e. typed_method_property_cuts x ts vMethod.Method false true r p 0 fine)
      (if_fine (PropCuts x) (same_label label l.TypedMethodProperty) _ _
      (λ e. typed_method_property_cuts x ts vMethod.Method false false r p 0 fine)
      (tt)))))))))))

  member_of_cuts : (label : NodeKind) (r : Range) (p : Value) → Fine x p → Opt (MemberCuts x) (member_of x ts label r p)
  unfolding member_of
  member_of_cuts label r p fine =
      if_fine (MemberCuts x) (same_label label l.EmptyMember) _ _ (λ e. class_member_Empty_cuts x r)
      (if_fine (MemberCuts x) (same_label label l.StaticBlock) _ _ (λ e. static_block_cuts x ts r p fine)
      (if_fine (MemberCuts x) (same_label label l.AccessorMember) _ _ (λ e. accessor_member_cuts x ts r p fine)
      (if_fine (MemberCuts x) (same_label label l.AsyncMember) _ _
      (λ e. method_member_cuts x ts vMethod.Method true (is_there (group p 1)) r p 2 fine)
      (if_fine (MemberCuts x) (same_label label l.GeneratorMember) _ _
      (λ e. method_member_cuts x ts vMethod.Method false true r p 1 fine)
      (if_fine (MemberCuts x) (same_label label l.MethodMember) _ _
      (λ e. method_member_cuts x ts vMethod.Method false false r p 1 fine)
      (if_fine (MemberCuts x) (same_label label l.FieldMember) _ _ (λ e. field_member_cuts x ts false r p fine)
      (if_fine (MemberCuts x) (same_label label l.AccessorField) _ _ (λ e. field_member_cuts x ts true r p fine)
      (if_fine (MemberCuts x) (same_label label l.TypedAccessorMember) _ _
      (λ e. typed_accessor_member_cuts x ts r p fine)
      (if_fine (MemberCuts x) (same_label label l.TypedAsyncMember) _ _
      (λ e. typed_method_member_cuts x ts vMethod.Method true (is_there (group p 1)) r p 2 fine)
      (if_fine (MemberCuts x) (same_label label l.TypedGeneratorMember) _ _
      (λ e. typed_method_member_cuts x ts vMethod.Method false true r p 1 fine)
      (if_fine (MemberCuts x) (same_label label l.TypedMethodMember) _ _
      (λ e. typed_method_member_cuts x ts vMethod.Method false false r p 1 fine)
      (if_fine (MemberCuts x) (same_label label l.TypedFieldMember) _ _ (λ e. typed_field_cuts x ts false r p fine)
      (if_fine (MemberCuts x) (same_label label l.TypedAccessorField) _ _ (λ e. typed_field_cuts x ts true r p fine)
      (if_fine (MemberCuts x) (same_label label l.IndexMember) _ _ (λ e. index_member_cuts x ts r p)
      (tt)))))))))))))))

  post_of_cuts : (label : NodeKind) (r : Range) (p : Value) → Fine x p → Opt (PostCuts x) (post_of x ts label r p)
  unfolding post_of
  post_of_cuts label r p fine =
      if_fine (PostCuts x) (same_label label l.MemberPost) _ _ (λ e. member_post_cuts x ts r p)
      (if_fine (PostCuts x) (same_label label l.IndexPost) _ _ (λ e. index_post_cuts x ts r p fine)
      (if_fine (PostCuts x) (same_label label l.CallPost) _ _ (λ e. call_post_cuts x ts r p fine)
      (if_fine (PostCuts x) (same_label label l.TemplatePost) _ _ (λ e. template_post_cuts x ts r p fine)
      (if_fine (PostCuts x) (same_label label l.OptionalPost) _ _ (λ e. optional_post_cuts x ts r p fine)
      (if_fine (PostCuts x) (same_label label l.TypedCallPost) _ _ (λ e. typed_call_post_cuts x ts r p fine)
      (if_fine (PostCuts x) (same_label label l.TypedTemplatePost) _ _ (λ e. typed_template_post_cuts x ts r p fine)
      (if_fine (PostCuts x) (same_label label l.TypedOptionalPost) _ _ (λ e. typed_optional_post_cuts x ts r p fine)
      (if_fine (PostCuts x) (same_label label l.NonNullPost) _ _ (λ e. non_null_post_cuts x ts r)
      (tt)))))))))

  args_of_cuts : (label : NodeKind) (p : Value) → Fine x p → Opt (Each (ExprCuts x)) (args_of x ts label p)
  unfolding args_of
  args_of_cuts label p fine =
      if_fine (Each (ExprCuts x)) (same_label label l.Arguments) _ _ (λ e. arguments_cuts x ts p fine)
      (tt)

  module_decl_of_cuts : (label : NodeKind) (r : Range) (p : Value) → Fine x p → SourcesCut x ts label p
      → Opt (ModuleDeclCuts x) (module_decl_of x ts label r p)
  unfolding module_decl_of
  module_decl_of_cuts label r p fine sources =
      if_fine (ModuleDeclCuts x) (same_label label l.BareImport) _ _
      (λ e. bare_import_cuts x ts r p (sources.bare_import e))
      (if_fine (ModuleDeclCuts x) (same_label label l.FromImport) _ _
      (λ e. from_import_cuts x ts r p (sources.from_import e))
      (if_fine (ModuleDeclCuts x) (same_label label l.SourceImport) _ _
      (λ e. phase_import_cuts x ts vPhase.Source r p (sources.source_import e))
      (if_fine (ModuleDeclCuts x) (same_label label l.DeferImport) _ _
      (λ e. phase_import_cuts x ts vPhase.Defer r p (sources.defer_import e))
      (if_fine (ModuleDeclCuts x) (same_label label l.RequireImport) _ _
      (λ e. require_import_cuts x ts false r p (sources.require_import e))
      (if_fine (ModuleDeclCuts x) (same_label label l.EntityImport) _ _ (λ e. entity_import_cuts x ts false r p)
      (if_fine (ModuleDeclCuts x) (same_label label l.ExportedRequireImport) _ _
      (λ e. require_import_cuts x ts true r p (sources.exported_require_import e))
      (if_fine (ModuleDeclCuts x) (same_label label l.ExportedEntityImport) _ _ (λ e. entity_import_cuts x ts true r p)
      (if_fine (ModuleDeclCuts x) (same_label label l.ExportAll) _ _
      (λ e. export_all_cuts x ts r p (sources.export_all e))
      (if_fine (ModuleDeclCuts x) (same_label label l.ExportNames) _ _
      (λ e. export_names_cuts x ts r p (sources.export_names e))
      (if_fine (ModuleDeclCuts x) (same_label label l.ExportNamespace) _ _ (λ e. export_namespace_cuts x ts r p)
      (if_fine (ModuleDeclCuts x) (same_label label l.ExportDefaultFunction) _ _
      (λ e. export_default_decl_cuts x ts r p fine)
      (if_fine (ModuleDeclCuts x) (same_label label l.ExportDefaultClass) _ _
      (λ e. export_default_decl_cuts x ts r p fine)
      (if_fine (ModuleDeclCuts x) (same_label label l.ExportDefaultExpression) _ _
      (λ e. export_default_expression_cuts x ts r p fine)
      (if_fine (ModuleDeclCuts x) (same_label label l.ExportDeclaration) _ _
      (λ e. export_declaration_cuts x ts r p fine)
      (if_fine (ModuleDeclCuts x) (same_label label l.ExportDefaultInterface) _ _
      (λ e. export_default_decl_cuts x ts r p fine)
      (if_fine (ModuleDeclCuts x) (same_label label l.ExportAssignment) _ _ (λ e. export_assignment_cuts x ts r p fine)
      (tt)))))))))))))))))

  program_of_cuts : (label : NodeKind) (r : Range) (p : Value) → Fine x p
      → Opt (ProgramCuts x) (program_of x ts label r p)
  unfolding program_of
  program_of_cuts label r p fine =
      if_fine (ProgramCuts x) (same_label label l.Module) _ _ (λ e. module_cuts x ts r p fine)
      (if_fine (ProgramCuts x) (same_label label l.Script) _ _ (λ e. script_cuts x ts r p fine)
      (tt))

  pub build_fine : (label : NodeKind) (from : ℕ) (r : Range) (p : Value) → Fine x p → SourcesCut x ts label p
      → TypedFine x (build x ts label from r p)
  unfolding build
  build_fine label from r p fine sources = record {
    expr = expr_of_cuts label from r p fine sources;
    pat = pat_of_cuts label from r p fine;
    stmt = stmt_of_cuts label r p fine;
    decl = decl_of_cuts label r p fine;
    item = item_by_cuts x ts (module_decl_of x ts label r p) (stmt_of x ts label r p)
        (module_decl_of_cuts label r p fine sources)
        (stmt_of_cuts label r p fine);
    program = program_of_cuts label r p fine;
    block = block_of_cuts label p fine;
    variables = variables_of_cuts label p fine;
    declarator = declarator_of_cuts label from r p fine;
    head = head_of_cuts label from r p fine;
    param = param_of_cuts label from r p fine;
    params = params_of_cuts label p fine;
    pat_prop = pat_prop_of_cuts label r p fine;
    prop = prop_of_cuts label r p fine;
    member = member_of_cuts label r p fine;
    key = key_of_cuts label p fine sources;
    post = post_of_cuts label r p fine;
    args = args_of_cuts label p fine;
    marked = marked_of_cuts label from p fine;
    signature = signature_of_cuts label p fine;
    declarable = declarable_of_cuts label r p fine;
  }

  target_fine : (e : Option Expr) → Opt (ExprCuts x) e → TypedFine x (target_of x ts e)
  target_fine e f = record {
    expr = tt;
    pat = map_fine (ExprCuts x) (PatCuts x) e vPat.Expr f (pat_Expr_cuts x);
    stmt = tt;
    decl = tt;
    item = tt;
    program = tt;
    block = tt;
    variables = tt;
    declarator = tt;
    head = map_fine (ExprCuts x) (HeadCuts x) e _ f (pat_Expr_cuts x);
    param = tt;
    params = tt;
    pat_prop = tt;
    prop = tt;
    member = tt;
    key = tt;
    post = tt;
    args = tt;
    marked = tt;
    signature = tt;
    declarable = tt;
  }

  pub as_target_fine : (v : Value) → Fine x v → Fine x (as_target x ts v)
  as_target_fine (node from to m) fine = target_fine m.expr fine.expr
  as_target_fine absent fine = tt
  as_target_fine nil fine = tt
  as_target_fine (more v vs) fine = tt
  as_target_fine (token n) fine = tt
