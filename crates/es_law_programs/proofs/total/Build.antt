-- All that a node may be read as, where its parts are such.
use Rattle.std.specs.Prelude.{List, Option, Some, None}
use Rattle.std.proofs.Common.{ℕ}
use Rattle.base.specs.declared.range.Range.{Range}
use Rattle.es_token.specs.declared.token.Token.{Token}
use Rattle.es_ast.specs.declared.leaf.ImportPhase.TheVariants as vPhase
use Rattle.es_ast.specs.declared.ast.ModuleDecl.{ModuleDecl}
use Rattle.es_ast.specs.declared.ast.Stmt.{Stmt}
use Rattle.es_grammar.specs.declared.rows.NodeKind.{NodeKind}
use Rattle.es_grammar.specs.declared.rows.NodeKind.TheVariants as l
use Rattle.es_lowering.specs.Value.{Value, absent, node, part}
use Rattle.es_lowering.specs.Texts.{span_of}
use Rattle.es_lowering.specs.Lowering.{expr_of, pat_of, marked_of, variables_of, declarable_of, decl_of, block_of, stmt_of, declarator_of, param_of, head_of, params_of, signature_of, pat_prop_of, key_of, prop_of, member_of, post_of, args_of, names_of, clause_of, import_specifier_of, export_specifier_of, attributes_of, entity_of, module_decl_of, program_of, type_of, arguments_of, type_params_of, element_of, type_member_of, type_key_of, type_pat_of, type_prop_of, fn_param_of, fn_params_of, reference_of, item_by, build}
use Rattle.es_law_programs.proofs.total.Uses.{Use, as_expr, as_pat, as_stmt, as_decl, as_item, as_program, as_block, as_variables, as_declarator, as_head, as_param, as_params, as_pat_prop, as_prop, as_member, as_key, as_post, as_args, as_clause, as_names, as_import_specifier, as_export_specifier, as_attributes, as_entity, as_marked, as_signature, as_declarable, as_type, as_reference, as_arguments, as_type_params, as_element, as_type_member, as_type_key, as_fn_params, as_fn_param, as_type_pat, as_type_prop, IsThere, HasAt}
use Rattle.es_law_programs.proofs.total.Needs.{Meets}
use Rattle.es_law_programs.proofs.total.Words.{map_there}
use Rattle.es_law_programs.proofs.total.Table.{needs_expr, needs_pat, needs_marked, needs_variables, needs_declarable, needs_decl, needs_block, needs_stmt, needs_declarator, needs_param, needs_head, needs_params, needs_signature, needs_pat_prop, needs_key, needs_prop, needs_member, needs_post, needs_args, needs_names, needs_clause, needs_import_specifier, needs_export_specifier, needs_attributes, needs_entity, needs_module_decl, needs_program, needs_type, needs_arguments, needs_type_params, needs_element, needs_type_member, needs_type_key, needs_type_pat, needs_type_prop, needs_fn_param, needs_fn_params, needs_reference, needs_item, needs}
use Rattle.es_law_programs.proofs.total.ExprForms.{expr_Name, expr_Word, expr_Number, expr_Str, expr_RegExp, expr_Template, expr_TemplateParts, expr_Parenthesized, expr_ArrayLiteral, expr_ObjectLiteral, expr_Spread, expr_Function, expr_AsyncFunction, expr_Class, expr_Super, expr_ImportCall, expr_ImportMeta, expr_NewTarget, expr_New, expr_Chain, expr_UpdatePrefix, expr_UpdatePostfix, expr_UnaryExpression, expr_AwaitExpression, expr_Binary, expr_PrivateIn, expr_Conditional, expr_Assignment, expr_PatternAssignment, expr_Yield, expr_NameArrow, expr_ParenthesizedArrow, expr_AsyncNameArrow, expr_AsyncParenthesizedArrow, expr_Sequence, expr_TypedFunction, expr_TypedAsyncFunction, expr_TypedClass, expr_AbstractClass, expr_TypedNew, expr_TypedBinary, expr_TypeAssertion, expr_TypedParenthesizedArrow, expr_TypedAsyncParenthesizedArrow, post_MemberPost, post_IndexPost, post_CallPost, post_TemplatePost, post_OptionalPost, post_TypedCallPost, post_TypedTemplatePost, post_TypedOptionalPost, post_NonNullPost, args_Arguments}
use Rattle.es_law_programs.proofs.total.StmtForms.{pat_NamePattern, pat_ArrayPattern, pat_ObjectPattern, pat_RestPattern, pat_DefaultPattern, marked_NamePattern, marked_ArrayPattern, marked_ObjectPattern, variables_Variables, variables_Using, declarable_TypedFunction, declarable_TypedAsyncFunction, declarable_TypedClass, declarable_AbstractClass, declarable_InterfaceDeclaration, declarable_AliasDeclaration, declarable_EnumDeclaration, declarable_NamespaceDeclaration, declarable_ModuleDeclaration, declarable_GlobalDeclaration, decl_Function, decl_AsyncFunction, decl_Class, decl_VariableDeclaration, decl_UsingDeclaration, decl_Variables, decl_Using, decl_Declared, decl_DeclaredVariables, block_Block, stmt_Block, stmt_EmptyStatement, stmt_ExpressionStatement, stmt_LabelledStatement, stmt_IfStatement, stmt_ForStatement, stmt_ForEachStatement, stmt_ForAwaitStatement, stmt_WhileStatement, stmt_DoStatement, stmt_ContinueStatement, stmt_BreakStatement, stmt_ReturnStatement, stmt_ThrowStatement, stmt_SwitchStatement, stmt_TryStatement, stmt_DebuggerStatement, stmt_WithStatement, stmt_TypedTryStatement, declarator_Declarator, declarator_TypedDeclarator, param_DefaultParameter, param_ThisParameter, param_PropertyParameter, param_MarkedParameter, head_VariableHead, head_UsingHead, head_TypedVariableHead, params_Parameters, params_Signature, params_TypedParameters, signature_TypedSignature, pat_prop_RestProperty, pat_prop_KeyPattern, pat_prop_NameProperty, key_WordKey, key_StrKey, key_NumberKey, key_ComputedKey, key_PrivateKey, prop_SpreadProperty, prop_AccessorProperty, prop_AsyncProperty, prop_GeneratorProperty, prop_MethodProperty, prop_KeyValue, prop_Shorthand, prop_TypedAccessorProperty, prop_TypedAsyncProperty, prop_TypedGeneratorProperty, prop_TypedMethodProperty, member_EmptyMember, member_StaticBlock, member_AccessorMember, member_AsyncMember, member_GeneratorMember, member_MethodMember, member_FieldMember, member_AccessorField, member_TypedAccessorMember, member_TypedAsyncMember, member_TypedGeneratorMember, member_TypedMethodMember, member_TypedFieldMember, member_TypedAccessorField, member_IndexMember}
use Rattle.es_law_programs.proofs.total.ModuleForms.{names_Namespace, names_NamedImports, clause_DefaultClause, clause_DefaultAndClause, import_specifier_RenamedImport, import_specifier_ImportedName, export_specifier_ExportedName, attributes_Attributes, entity_Entity, entity_EntityOfType, module_decl_BareImport, module_decl_FromImport, module_decl_phase, module_decl_RequireImport, module_decl_EntityImport, module_decl_ExportedRequireImport, module_decl_ExportedEntityImport, module_decl_ExportAll, module_decl_ExportNames, module_decl_ExportNamespace, module_decl_ExportDefaultFunction, module_decl_ExportDefaultClass, module_decl_ExportDefaultExpression, module_decl_ExportDeclaration, module_decl_ExportDefaultInterface, module_decl_ExportAssignment, program_Module, program_Script}
use Rattle.es_law_programs.proofs.total.TypeForms.{type_FunctionType, type_ConstructorType, type_ConditionalType, type_UnionType, type_LeadingUnionType, type_IntersectionType, type_LeadingIntersectionType, type_TypeOperator, type_InferType, type_ArrayTypes, type_KeywordType, type_ThisType, type_WordType, type_StrType, type_NumberType, type_TemplateType, type_TemplateTypes, type_TypeQuery, type_ParenthesizedType, type_MembersType, type_TupleType, type_MappedType, type_Reference, type_ImportType, type_AssertsResult, type_PredicateResult, type_EntityOfType, arguments_TypeArguments, type_params_TypeParameters, element_RestElement, element_LabelledElement, element_OptionalElement, type_member_CallSignature, type_member_ConstructSignature, type_member_IndexSignature, type_member_AccessorSignature, type_member_MethodSignature, type_member_PropertySignature, type_member_ReadonlyProperty, type_key_WordKeyOfType, type_key_StrKeyOfType, type_key_NumberKeyOfType, type_key_ComputedKeyOfType, type_key_WordPatternKey, type_key_StrPatternKey, type_key_NumberPatternKey, type_pat_NamePatternOfType, type_pat_ArrayPatternOfType, type_pat_ObjectPatternOfType, type_pat_RestPatternOfType, type_prop_RestPropertyOfType, type_prop_KeyProperty, type_prop_NamePropertyOfType, fn_param_ThisParameterOfType, fn_param_MarkedParameterOfType, fn_params_ParametersOfType, reference_Reference, reference_EntityOfType}

module _ (x : List ℕ) (ts : List Token) where
  expr_there : (label : NodeKind) (from : ℕ) (r : Range) (p : Value) → Meets ts absent (needs_expr label) (part p)
      → IsThere (expr_of x ts label from r p)
  unfolding expr_of
  expr_there l.Name from r p m = expr_Name x ts from r p m
  expr_there l.Word from r p m = expr_Word x ts from r p m
  expr_there l.Number from r p m = expr_Number x ts from r p m
  expr_there l.Str from r p m = expr_Str x ts from r p m
  expr_there l.RegExp from r p m = expr_RegExp x ts from r p m
  expr_there l.Template from r p m = expr_Template x ts from r p m
  expr_there l.TemplateParts from r p m = expr_TemplateParts x ts from r p m
  expr_there l.Parenthesized from r p m = expr_Parenthesized x ts from r p m
  expr_there l.ArrayLiteral from r p m = expr_ArrayLiteral x ts from r p m
  expr_there l.ObjectLiteral from r p m = expr_ObjectLiteral x ts from r p m
  expr_there l.Spread from r p m = expr_Spread x ts from r p m
  expr_there l.Function from r p m = expr_Function x ts from r p m
  expr_there l.AsyncFunction from r p m = expr_AsyncFunction x ts from r p m
  expr_there l.Class from r p m = expr_Class x ts from r p m
  expr_there l.Super from r p m = expr_Super x ts from r p m
  expr_there l.ImportCall from r p m = expr_ImportCall x ts vPhase.Evaluation from r p m
  expr_there l.SourceCall from r p m = expr_ImportCall x ts vPhase.Source from r p m
  expr_there l.DeferCall from r p m = expr_ImportCall x ts vPhase.Defer from r p m
  expr_there l.ImportMeta from r p m = expr_ImportMeta x ts from r p m
  expr_there l.NewTarget from r p m = expr_NewTarget x ts from r p m
  expr_there l.New from r p m = expr_New x ts from r p m
  expr_there l.Chain from r p m = expr_Chain x ts from r p m
  expr_there l.UpdatePrefix from r p m = expr_UpdatePrefix x ts from r p m
  expr_there l.UpdatePostfix from r p m = expr_UpdatePostfix x ts from r p m
  expr_there l.UnaryExpression from r p m = expr_UnaryExpression x ts from r p m
  expr_there l.AwaitExpression from r p m = expr_AwaitExpression x ts from r p m
  expr_there l.Binary from r p m = expr_Binary x ts from r p m
  expr_there l.PrivateIn from r p m = expr_PrivateIn x ts from r p m
  expr_there l.Conditional from r p m = expr_Conditional x ts from r p m
  expr_there l.Assignment from r p m = expr_Assignment x ts from r p m
  expr_there l.PatternAssignment from r p m = expr_PatternAssignment x ts from r p m
  expr_there l.Yield from r p m = expr_Yield x ts from r p m
  expr_there l.NameArrow from r p m = expr_NameArrow x ts from r p m
  expr_there l.ParenthesizedArrow from r p m = expr_ParenthesizedArrow x ts from r p m
  expr_there l.AsyncNameArrow from r p m = expr_AsyncNameArrow x ts from r p m
  expr_there l.AsyncParenthesizedArrow from r p m = expr_AsyncParenthesizedArrow x ts from r p m
  expr_there l.Sequence from r p m = expr_Sequence x ts from r p m
  expr_there l.TypedFunction from r p m = expr_TypedFunction x ts from r p m
  expr_there l.TypedAsyncFunction from r p m = expr_TypedAsyncFunction x ts from r p m
  expr_there l.TypedClass from r p m = expr_TypedClass x ts from r p m
  expr_there l.AbstractClass from r p m = expr_AbstractClass x ts from r p m
  expr_there l.TypedNew from r p m = expr_TypedNew x ts from r p m
  expr_there l.TypedBinary from r p m = expr_TypedBinary x ts from r p m
  expr_there l.TypeAssertion from r p m = expr_TypeAssertion x ts from r p m
  expr_there l.TypedParenthesizedArrow from r p m = expr_TypedParenthesizedArrow x ts from r p m
  expr_there l.TypedAsyncParenthesizedArrow from r p m = expr_TypedAsyncParenthesizedArrow x ts from r p m
  expr_there _ from r p m = absurd m

  pat_there : (label : NodeKind) (from : ℕ) (r : Range) (p : Value) → Meets ts absent (needs_pat label) (part p)
      → IsThere (pat_of x ts label from r p)
  unfolding pat_of
  pat_there l.NamePattern from r p m = pat_NamePattern x ts from r p m
  pat_there l.ArrayPattern from r p m = pat_ArrayPattern x ts from r p m
  pat_there l.ObjectPattern from r p m = pat_ObjectPattern x ts from r p m
  pat_there l.RestPattern from r p m = pat_RestPattern x ts from r p m
  pat_there l.DefaultPattern from r p m = pat_DefaultPattern x ts from r p m
  pat_there _ from r p m = absurd m

  marked_there : (label : NodeKind) (from : ℕ) (r : Range) (p : Value) → Meets ts absent (needs_marked label) (part p)
      → IsThere (marked_of x ts label from p)
  unfolding marked_of
  marked_there l.NamePattern from r p m = marked_NamePattern x ts from r p m
  marked_there l.ArrayPattern from r p m = marked_ArrayPattern x ts from r p m
  marked_there l.ObjectPattern from r p m = marked_ObjectPattern x ts from r p m
  marked_there _ from r p m = absurd m

  variables_there : (label : NodeKind) (from : ℕ) (r : Range) (p : Value)
      → Meets ts absent (needs_variables label) (part p) → IsThere (variables_of x ts label p)
  unfolding variables_of
  variables_there l.Variables from r p m = variables_Variables x ts from r p m
  variables_there l.Using from r p m = variables_Using x ts from r p m
  variables_there _ from r p m = absurd m

  declarable_there : (label : NodeKind) (from : ℕ) (r : Range) (p : Value)
      → Meets ts absent (needs_declarable label) (part p) → IsThere (declarable_of x ts label r p)
  unfolding declarable_of
  declarable_there l.TypedFunction from r p m = declarable_TypedFunction x ts from r p m
  declarable_there l.TypedAsyncFunction from r p m = declarable_TypedAsyncFunction x ts from r p m
  declarable_there l.TypedClass from r p m = declarable_TypedClass x ts from r p m
  declarable_there l.AbstractClass from r p m = declarable_AbstractClass x ts from r p m
  declarable_there l.InterfaceDeclaration from r p m = declarable_InterfaceDeclaration x ts from r p m
  declarable_there l.AliasDeclaration from r p m = declarable_AliasDeclaration x ts from r p m
  declarable_there l.EnumDeclaration from r p m = declarable_EnumDeclaration x ts from r p m
  declarable_there l.NamespaceDeclaration from r p m = declarable_NamespaceDeclaration x ts from r p m
  declarable_there l.ModuleDeclaration from r p m = declarable_ModuleDeclaration x ts from r p m
  declarable_there l.GlobalDeclaration from r p m = declarable_GlobalDeclaration x ts from r p m
  declarable_there _ from r p m = absurd m

  decl_there : (label : NodeKind) (from : ℕ) (r : Range) (p : Value) → Meets ts absent (needs_decl label) (part p)
      → IsThere (decl_of x ts label r p)
  unfolding decl_of
  decl_there l.Function from r p m = decl_Function x ts from r p m
  decl_there l.AsyncFunction from r p m = decl_AsyncFunction x ts from r p m
  decl_there l.Class from r p m = decl_Class x ts from r p m
  decl_there l.VariableDeclaration from r p m = decl_VariableDeclaration x ts from r p m
  decl_there l.UsingDeclaration from r p m = decl_UsingDeclaration x ts from r p m
  decl_there l.Variables from r p m = decl_Variables x ts from r p m
  decl_there l.Using from r p m = decl_Using x ts from r p m
  decl_there l.Declared from r p m = decl_Declared x ts from r p m
  decl_there l.DeclaredVariables from r p m = decl_DeclaredVariables x ts from r p m
  decl_there label from r p m = map_there (declarable_of x ts label r p) _ (declarable_there label from r p m)

  block_there : (label : NodeKind) (from : ℕ) (r : Range) (p : Value) → Meets ts absent (needs_block label) (part p)
      → IsThere (block_of x ts label p)
  unfolding block_of
  block_there l.Block from r p m = block_Block x ts from r p m
  block_there _ from r p m = absurd m

  stmt_there : (label : NodeKind) (from : ℕ) (r : Range) (p : Value) → Meets ts absent (needs_stmt label) (part p)
      → IsThere (stmt_of x ts label r p)
  unfolding stmt_of
  stmt_there l.Block from r p m = stmt_Block x ts from r p m
  stmt_there l.EmptyStatement from r p m = stmt_EmptyStatement x ts from r p m
  stmt_there l.ExpressionStatement from r p m = stmt_ExpressionStatement x ts from r p m
  stmt_there l.LabelledStatement from r p m = stmt_LabelledStatement x ts from r p m
  stmt_there l.IfStatement from r p m = stmt_IfStatement x ts from r p m
  stmt_there l.ForStatement from r p m = stmt_ForStatement x ts from r p m
  stmt_there l.ForEachStatement from r p m = stmt_ForEachStatement x ts from r p m
  stmt_there l.ForAwaitStatement from r p m = stmt_ForAwaitStatement x ts from r p m
  stmt_there l.WhileStatement from r p m = stmt_WhileStatement x ts from r p m
  stmt_there l.DoStatement from r p m = stmt_DoStatement x ts from r p m
  stmt_there l.ContinueStatement from r p m = stmt_ContinueStatement x ts from r p m
  stmt_there l.BreakStatement from r p m = stmt_BreakStatement x ts from r p m
  stmt_there l.ReturnStatement from r p m = stmt_ReturnStatement x ts from r p m
  stmt_there l.ThrowStatement from r p m = stmt_ThrowStatement x ts from r p m
  stmt_there l.SwitchStatement from r p m = stmt_SwitchStatement x ts from r p m
  stmt_there l.TryStatement from r p m = stmt_TryStatement x ts from r p m
  stmt_there l.DebuggerStatement from r p m = stmt_DebuggerStatement x ts from r p m
  stmt_there l.WithStatement from r p m = stmt_WithStatement x ts from r p m
  stmt_there l.TypedTryStatement from r p m = stmt_TypedTryStatement x ts from r p m
  stmt_there label from r p m = map_there (decl_of x ts label r p) _ (decl_there label from r p m)

  declarator_there : (label : NodeKind) (from : ℕ) (r : Range) (p : Value)
      → Meets ts absent (needs_declarator label) (part p) → IsThere (declarator_of x ts label from r p)
  unfolding declarator_of
  declarator_there l.Declarator from r p m = declarator_Declarator x ts from r p m
  declarator_there l.TypedDeclarator from r p m = declarator_TypedDeclarator x ts from r p m
  declarator_there label from r p m = map_there (pat_of x ts label from r p) _ (pat_there label from r p m)

  param_there : (label : NodeKind) (from : ℕ) (r : Range) (p : Value) → Meets ts absent (needs_param label) (part p)
      → IsThere (param_of x ts label from r p)
  unfolding param_of
  param_there l.DefaultParameter from r p m = param_DefaultParameter x ts from r p m
  param_there l.ThisParameter from r p m = param_ThisParameter x ts from r p m
  param_there l.PropertyParameter from r p m = param_PropertyParameter x ts from r p m
  param_there l.MarkedParameter from r p m = param_MarkedParameter x ts from r p m
  param_there label from r p m = map_there (pat_of x ts label from r p) _ (pat_there label from r p m)

  head_there : (label : NodeKind) (from : ℕ) (r : Range) (p : Value) → Meets ts absent (needs_head label) (part p)
      → IsThere (head_of x ts label from r p)
  unfolding head_of
  head_there l.VariableHead from r p m = head_VariableHead x ts from r p m
  head_there l.UsingHead from r p m = head_UsingHead x ts from r p m
  head_there l.TypedVariableHead from r p m = head_TypedVariableHead x ts from r p m
  head_there label from r p m = map_there (pat_of x ts label from r p) _ (pat_there label from r p m)

  params_there : (label : NodeKind) (from : ℕ) (r : Range) (p : Value) → Meets ts absent (needs_params label) (part p)
      → IsThere (params_of x ts label p)
  unfolding params_of
  params_there l.Parameters from r p m = params_Parameters x ts from r p m
  params_there l.Signature from r p m = params_Signature x ts from r p m
  params_there l.TypedParameters from r p m = params_TypedParameters x ts from r p m
  params_there _ from r p m = absurd m

  signature_there : (label : NodeKind) (from : ℕ) (r : Range) (p : Value)
      → Meets ts absent (needs_signature label) (part p) → IsThere (signature_of x ts label p)
  unfolding signature_of
  signature_there l.TypedSignature from r p m = signature_TypedSignature x ts from r p m
  signature_there _ from r p m = absurd m

  pat_prop_there : (label : NodeKind) (from : ℕ) (r : Range) (p : Value)
      → Meets ts absent (needs_pat_prop label) (part p)
      → IsThere (pat_prop_of x ts label r p)
  unfolding pat_prop_of
  pat_prop_there l.RestProperty from r p m = pat_prop_RestProperty x ts from r p m
  pat_prop_there l.KeyPattern from r p m = pat_prop_KeyPattern x ts from r p m
  pat_prop_there l.NameProperty from r p m = pat_prop_NameProperty x ts from r p m
  pat_prop_there _ from r p m = absurd m

  key_there : (label : NodeKind) (from : ℕ) (r : Range) (p : Value) → Meets ts absent (needs_key label) (part p)
      → IsThere (key_of x ts label p)
  unfolding key_of
  key_there l.WordKey from r p m = key_WordKey x ts from r p m
  key_there l.StrKey from r p m = key_StrKey x ts from r p m
  key_there l.NumberKey from r p m = key_NumberKey x ts from r p m
  key_there l.ComputedKey from r p m = key_ComputedKey x ts from r p m
  key_there l.PrivateKey from r p m = key_PrivateKey x ts from r p m
  key_there _ from r p m = absurd m

  prop_there : (label : NodeKind) (from : ℕ) (r : Range) (p : Value) → Meets ts absent (needs_prop label) (part p)
      → IsThere (prop_of x ts label r p)
  unfolding prop_of
  prop_there l.SpreadProperty from r p m = prop_SpreadProperty x ts from r p m
  prop_there l.AccessorProperty from r p m = prop_AccessorProperty x ts from r p m
  prop_there l.AsyncProperty from r p m = prop_AsyncProperty x ts from r p m
  prop_there l.GeneratorProperty from r p m = prop_GeneratorProperty x ts from r p m
  prop_there l.MethodProperty from r p m = prop_MethodProperty x ts from r p m
  prop_there l.KeyValue from r p m = prop_KeyValue x ts from r p m
  prop_there l.Shorthand from r p m = prop_Shorthand x ts from r p m
  prop_there l.TypedAccessorProperty from r p m = prop_TypedAccessorProperty x ts from r p m
  prop_there l.TypedAsyncProperty from r p m = prop_TypedAsyncProperty x ts from r p m
  prop_there l.TypedGeneratorProperty from r p m = prop_TypedGeneratorProperty x ts from r p m
  prop_there l.TypedMethodProperty from r p m = prop_TypedMethodProperty x ts from r p m
  prop_there _ from r p m = absurd m

  member_there : (label : NodeKind) (from : ℕ) (r : Range) (p : Value) → Meets ts absent (needs_member label) (part p)
      → IsThere (member_of x ts label r p)
  unfolding member_of
  member_there l.EmptyMember from r p m = member_EmptyMember x ts from r p m
  member_there l.StaticBlock from r p m = member_StaticBlock x ts from r p m
  member_there l.AccessorMember from r p m = member_AccessorMember x ts from r p m
  member_there l.AsyncMember from r p m = member_AsyncMember x ts from r p m
  member_there l.GeneratorMember from r p m = member_GeneratorMember x ts from r p m
  member_there l.MethodMember from r p m = member_MethodMember x ts from r p m
  member_there l.FieldMember from r p m = member_FieldMember x ts from r p m
  member_there l.AccessorField from r p m = member_AccessorField x ts from r p m
  member_there l.TypedAccessorMember from r p m = member_TypedAccessorMember x ts from r p m
  member_there l.TypedAsyncMember from r p m = member_TypedAsyncMember x ts from r p m
  member_there l.TypedGeneratorMember from r p m = member_TypedGeneratorMember x ts from r p m
  member_there l.TypedMethodMember from r p m = member_TypedMethodMember x ts from r p m
  member_there l.TypedFieldMember from r p m = member_TypedFieldMember x ts from r p m
  member_there l.TypedAccessorField from r p m = member_TypedAccessorField x ts from r p m
  member_there l.IndexMember from r p m = member_IndexMember x ts from r p m
  member_there _ from r p m = absurd m

  post_there : (label : NodeKind) (from : ℕ) (r : Range) (p : Value) → Meets ts absent (needs_post label) (part p)
      → IsThere (post_of x ts label r p)
  unfolding post_of
  post_there l.MemberPost from r p m = post_MemberPost x ts from r p m
  post_there l.IndexPost from r p m = post_IndexPost x ts from r p m
  post_there l.CallPost from r p m = post_CallPost x ts from r p m
  post_there l.TemplatePost from r p m = post_TemplatePost x ts from r p m
  post_there l.OptionalPost from r p m = post_OptionalPost x ts from r p m
  post_there l.TypedCallPost from r p m = post_TypedCallPost x ts from r p m
  post_there l.TypedTemplatePost from r p m = post_TypedTemplatePost x ts from r p m
  post_there l.TypedOptionalPost from r p m = post_TypedOptionalPost x ts from r p m
  post_there l.NonNullPost from r p m = post_NonNullPost x ts from r p m
  post_there _ from r p m = absurd m

  args_there : (label : NodeKind) (from : ℕ) (r : Range) (p : Value) → Meets ts absent (needs_args label) (part p)
      → IsThere (args_of x ts label p)
  unfolding args_of
  args_there l.Arguments from r p m = args_Arguments x ts from r p m
  args_there _ from r p m = absurd m

  names_there : (label : NodeKind) (from : ℕ) (r : Range) (p : Value) → Meets ts absent (needs_names label) (part p)
      → IsThere (names_of x ts label r p)
  unfolding names_of
  names_there l.Namespace from r p m = names_Namespace x ts from r p m
  names_there l.NamedImports from r p m = names_NamedImports x ts from r p m
  names_there _ from r p m = absurd m

  clause_there : (label : NodeKind) (from : ℕ) (r : Range) (p : Value) → Meets ts absent (needs_clause label) (part p)
      → IsThere (clause_of x ts label r p)
  unfolding clause_of
  clause_there l.DefaultClause from r p m = clause_DefaultClause x ts from r p m
  clause_there l.DefaultAndClause from r p m = clause_DefaultAndClause x ts from r p m
  clause_there label from r p m = map_there (names_of x ts label r p) _ (names_there label from r p m)

  import_specifier_there : (label : NodeKind) (from : ℕ) (r : Range) (p : Value)
      → Meets ts absent (needs_import_specifier label) (part p) → IsThere (import_specifier_of x ts label r p)
  unfolding import_specifier_of
  import_specifier_there l.RenamedImport from r p m = import_specifier_RenamedImport x ts from r p m
  import_specifier_there l.ImportedName from r p m = import_specifier_ImportedName x ts from r p m
  import_specifier_there _ from r p m = absurd m

  export_specifier_there : (label : NodeKind) (from : ℕ) (r : Range) (p : Value)
      → Meets ts absent (needs_export_specifier label) (part p) → IsThere (export_specifier_of x ts label r p)
  unfolding export_specifier_of
  export_specifier_there l.ExportedName from r p m = export_specifier_ExportedName x ts from r p m
  export_specifier_there _ from r p m = absurd m

  attributes_there : (label : NodeKind) (from : ℕ) (r : Range) (p : Value)
      → Meets ts absent (needs_attributes label) (part p) → IsThere (attributes_of x ts label r p)
  unfolding attributes_of
  attributes_there l.Attributes from r p m = attributes_Attributes x ts from r p m
  attributes_there _ from r p m = absurd m

  entity_there : (label : NodeKind) (from : ℕ) (r : Range) (p : Value) → Meets ts absent (needs_entity label) (part p)
      → IsThere (entity_of x ts label r p)
  unfolding entity_of
  entity_there l.Entity from r p m = entity_Entity x ts from r p m
  entity_there l.EntityOfType from r p m = entity_EntityOfType x ts from r p m
  entity_there _ from r p m = absurd m

  module_decl_there : (label : NodeKind) (from : ℕ) (r : Range) (p : Value)
      → Meets ts absent (needs_module_decl label) (part p) → IsThere (module_decl_of x ts label r p)
  unfolding module_decl_of
  module_decl_there l.BareImport from r p m = module_decl_BareImport x ts from r p m
  module_decl_there l.FromImport from r p m = module_decl_FromImport x ts from r p m
  module_decl_there l.SourceImport from r p m = module_decl_phase x ts vPhase.Source from r p m
  module_decl_there l.DeferImport from r p m = module_decl_phase x ts vPhase.Defer from r p m
  module_decl_there l.RequireImport from r p m = module_decl_RequireImport x ts from r p m
  module_decl_there l.EntityImport from r p m = module_decl_EntityImport x ts from r p m
  module_decl_there l.ExportedRequireImport from r p m = module_decl_ExportedRequireImport x ts from r p m
  module_decl_there l.ExportedEntityImport from r p m = module_decl_ExportedEntityImport x ts from r p m
  module_decl_there l.ExportAll from r p m = module_decl_ExportAll x ts from r p m
  module_decl_there l.ExportNames from r p m = module_decl_ExportNames x ts from r p m
  module_decl_there l.ExportNamespace from r p m = module_decl_ExportNamespace x ts from r p m
  module_decl_there l.ExportDefaultFunction from r p m = module_decl_ExportDefaultFunction x ts from r p m
  module_decl_there l.ExportDefaultClass from r p m = module_decl_ExportDefaultClass x ts from r p m
  module_decl_there l.ExportDefaultExpression from r p m = module_decl_ExportDefaultExpression x ts from r p m
  module_decl_there l.ExportDeclaration from r p m = module_decl_ExportDeclaration x ts from r p m
  module_decl_there l.ExportDefaultInterface from r p m = module_decl_ExportDefaultInterface x ts from r p m
  module_decl_there l.ExportAssignment from r p m = module_decl_ExportAssignment x ts from r p m
  module_decl_there _ from r p m = absurd m

  program_there : (label : NodeKind) (from : ℕ) (r : Range) (p : Value) → Meets ts absent (needs_program label) (part p)
      → IsThere (program_of x ts label r p)
  unfolding program_of
  program_there l.Module from r p m = program_Module x ts from r p m
  program_there l.Script from r p m = program_Script x ts from r p m
  program_there _ from r p m = absurd m

  type_there : (label : NodeKind) (from : ℕ) (r : Range) (p : Value) → Meets ts absent (needs_type label) (part p)
      → IsThere (type_of x ts label r p)
  unfolding type_of
  type_there l.FunctionType from r p m = type_FunctionType x ts from r p m
  type_there l.ConstructorType from r p m = type_ConstructorType x ts from r p m
  type_there l.ConditionalType from r p m = type_ConditionalType x ts from r p m
  type_there l.UnionType from r p m = type_UnionType x ts from r p m
  type_there l.LeadingUnionType from r p m = type_LeadingUnionType x ts from r p m
  type_there l.IntersectionType from r p m = type_IntersectionType x ts from r p m
  type_there l.LeadingIntersectionType from r p m = type_LeadingIntersectionType x ts from r p m
  type_there l.TypeOperator from r p m = type_TypeOperator x ts from r p m
  type_there l.InferType from r p m = type_InferType x ts from r p m
  type_there l.ArrayTypes from r p m = type_ArrayTypes x ts from r p m
  type_there l.KeywordType from r p m = type_KeywordType x ts from r p m
  type_there l.ThisType from r p m = type_ThisType x ts from r p m
  type_there l.WordType from r p m = type_WordType x ts from r p m
  type_there l.StrType from r p m = type_StrType x ts from r p m
  type_there l.NumberType from r p m = type_NumberType x ts from r p m
  type_there l.TemplateType from r p m = type_TemplateType x ts from r p m
  type_there l.TemplateTypes from r p m = type_TemplateTypes x ts from r p m
  type_there l.TypeQuery from r p m = type_TypeQuery x ts from r p m
  type_there l.ParenthesizedType from r p m = type_ParenthesizedType x ts from r p m
  type_there l.MembersType from r p m = type_MembersType x ts from r p m
  type_there l.TupleType from r p m = type_TupleType x ts from r p m
  type_there l.MappedType from r p m = type_MappedType x ts from r p m
  type_there l.Reference from r p m = type_Reference x ts from r p m
  type_there l.ImportType from r p m = type_ImportType x ts from r p m
  type_there l.AssertsResult from r p m = type_AssertsResult x ts from r p m
  type_there l.PredicateResult from r p m = type_PredicateResult x ts from r p m
  type_there l.EntityOfType from r p m = type_EntityOfType x ts from r p m
  type_there _ from r p m = absurd m

  arguments_there : (label : NodeKind) (from : ℕ) (r : Range) (p : Value)
      → Meets ts absent (needs_arguments label) (part p) → IsThere (arguments_of x ts label r p)
  unfolding arguments_of
  arguments_there l.TypeArguments from r p m = arguments_TypeArguments x ts from r p m
  arguments_there _ from r p m = absurd m

  type_params_there : (label : NodeKind) (from : ℕ) (r : Range) (p : Value)
      → Meets ts absent (needs_type_params label) (part p) → IsThere (type_params_of x ts label r p)
  unfolding type_params_of
  type_params_there l.TypeParameters from r p m = type_params_TypeParameters x ts from r p m
  type_params_there _ from r p m = absurd m

  element_there : (label : NodeKind) (from : ℕ) (r : Range) (p : Value) → Meets ts absent (needs_element label) (part p)
      → IsThere (element_of x ts label r p)
  unfolding element_of
  element_there l.RestElement from r p m = element_RestElement x ts from r p m
  element_there l.LabelledElement from r p m = element_LabelledElement x ts from r p m
  element_there l.OptionalElement from r p m = element_OptionalElement x ts from r p m
  element_there label from r p m = map_there (type_of x ts label r p) _ (type_there label from r p m)

  type_member_there : (label : NodeKind) (from : ℕ) (r : Range) (p : Value)
      → Meets ts absent (needs_type_member label) (part p) → IsThere (type_member_of x ts label r p)
  unfolding type_member_of
  type_member_there l.CallSignature from r p m = type_member_CallSignature x ts from r p m
  type_member_there l.ConstructSignature from r p m = type_member_ConstructSignature x ts from r p m
  type_member_there l.IndexSignature from r p m = type_member_IndexSignature x ts from r p m
  type_member_there l.AccessorSignature from r p m = type_member_AccessorSignature x ts from r p m
  type_member_there l.MethodSignature from r p m = type_member_MethodSignature x ts from r p m
  type_member_there l.PropertySignature from r p m = type_member_PropertySignature x ts from r p m
  type_member_there l.ReadonlyProperty from r p m = type_member_ReadonlyProperty x ts from r p m
  type_member_there _ from r p m = absurd m

  type_key_there : (label : NodeKind) (from : ℕ) (r : Range) (p : Value)
      → Meets ts absent (needs_type_key label) (part p)
      → IsThere (type_key_of x ts label r p)
  unfolding type_key_of
  type_key_there l.WordKeyOfType from r p m = type_key_WordKeyOfType x ts from r p m
  type_key_there l.StrKeyOfType from r p m = type_key_StrKeyOfType x ts from r p m
  type_key_there l.NumberKeyOfType from r p m = type_key_NumberKeyOfType x ts from r p m
  type_key_there l.ComputedKeyOfType from r p m = type_key_ComputedKeyOfType x ts from r p m
  type_key_there l.WordPatternKey from r p m = type_key_WordPatternKey x ts from r p m
  type_key_there l.StrPatternKey from r p m = type_key_StrPatternKey x ts from r p m
  type_key_there l.NumberPatternKey from r p m = type_key_NumberPatternKey x ts from r p m
  type_key_there _ from r p m = absurd m

  type_pat_there : (label : NodeKind) (from : ℕ) (r : Range) (p : Value)
      → Meets ts absent (needs_type_pat label) (part p)
      → IsThere (type_pat_of x ts label from r p)
  unfolding type_pat_of
  type_pat_there l.NamePatternOfType from r p m = type_pat_NamePatternOfType x ts from r p m
  type_pat_there l.ArrayPatternOfType from r p m = type_pat_ArrayPatternOfType x ts from r p m
  type_pat_there l.ObjectPatternOfType from r p m = type_pat_ObjectPatternOfType x ts from r p m
  type_pat_there l.RestPatternOfType from r p m = type_pat_RestPatternOfType x ts from r p m
  type_pat_there _ from r p m = absurd m

  type_prop_there : (label : NodeKind) (from : ℕ) (r : Range) (p : Value)
      → Meets ts absent (needs_type_prop label) (part p) → IsThere (type_prop_of x ts label r p)
  unfolding type_prop_of
  type_prop_there l.RestPropertyOfType from r p m = type_prop_RestPropertyOfType x ts from r p m
  type_prop_there l.KeyProperty from r p m = type_prop_KeyProperty x ts from r p m
  type_prop_there l.NamePropertyOfType from r p m = type_prop_NamePropertyOfType x ts from r p m
  type_prop_there _ from r p m = absurd m

  fn_param_there : (label : NodeKind) (from : ℕ) (r : Range) (p : Value)
      → Meets ts absent (needs_fn_param label) (part p)
      → IsThere (fn_param_of x ts label from r p)
  unfolding fn_param_of
  fn_param_there l.ThisParameterOfType from r p m = fn_param_ThisParameterOfType x ts from r p m
  fn_param_there l.MarkedParameterOfType from r p m = fn_param_MarkedParameterOfType x ts from r p m
  fn_param_there label from r p m = map_there (type_pat_of x ts label from r p) _ (type_pat_there label from r p m)

  fn_params_there : (label : NodeKind) (from : ℕ) (r : Range) (p : Value)
      → Meets ts absent (needs_fn_params label) (part p) → IsThere (fn_params_of x ts label p)
  unfolding fn_params_of
  fn_params_there l.ParametersOfType from r p m = fn_params_ParametersOfType x ts from r p m
  fn_params_there _ from r p m = absurd m

  reference_there : (label : NodeKind) (from : ℕ) (r : Range) (p : Value)
      → Meets ts absent (needs_reference label) (part p) → IsThere (reference_of x ts label r p)
  unfolding reference_of
  reference_there l.Reference from r p m = reference_Reference x ts from r p m
  reference_there l.EntityOfType from r p m = reference_EntityOfType x ts from r p m
  reference_there _ from r p m = absurd m

  decl_item : (o : Option ModuleDecl) (s : Option Stmt) → IsThere o → IsThere (item_by x ts o s)
  decl_item (Some decl) s h = tt
  decl_item None s h = absurd h

  item_there : (label : NodeKind) (from : ℕ) (r : Range) (p : Value) → Meets ts absent (needs_item label) (part p)
      → IsThere (item_by x ts (module_decl_of x ts label r p) (stmt_of x ts label r p))
  unfolding module_decl_of
  item_there l.BareImport from r p m =
      decl_item (module_decl_of x ts l.BareImport r p) (stmt_of x ts l.BareImport r p)
      (module_decl_there l.BareImport from r p m)
  item_there l.FromImport from r p m =
      decl_item (module_decl_of x ts l.FromImport r p) (stmt_of x ts l.FromImport r p)
      (module_decl_there l.FromImport from r p m)
  item_there l.SourceImport from r p m =
      decl_item (module_decl_of x ts l.SourceImport r p) (stmt_of x ts l.SourceImport r p)
      (module_decl_there l.SourceImport from r p m)
  item_there l.DeferImport from r p m =
      decl_item (module_decl_of x ts l.DeferImport r p) (stmt_of x ts l.DeferImport r p)
      (module_decl_there l.DeferImport from r p m)
  item_there l.RequireImport from r p m =
      decl_item (module_decl_of x ts l.RequireImport r p) (stmt_of x ts l.RequireImport r p)
      (module_decl_there l.RequireImport from r p m)
  item_there l.EntityImport from r p m =
      decl_item (module_decl_of x ts l.EntityImport r p) (stmt_of x ts l.EntityImport r p)
      (module_decl_there l.EntityImport from r p m)
  item_there l.ExportedRequireImport from r p m =
      decl_item (module_decl_of x ts l.ExportedRequireImport r p) (stmt_of x ts l.ExportedRequireImport r p)
      (module_decl_there l.ExportedRequireImport from r p m)
  item_there l.ExportedEntityImport from r p m =
      decl_item (module_decl_of x ts l.ExportedEntityImport r p) (stmt_of x ts l.ExportedEntityImport r p)
      (module_decl_there l.ExportedEntityImport from r p m)
  item_there l.ExportAll from r p m =
      decl_item (module_decl_of x ts l.ExportAll r p) (stmt_of x ts l.ExportAll r p)
      (module_decl_there l.ExportAll from r p m)
  item_there l.ExportNames from r p m =
      decl_item (module_decl_of x ts l.ExportNames r p) (stmt_of x ts l.ExportNames r p)
      (module_decl_there l.ExportNames from r p m)
  item_there l.ExportNamespace from r p m =
      decl_item (module_decl_of x ts l.ExportNamespace r p) (stmt_of x ts l.ExportNamespace r p)
      (module_decl_there l.ExportNamespace from r p m)
  item_there l.ExportDefaultFunction from r p m =
      decl_item (module_decl_of x ts l.ExportDefaultFunction r p) (stmt_of x ts l.ExportDefaultFunction r p)
      (module_decl_there l.ExportDefaultFunction from r p m)
  item_there l.ExportDefaultClass from r p m =
      decl_item (module_decl_of x ts l.ExportDefaultClass r p) (stmt_of x ts l.ExportDefaultClass r p)
      (module_decl_there l.ExportDefaultClass from r p m)
  item_there l.ExportDefaultExpression from r p m =
      decl_item (module_decl_of x ts l.ExportDefaultExpression r p) (stmt_of x ts l.ExportDefaultExpression r p)
      (module_decl_there l.ExportDefaultExpression from r p m)
  item_there l.ExportDeclaration from r p m =
      decl_item (module_decl_of x ts l.ExportDeclaration r p) (stmt_of x ts l.ExportDeclaration r p)
      (module_decl_there l.ExportDeclaration from r p m)
  item_there l.ExportDefaultInterface from r p m =
      decl_item (module_decl_of x ts l.ExportDefaultInterface r p) (stmt_of x ts l.ExportDefaultInterface r p)
      (module_decl_there l.ExportDefaultInterface from r p m)
  item_there l.ExportAssignment from r p m =
      decl_item (module_decl_of x ts l.ExportAssignment r p) (stmt_of x ts l.ExportAssignment r p)
      (module_decl_there l.ExportAssignment from r p m)
  item_there label from r p m = map_there (stmt_of x ts label r p) _ (stmt_there label from r p m)

  -- all that a node may be read as
  pub built : (label : NodeKind) (u : Use) (from to : ℕ) (p : Value) → Meets ts absent (needs label u) (part p)
      → HasAt u (node from to (build x ts label from (span_of ts from to) p))
  unfolding build
  built label as_expr from to p m = expr_there label from (span_of ts from to) p m
  built label as_pat from to p m = pat_there label from (span_of ts from to) p m
  built label as_stmt from to p m = stmt_there label from (span_of ts from to) p m
  built label as_decl from to p m = decl_there label from (span_of ts from to) p m
  built label as_item from to p m = item_there label from (span_of ts from to) p m
  built label as_program from to p m = program_there label from (span_of ts from to) p m
  built label as_block from to p m = block_there label from (span_of ts from to) p m
  built label as_variables from to p m = variables_there label from (span_of ts from to) p m
  built label as_declarator from to p m = declarator_there label from (span_of ts from to) p m
  built label as_head from to p m = head_there label from (span_of ts from to) p m
  built label as_param from to p m = param_there label from (span_of ts from to) p m
  built label as_params from to p m = params_there label from (span_of ts from to) p m
  built label as_pat_prop from to p m = pat_prop_there label from (span_of ts from to) p m
  built label as_prop from to p m = prop_there label from (span_of ts from to) p m
  built label as_member from to p m = member_there label from (span_of ts from to) p m
  built label as_key from to p m = key_there label from (span_of ts from to) p m
  built label as_post from to p m = post_there label from (span_of ts from to) p m
  built label as_args from to p m = args_there label from (span_of ts from to) p m
  built label as_clause from to p m = clause_there label from (span_of ts from to) p m
  built label as_names from to p m = names_there label from (span_of ts from to) p m
  built label as_import_specifier from to p m = import_specifier_there label from (span_of ts from to) p m
  built label as_export_specifier from to p m = export_specifier_there label from (span_of ts from to) p m
  built label as_attributes from to p m = attributes_there label from (span_of ts from to) p m
  built label as_entity from to p m = entity_there label from (span_of ts from to) p m
  built label as_marked from to p m = marked_there label from (span_of ts from to) p m
  built label as_signature from to p m = signature_there label from (span_of ts from to) p m
  built label as_declarable from to p m = declarable_there label from (span_of ts from to) p m
  built label as_type from to p m = type_there label from (span_of ts from to) p m
  built label as_reference from to p m = reference_there label from (span_of ts from to) p m
  built label as_arguments from to p m = arguments_there label from (span_of ts from to) p m
  built label as_type_params from to p m = type_params_there label from (span_of ts from to) p m
  built label as_element from to p m = element_there label from (span_of ts from to) p m
  built label as_type_member from to p m = type_member_there label from (span_of ts from to) p m
  built label as_type_key from to p m = type_key_there label from (span_of ts from to) p m
  built label as_fn_params from to p m = fn_params_there label from (span_of ts from to) p m
  built label as_fn_param from to p m = fn_param_there label from (span_of ts from to) p m
  built label as_type_pat from to p m = type_pat_there label from (span_of ts from to) p m
  built label as_type_prop from to p m = type_prop_there label from (span_of ts from to) p m
