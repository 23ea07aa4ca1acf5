-- What a node of each alternative becomes moves with its parts.
use Rattle.std.specs.Prelude.{ℕ, true, false, List, Option}
use Rattle.base.specs.declared.range.Range.{Range}
use Rattle.es_token.specs.declared.token.Token.{Token}
use Rattle.es_ast.specs.declared.ts.leaf.MethodKind.TheVariants as vMethod
use Rattle.es_ast.specs.declared.leaf.ImportPhase.TheVariants as vPhase
use Rattle.es_ast.specs.declared.ast.ModuleDecl.{ModuleDecl}
use Rattle.es_ast.specs.declared.ast.Stmt.{Stmt}
use Rattle.es_grammar.specs.declared.rows.NodeKind.{NodeKind}
use Rattle.es_grammar.specs.declared.rows.NodeKind.TheVariants as l
use Rattle.es_lowering.specs.Value.{Signature, Value}
use Rattle.es_lowering.specs.Lowering.{same_label, expr_of, pat_of, marked_of, variables_of, declarable_of, decl_of, block_of, stmt_of, declarator_of, param_of, head_of, params_of, signature_of, pat_prop_of, key_of, prop_of, member_of, post_of, args_of, names_of, clause_of, import_specifier_of, export_specifier_of, attributes_of, entity_of, module_decl_of, item_by, program_of, type_of, arguments_of, type_params_of, element_of, type_member_of, type_key_of, type_pat_of, type_name_of, type_prop_of, fn_param_of, fn_params_of, reference_of, build}
use Rattle.std.proofs.Common.{◌≡◌}
use Rattle.es_ast.specs.declared.ast.Class.{Class}
use Rattle.es_ast.specs.declared.ast.Function.{Function}
use Rattle.es_ast.specs.declared.ast.Module.{Module}
use Rattle.es_ast.specs.declared.ast.Script.{Script}
use Rattle.es_ast.specs.declared.leaf.ExportAll.{ExportAll}
use Rattle.es_law_edits.proofs.moved.Expressions.{expr_Class, expr_Fn, expr_ImportMeta, expr_NewTarget, expr_Super}
use Rattle.es_law_edits.proofs.moved.Functions.{class_member_Empty}
use Rattle.es_law_edits.proofs.moved.Items.{module_item_ModuleDecl, module_item_Stmt}
use Rattle.es_law_edits.proofs.moved.ModuleLeaves.{import_clause_Names}
use Rattle.es_law_edits.proofs.moved.Rel.{Both, By, Each, Fun, Opt, Same, none, some}
use Rattle.es_law_edits.proofs.moved.Statements.{decl_Class, decl_Fn, stmt_Block, stmt_Debugger, stmt_Decl, stmt_Empty}
use Rattle.es_law_edits.proofs.moved.Types.{ts_type_This}
use Rattle.es_law_edits.specs.moved.Leaves.{ident_to, ts_entity_name_to, ts_key_to}
use Rattle.es_law_edits.specs.moved.ModuleLeaves.{export_specifier_to, import_attributes_to, import_clause_to, import_names_to, import_specifier_to}
use Rattle.es_law_edits.specs.moved.Move.{Move, range_to}
use Rattle.es_law_edits.specs.moved.Trees.{class_member_to, decl_to, expr_to, module_decl_to, module_item_to, moved_program, object_pat_prop_to, param_to, pat_to, prop_to, stmt_to, var_declarator_to}
use Rattle.es_law_edits.specs.moved.Types.{nodes_to, ts_fn_param_to, ts_param_pat_to, ts_part_to, ts_pat_prop_to, ts_tuple_element_to, ts_type_element_to, ts_type_param_to, ts_type_to}
use Rattle.es_law_edits.proofs.moved_lowering.Frame.{Moves, Texts, if_moves, is_there_moves, map_moves, same}
use Rattle.es_law_edits.proofs.moved_lowering.TypedMoves.{SignatureMoves, TypedMoves}
use Rattle.es_ast.specs.declared.ts.leaf.Number.{Number}
use Rattle.es_ast.specs.declared.ts.leaf.Str.{Str}
use Rattle.es_law_edits.proofs.moved_lowering.Classes as by_classes
use Rattle.es_law_edits.proofs.moved_lowering.Expressions as by_expressions
use Rattle.es_law_edits.proofs.moved_lowering.Functions as by_functions
use Rattle.es_law_edits.proofs.moved_lowering.Modules as by_modules
use Rattle.es_law_edits.proofs.moved_lowering.Patterns as by_patterns
use Rattle.es_law_edits.proofs.moved_lowering.Statements as by_statements
use Rattle.es_law_edits.proofs.moved_lowering.Texts as by_texts
use Rattle.es_law_edits.proofs.moved_lowering.TypeMembers as by_type_members
use Rattle.es_law_edits.proofs.moved_lowering.TypeNames as by_type_names
use Rattle.es_law_edits.proofs.moved_lowering.TypePatterns as by_type_patterns
use Rattle.es_law_edits.proofs.moved_lowering.TypedExpressions as by_typed_expressions
use Rattle.es_law_edits.proofs.moved_lowering.TypedFunctions as by_typed_functions
use Rattle.es_law_edits.proofs.moved_lowering.TypedParts as by_typed_parts
use Rattle.es_law_edits.proofs.moved_lowering.TypedStatements as by_typed_statements
use Rattle.es_law_edits.proofs.moved_lowering.Types as by_types
use Rattle.es_law_edits.proofs.moved_lowering.Value as by_value

pub expr_of_moves : {m : Move} {x y : List ℕ} {ts us : List Token} → Texts m x y ts us → (label : NodeKind)
    → {from from2 : ℕ} → from2 ≡ from → {r r2 : Range} → By (range_to m) r r2 → {p p2 : Value} → Moves m p p2
    → Opt (By (expr_to m)) (expr_of x ts label from r p) (expr_of y us label from2 r2 p2)
unfolding expr_of
expr_of_moves {m = m} told label from_ r_ p_ =
    if_moves (same (same_label label l.Name)) (by_expressions.name_moves told p_)
    (if_moves (same (same_label label l.Word)) (by_expressions.word_moves told r_ p_)
    (if_moves (same (same_label label l.Number)) (by_expressions.number_moves told p_)
    (if_moves (same (same_label label l.Str)) (by_expressions.str_moves told p_)
    (if_moves (same (same_label label l.RegExp)) (by_expressions.regexp_moves told p_)
    (if_moves (same (same_label label l.Template)) (by_expressions.template_moves told r_ p_)
    (if_moves (same (same_label label l.TemplateParts)) (by_expressions.template_parts_moves told r_ p_)
    (if_moves (same (same_label label l.Parenthesized)) (by_expressions.parenthesized_moves r_ p_)
    (if_moves (same (same_label label l.ArrayLiteral)) (by_expressions.array_literal_moves told from_ r_ p_)
    (if_moves (same (same_label label l.ObjectLiteral)) (by_expressions.object_literal_moves r_ p_)
    (if_moves (same (same_label label l.Spread)) (by_expressions.spread_moves r_ p_)
    (if_moves (same (same_label label l.Function))
    (map_moves _ _ (by_functions.function_moves told (same false) r_ p_) (λ a a2 a_. expr_Fn m a_))
    (if_moves (same (same_label label l.AsyncFunction))
    (map_moves _ _ (by_functions.function_moves told (same true) r_ p_) (λ a a2 a_. expr_Fn m a_))
    (if_moves (same (same_label label l.Class))
    (map_moves _ _ (by_classes.class__moves told r_ p_) (λ a a2 a_. expr_Class m a_))
    (if_moves (same (same_label label l.Super)) (some (expr_Super m r_))
    (if_moves (same (same_label label l.ImportCall)) (by_expressions.import_call_moves (same vPhase.Evaluation) r_ p_)
    (if_moves (same (same_label label l.SourceCall)) (by_expressions.import_call_moves (same vPhase.Source) r_ p_)
    (if_moves (same (same_label label l.DeferCall)) (by_expressions.import_call_moves (same vPhase.Defer) r_ p_)
    (if_moves (same (same_label label l.ImportMeta)) (some (expr_ImportMeta m r_))
    (if_moves (same (same_label label l.NewTarget)) (some (expr_NewTarget m r_))
    (if_moves (same (same_label label l.New)) (by_expressions.new__moves r_ p_)
    (if_moves (same (same_label label l.Chain)) (by_expressions.chain_moves r_ p_)
    (if_moves (same (same_label label l.UpdatePrefix)) (by_expressions.update_prefix_moves told r_ p_)
    (if_moves (same (same_label label l.UpdatePostfix)) (by_expressions.update_postfix_moves told r_ p_)
    (if_moves (same (same_label label l.UnaryExpression)) (by_expressions.prefix_moves told r_ p_)
    (if_moves (same (same_label label l.AwaitExpression)) (by_expressions.await__moves r_ p_)
    (if_moves (same (same_label label l.Binary)) (by_expressions.binary_moves told r_ p_)
    (if_moves (same (same_label label l.PrivateIn)) (by_expressions.private_in_moves told r_ p_)
    (if_moves (same (same_label label l.Conditional)) (by_expressions.conditional_moves r_ p_)
    (if_moves (same (same_label label l.Assignment)) (by_expressions.assignment_moves told r_ p_)
    (if_moves (same (same_label label l.PatternAssignment)) (by_expressions.pattern_assignment_moves r_ p_)
    (if_moves (same (same_label label l.Yield)) (by_expressions.yield__moves r_ p_)
    (if_moves (same (same_label label l.NameArrow)) (by_functions.name_arrow_moves told (same false) r_ p_)
    (if_moves (same (same_label label l.ParenthesizedArrow))
    (by_functions.parenthesized_arrow_moves told (same false) r_ p_)
    (if_moves (same (same_label label l.AsyncNameArrow)) (by_functions.name_arrow_moves told (same true) r_ p_)
    (if_moves (same (same_label label l.AsyncParenthesizedArrow))
    (by_functions.parenthesized_arrow_moves told (same true) r_ p_)
    (if_moves (same (same_label label l.Sequence)) (by_expressions.sequence_moves r_ p_)
    (if_moves (same (same_label label l.TypedFunction))
    (map_moves _ _ (by_typed_functions.typed_function_moves told (same false) r_ p_) (λ a a2 a_. expr_Fn m a_))
    (if_moves (same (same_label label l.TypedAsyncFunction))
    (map_moves _ _ (by_typed_functions.typed_function_moves told (same true) r_ p_) (λ a a2 a_. expr_Fn m a_))
    (if_moves (same (same_label label l.TypedClass))
    (map_moves _ _ (by_typed_functions.typed_class_moves told (same false) r_ p_) (λ a a2 a_. expr_Class m a_))
    (if_moves (same (same_label label l.AbstractClass))
    (map_moves _ _ (by_typed_functions.typed_class_moves told (same true) r_ p_) (λ a a2 a_. expr_Class m a_))
    (if_moves (same (same_label label l.TypedNew)) (by_typed_expressions.typed_new_moves r_ p_)
    (if_moves (same (same_label label l.TypedBinary)) (by_typed_expressions.typed_binary_moves told r_ p_)
    (if_moves (same (same_label label l.TypeAssertion)) (by_typed_expressions.type_assertion_moves r_ p_)
    (if_moves (same (same_label label l.TypedParenthesizedArrow))
    (by_typed_functions.typed_arrow_moves told (same false) r_ p_)
    (if_moves (same (same_label label l.TypedAsyncParenthesizedArrow))
    (by_typed_functions.typed_arrow_moves told (same true) r_ p_) none)))))))))))))))))))))))))))))))))))))))))))))

pub pat_of_moves : {m : Move} {x y : List ℕ} {ts us : List Token} → Texts m x y ts us → (label : NodeKind)
    → {from from2 : ℕ} → from2 ≡ from → {r r2 : Range} → By (range_to m) r r2 → {p p2 : Value} → Moves m p p2
    → Opt (By (pat_to m)) (pat_of x ts label from r p) (pat_of y us label from2 r2 p2)
unfolding pat_of
pat_of_moves told label from_ r_ p_ =
    if_moves (same (same_label label l.NamePattern)) (by_patterns.name_pattern_moves told p_)
    (if_moves (same (same_label label l.ArrayPattern)) (by_patterns.array_pattern_moves told from_ r_ p_)
    (if_moves (same (same_label label l.ObjectPattern)) (by_patterns.object_pattern_moves r_ p_)
    (if_moves (same (same_label label l.RestPattern)) (by_patterns.rest_pattern_moves r_ p_)
    (if_moves (same (same_label label l.DefaultPattern)) (by_patterns.default_pattern_moves r_ p_) none))))

pub marked_of_moves : {m : Move} {x y : List ℕ} {ts us : List Token} → Texts m x y ts us → (label : NodeKind)
    → {from from2 : ℕ} → from2 ≡ from → {p p2 : Value} → Moves m p p2
    → Opt (Fun Same (Fun (Opt (By (ts_part_to m))) (Fun (By (range_to m)) (By (pat_to m)))))
    (marked_of x ts label from p) (marked_of y us label from2 p2)
unfolding marked_of
marked_of_moves told label from_ p_ =
    if_moves (same (same_label label l.NamePattern)) (by_typed_parts.marked_name_moves told p_)
    (if_moves (same (same_label label l.ArrayPattern)) (by_typed_parts.marked_array_moves told from_ p_)
    (if_moves (same (same_label label l.ObjectPattern)) (by_typed_parts.marked_object_moves p_) none))

pub variables_of_moves : {m : Move} {x y : List ℕ} {ts us : List Token} → Texts m x y ts us → (label : NodeKind)
    → {p p2 : Value} → Moves m p p2
    → Opt (Both Same (Each (By (var_declarator_to m)))) (variables_of x ts label p) (variables_of y us label p2)
unfolding variables_of
variables_of_moves told label p_ =
    if_moves (same (same_label label l.Variables)) (by_statements.variables_moves told p_)
    (if_moves (same (same_label label l.Using)) (by_statements.using__moves p_) none)

pub declarable_of_moves : {m : Move} {x y : List ℕ} {ts us : List Token} → Texts m x y ts us → (label : NodeKind)
    → {r r2 : Range} → By (range_to m) r r2 → {p p2 : Value} → Moves m p p2
    → Opt (Fun Same (Fun (By (range_to m)) (By (decl_to m)))) (declarable_of x ts label r p)
    (declarable_of y us label r2 p2)
unfolding declarable_of
declarable_of_moves {m = m} told label r_ p_ =
    if_moves (same (same_label label l.TypedFunction))
    (map_moves _ _ (by_typed_functions.typed_function_moves told (same false) r_ p_)
    (λ function function2 function_ declare declare2 declare_ span span2 span_. decl_Fn m declare_ function_
    span_))
    (if_moves (same (same_label label l.TypedAsyncFunction))
    (map_moves _ _ (by_typed_functions.typed_function_moves told (same true) r_ p_)
    (λ function function2 function_ declare declare2 declare_ span span2 span_. decl_Fn m declare_ function_
    span_))
    (if_moves (same (same_label label l.TypedClass))
    (map_moves _ _ (by_typed_functions.typed_class_moves told (same false) r_ p_)
    (λ class class2 class_ declare declare2 declare_ span span2 span_. decl_Class m declare_ class_ span_))
    (if_moves (same (same_label label l.AbstractClass))
    (map_moves _ _ (by_typed_functions.typed_class_moves told (same true) r_ p_)
    (λ class class2 class_ declare declare2 declare_ span span2 span_. decl_Class m declare_ class_ span_))
    (if_moves (same (same_label label l.InterfaceDeclaration)) (by_typed_statements.interface_moves told p_)
    (if_moves (same (same_label label l.AliasDeclaration)) (by_typed_statements.alias_moves told p_)
    (if_moves (same (same_label label l.EnumDeclaration)) (by_typed_statements.enum__moves told p_)
    (if_moves (same (same_label label l.NamespaceDeclaration)) (by_typed_statements.namespace_moves told p_)
    (if_moves (same (same_label label l.ModuleDeclaration)) (by_typed_statements.module_namespace_moves told p_)
    (if_moves (same (same_label label l.GlobalDeclaration)) (by_typed_statements.global_moves p_) none)))))))))

pub decl_of_moves : {m : Move} {x y : List ℕ} {ts us : List Token} → Texts m x y ts us → (label : NodeKind)
    → {r r2 : Range} → By (range_to m) r r2 → {p p2 : Value} → Moves m p p2
    → Opt (By (decl_to m)) (decl_of x ts label r p) (decl_of y us label r2 p2)
unfolding decl_of
decl_of_moves {m = m} told label r_ p_ =
    if_moves (same (same_label label l.Function))
    (map_moves _ _ (by_functions.function_moves told (same false) r_ p_)
    (λ function function2 function_. decl_Fn m (same false) function_ r_))
    (if_moves (same (same_label label l.AsyncFunction))
    (map_moves _ _ (by_functions.function_moves told (same true) r_ p_)
    (λ function function2 function_. decl_Fn m (same false) function_ r_))
    (if_moves (same (same_label label l.Class))
    (map_moves _ _ (by_classes.class__moves told r_ p_)
    (λ class class2 class_. decl_Class m (same false) class_ r_))
    (if_moves (same (same_label label l.VariableDeclaration)) (by_statements.variable_declaration_moves r_ p_)
    (if_moves (same (same_label label l.UsingDeclaration)) (by_statements.variable_declaration_moves r_ p_)
    (if_moves (same (same_label label l.Variables))
    (map_moves _ _ (by_statements.variables_moves told p_) (λ a a2 a_. by_statements.decl_of_moves m r_ a_))
    (if_moves (same (same_label label l.Using))
    (map_moves _ _ (by_statements.using__moves p_) (λ a a2 a_. by_statements.decl_of_moves m r_ a_))
    (if_moves (same (same_label label l.Declared)) (by_typed_statements.declared_moves r_ p_)
    (if_moves (same (same_label label l.DeclaredVariables)) (by_typed_statements.declared_variables_moves r_ p_)
    (map_moves _ _ (declarable_of_moves told label r_ p_)
    (λ decl decl2 decl_. decl_ _ _ (same false) _ _ r_))))))))))

pub block_of_moves : {m : Move} {x y : List ℕ} {ts us : List Token} → Texts m x y ts us → (label : NodeKind)
    → {p p2 : Value} → Moves m p p2 → Opt (Each (By (stmt_to m))) (block_of x ts label p) (block_of y us label p2)
unfolding block_of
block_of_moves told label p_ = if_moves (same (same_label label l.Block)) (by_statements.block_moves p_) none

pub stmt_of_moves : {m : Move} {x y : List ℕ} {ts us : List Token} → Texts m x y ts us → (label : NodeKind)
    → {r r2 : Range} → By (range_to m) r r2 → {p p2 : Value} → Moves m p p2
    → Opt (By (stmt_to m)) (stmt_of x ts label r p) (stmt_of y us label r2 p2)
unfolding stmt_of
stmt_of_moves {m = m} told label r_ p_ =
    if_moves (same (same_label label l.Block))
    (map_moves _ _ (by_statements.block_moves p_) (λ stmts stmts2 stmts_. stmt_Block m stmts_ r_))
    (if_moves (same (same_label label l.EmptyStatement)) (some (stmt_Empty m r_))
    (if_moves (same (same_label label l.ExpressionStatement)) (by_statements.expression_statement_moves r_ p_)
    (if_moves (same (same_label label l.LabelledStatement)) (by_statements.labelled_moves told r_ p_)
    (if_moves (same (same_label label l.IfStatement)) (by_statements.if__moves r_ p_)
    (if_moves (same (same_label label l.ForStatement)) (by_statements.for__moves told r_ p_)
    (if_moves (same (same_label label l.ForEachStatement)) (by_statements.for_each_moves told r_ p_)
    (if_moves (same (same_label label l.ForAwaitStatement)) (by_statements.for_await_moves r_ p_)
    (if_moves (same (same_label label l.WhileStatement)) (by_statements.while__moves r_ p_)
    (if_moves (same (same_label label l.DoStatement)) (by_statements.do__moves r_ p_)
    (if_moves (same (same_label label l.ContinueStatement)) (by_statements.continue__moves told r_ p_)
    (if_moves (same (same_label label l.BreakStatement)) (by_statements.break__moves told r_ p_)
    (if_moves (same (same_label label l.ReturnStatement)) (by_statements.return__moves r_ p_)
    (if_moves (same (same_label label l.ThrowStatement)) (by_statements.throw__moves r_ p_)
    (if_moves (same (same_label label l.SwitchStatement)) (by_statements.switch__moves told r_ p_)
    (if_moves (same (same_label label l.TryStatement)) (by_statements.try__moves r_ p_)
    (if_moves (same (same_label label l.DebuggerStatement)) (some (stmt_Debugger m r_))
    (if_moves (same (same_label label l.WithStatement)) (by_statements.with__moves r_ p_)
    (if_moves (same (same_label label l.TypedTryStatement)) (by_typed_statements.typed_try_moves told r_ p_)
    (map_moves _ _ (decl_of_moves told label r_ p_) (λ a a2 a_. stmt_Decl m a_))))))))))))))))))))

pub declarator_of_moves : {m : Move} {x y : List ℕ} {ts us : List Token} → Texts m x y ts us → (label : NodeKind)
    → {from from2 : ℕ} → from2 ≡ from → {r r2 : Range} → By (range_to m) r r2 → {p p2 : Value} → Moves m p p2
    → Opt (By (var_declarator_to m)) (declarator_of x ts label from r p) (declarator_of y us label from2 r2 p2)
unfolding declarator_of
declarator_of_moves {m = m} told label from_ r_ p_ =
    if_moves (same (same_label label l.Declarator)) (by_statements.declarator_moves r_ p_)
    (if_moves (same (same_label label l.TypedDeclarator)) (by_typed_statements.typed_declarator_moves told r_ p_)
    (map_moves _ _ (pat_of_moves told label from_ r_ p_)
    (λ a a2 a_. by_statements.declarator_of_moves m r_ none a_)))

pub param_of_moves : {m : Move} {x y : List ℕ} {ts us : List Token} → Texts m x y ts us → (label : NodeKind)
    → {from from2 : ℕ} → from2 ≡ from → {r r2 : Range} → By (range_to m) r r2 → {p p2 : Value} → Moves m p p2
    → Opt (By (param_to m)) (param_of x ts label from r p) (param_of y us label from2 r2 p2)
unfolding param_of
param_of_moves {m = m} told label from_ r_ p_ =
    if_moves (same (same_label label l.DefaultParameter)) (by_functions.default_parameter_moves r_ p_)
    (if_moves (same (same_label label l.ThisParameter)) (by_typed_parts.this_parameter_moves told r_ p_)
    (if_moves (same (same_label label l.PropertyParameter)) (by_typed_parts.property_parameter_moves told r_ p_)
    (if_moves (same (same_label label l.MarkedParameter)) (by_typed_parts.marked_parameter_moves told r_ p_)
    (map_moves _ _ (pat_of_moves told label from_ r_ p_) (λ a a2 a_. by_functions.param_of_moves m r_ a_)))))

pub head_of_moves : {m : Move} {x y : List ℕ} {ts us : List Token} → Texts m x y ts us → (label : NodeKind)
    → {from from2 : ℕ} → from2 ≡ from → {r r2 : Range} → By (range_to m) r r2 → {p p2 : Value} → Moves m p p2
    → Opt (Both (Opt Same) (By (pat_to m))) (head_of x ts label from r p) (head_of y us label from2 r2 p2)
unfolding head_of
head_of_moves told label from_ r_ p_ =
    if_moves (same (same_label label l.VariableHead)) (by_statements.variable_head_moves told p_)
    (if_moves (same (same_label label l.UsingHead)) (by_statements.using_head_moves told p_)
    (if_moves (same (same_label label l.TypedVariableHead)) (by_typed_statements.typed_head_moves told p_)
    (map_moves _ _ (pat_of_moves told label from_ r_ p_) (λ target target2 target_. (none, target_)))))

pub params_of_moves : {m : Move} {x y : List ℕ} {ts us : List Token} → Texts m x y ts us → (label : NodeKind)
    → {p p2 : Value} → Moves m p p2 → Opt (Each (By (param_to m))) (params_of x ts label p) (params_of y us label p2)
unfolding params_of
params_of_moves told label p_ =
    if_moves (same (same_label label l.Parameters)) (by_functions.parameters_moves told p_)
    (if_moves (same (same_label label l.Signature)) (by_functions.signature_moves p_)
    (if_moves (same (same_label label l.TypedParameters)) (by_typed_parts.typed_parameters_moves told p_) none))

pub signature_of_moves : {m : Move} {x y : List ℕ} {ts us : List Token} → Texts m x y ts us → (label : NodeKind)
    → {p p2 : Value} → Moves m p p2 → Opt (SignatureMoves m) (signature_of x ts label p) (signature_of y us label p2)
unfolding signature_of
signature_of_moves told label p_ =
    if_moves (same (same_label label l.TypedSignature)) (by_typed_parts.typed_signature_moves p_) none

pub pat_prop_of_moves : {m : Move} {x y : List ℕ} {ts us : List Token} → Texts m x y ts us → (label : NodeKind)
    → {r r2 : Range} → By (range_to m) r r2 → {p p2 : Value} → Moves m p p2
    → Opt (By (object_pat_prop_to m)) (pat_prop_of x ts label r p) (pat_prop_of y us label r2 p2)
unfolding pat_prop_of
pat_prop_of_moves told label r_ p_ =
    if_moves (same (same_label label l.RestProperty)) (by_patterns.rest_property_moves r_ p_)
    (if_moves (same (same_label label l.KeyPattern)) (by_patterns.key_pattern_moves told r_ p_)
    (if_moves (same (same_label label l.NameProperty)) (by_patterns.name_property_moves told r_ p_) none))

pub key_of_moves : {m : Move} {x y : List ℕ} {ts us : List Token} → Texts m x y ts us → (label : NodeKind)
    → {p p2 : Value} → Moves m p p2 → Opt (Both Same (By (expr_to m))) (key_of x ts label p) (key_of y us label p2)
unfolding key_of
key_of_moves told label p_ =
    if_moves (same (same_label label l.WordKey)) (by_functions.word_key_moves told p_)
    (if_moves (same (same_label label l.StrKey)) (by_functions.str_key_moves told p_)
    (if_moves (same (same_label label l.NumberKey)) (by_functions.number_key_moves told p_)
    (if_moves (same (same_label label l.ComputedKey)) (by_functions.computed_key_moves p_)
    (if_moves (same (same_label label l.PrivateKey)) (by_functions.private_key_moves told p_) none))))

pub prop_of_moves : {m : Move} {x y : List ℕ} {ts us : List Token} → Texts m x y ts us → (label : NodeKind)
    → {r r2 : Range} → By (range_to m) r r2 → {p p2 : Value} → Moves m p p2
    → Opt (By (prop_to m)) (prop_of x ts label r p) (prop_of y us label r2 p2)
unfolding prop_of
prop_of_moves told label r_ p_ =
    if_moves (same (same_label label l.SpreadProperty)) (by_functions.spread_property_moves r_ p_)
    (if_moves (same (same_label label l.AccessorProperty)) (by_functions.accessor_property_moves told r_ p_)
    (if_moves (same (same_label label l.AsyncProperty))
    (by_functions.method_property_moves told (same vMethod.Method) (same true)
    (is_there_moves (by_value.group_moves p_ (same 0))) r_ p_ (same 1))
    (if_moves (same (same_label label l.GeneratorProperty))
    (by_functions.method_property_moves told (same vMethod.Method) (same false) (same true) r_ p_ (same 0))
    (if_moves (same (same_label label l.MethodProperty))
    (by_functions.method_property_moves told (same vMethod.Method) (same false) (same false) r_ p_ (same 0))
    (if_moves (same (same_label label l.KeyValue)) (by_functions.key_value_moves r_ p_)
    (if_moves (same (same_label label l.Shorthand)) (by_functions.shorthand_moves told p_)
    (if_moves (same (same_label label l.TypedAccessorProperty))
    (by_typed_functions.typed_accessor_property_moves told r_ p_)
    (if_moves (same (same_label label l.TypedAsyncProperty))
    (by_typed_functions.typed_method_property_moves told (same vMethod.Method) (same true)
    (is_there_moves (by_value.group_moves p_ (same 0))) r_ p_ (same 1))
    (if_moves (same (same_label label l.TypedGeneratorProperty))
    (by_typed_functions.typed_method_property_moves told (same vMethod.Method) (same false) (same true) r_ p_
    (same 0))
    (if_moves (same (same_label label l.TypedMethodProperty))
    (by_typed_functions.typed_method_property_moves told (same vMethod.Method) (same false) (same false) r_ p_
    (same 0)) none))))))))))

pub member_of_moves : {m : Move} {x y : List ℕ} {ts us : List Token} → Texts m x y ts us → (label : NodeKind)
    → {r r2 : Range} → By (range_to m) r r2 → {p p2 : Value} → Moves m p p2
    → Opt (By (class_member_to m)) (member_of x ts label r p) (member_of y us label r2 p2)
unfolding member_of
member_of_moves {m = m} told label r_ p_ =
    if_moves (same (same_label label l.EmptyMember)) (some (class_member_Empty m r_))
    (if_moves (same (same_label label l.StaticBlock)) (by_classes.static_block_moves r_ p_)
    (if_moves (same (same_label label l.AccessorMember)) (by_classes.accessor_member_moves told r_ p_)
    (if_moves (same (same_label label l.AsyncMember))
    (by_classes.method_member_moves told (same vMethod.Method) (same true)
    (is_there_moves (by_value.group_moves p_ (same 1))) r_ p_ (same 2))
    (if_moves (same (same_label label l.GeneratorMember))
    (by_classes.method_member_moves told (same vMethod.Method) (same false) (same true) r_ p_ (same 1))
    (if_moves (same (same_label label l.MethodMember))
    (by_classes.method_member_moves told (same vMethod.Method) (same false) (same false) r_ p_ (same 1))
    (if_moves (same (same_label label l.FieldMember)) (by_classes.field_member_moves (same false) r_ p_)
    (if_moves (same (same_label label l.AccessorField)) (by_classes.field_member_moves (same true) r_ p_)
    (if_moves (same (same_label label l.TypedAccessorMember))
    (by_typed_functions.typed_accessor_member_moves told r_ p_)
    (if_moves (same (same_label label l.TypedAsyncMember))
    (by_typed_functions.typed_method_member_moves told (same vMethod.Method) (same true)
    (is_there_moves (by_value.group_moves p_ (same 1))) r_ p_ (same 2))
    (if_moves (same (same_label label l.TypedGeneratorMember))
    (by_typed_functions.typed_method_member_moves told (same vMethod.Method) (same false) (same true) r_ p_
    (same 1))
    (if_moves (same (same_label label l.TypedMethodMember))
    (by_typed_functions.typed_method_member_moves told (same vMethod.Method) (same false) (same false) r_ p_
    (same 1))
    (if_moves (same (same_label label l.TypedFieldMember))
    (by_typed_functions.typed_field_moves told (same false) r_ p_)
    (if_moves (same (same_label label l.TypedAccessorField))
    (by_typed_functions.typed_field_moves told (same true) r_ p_)
    (if_moves (same (same_label label l.IndexMember)) (by_typed_functions.index_member_moves told r_ p_)
    none))))))))))))))

pub post_of_moves : {m : Move} {x y : List ℕ} {ts us : List Token} → Texts m x y ts us → (label : NodeKind)
    → {r r2 : Range} → By (range_to m) r r2 → {p p2 : Value} → Moves m p p2
    → Opt (Fun (By m.place) (Fun (By (expr_to m)) (By (expr_to m)))) (post_of x ts label r p)
    (post_of y us label r2 p2)
unfolding post_of
post_of_moves {m = m} told label r_ p_ =
    if_moves (same (same_label label l.MemberPost)) (by_expressions.member_post_moves told r_ p_)
    (if_moves (same (same_label label l.IndexPost)) (by_expressions.index_post_moves r_ p_)
    (if_moves (same (same_label label l.CallPost)) (by_expressions.call_post_moves r_ p_)
    (if_moves (same (same_label label l.TemplatePost)) (by_expressions.template_post_moves r_ p_)
    (if_moves (same (same_label label l.OptionalPost)) (by_expressions.optional_post_moves told r_ p_)
    (if_moves (same (same_label label l.TypedCallPost)) (by_typed_expressions.typed_call_post_moves r_ p_)
    (if_moves (same (same_label label l.TypedTemplatePost)) (by_typed_expressions.typed_template_post_moves r_ p_)
    (if_moves (same (same_label label l.TypedOptionalPost)) (by_typed_expressions.typed_optional_post_moves told r_ p_)
    (if_moves (same (same_label label l.NonNullPost)) (by_typed_expressions.non_null_post_moves m r_) none))))))))

pub args_of_moves : {m : Move} {x y : List ℕ} {ts us : List Token} → Texts m x y ts us → (label : NodeKind)
    → {p p2 : Value} → Moves m p p2 → Opt (Each (By (expr_to m))) (args_of x ts label p) (args_of y us label p2)
unfolding args_of
args_of_moves told label p_ =
    if_moves (same (same_label label l.Arguments)) (by_expressions.arguments_moves told p_) none

pub names_of_moves : {m : Move} {x y : List ℕ} {ts us : List Token} → Texts m x y ts us → (label : NodeKind)
    → {r r2 : Range} → By (range_to m) r r2 → {p p2 : Value} → Moves m p p2
    → Opt (By (import_names_to m)) (names_of x ts label r p) (names_of y us label r2 p2)
unfolding names_of
names_of_moves told label r_ p_ =
    if_moves (same (same_label label l.Namespace)) (by_modules.namespace_moves told r_ p_)
    (if_moves (same (same_label label l.NamedImports)) (by_modules.named_imports_moves r_ p_) none)

pub clause_of_moves : {m : Move} {x y : List ℕ} {ts us : List Token} → Texts m x y ts us → (label : NodeKind)
    → {r r2 : Range} → By (range_to m) r r2 → {p p2 : Value} → Moves m p p2
    → Opt (By (import_clause_to m)) (clause_of x ts label r p) (clause_of y us label r2 p2)
unfolding clause_of
clause_of_moves {m = m} told label r_ p_ =
    if_moves (same (same_label label l.DefaultClause)) (by_modules.default_clause_moves told p_)
    (if_moves (same (same_label label l.DefaultAndClause)) (by_modules.default_and_clause_moves told r_ p_)
    (map_moves _ _ (names_of_moves told label r_ p_) (λ a a2 a_. import_clause_Names m a_)))

pub import_specifier_of_moves : {m : Move} {x y : List ℕ} {ts us : List Token} → Texts m x y ts us → (label : NodeKind)
    → {r r2 : Range} → By (range_to m) r r2 → {p p2 : Value} → Moves m p p2
    → Opt (By (import_specifier_to m)) (import_specifier_of x ts label r p) (import_specifier_of y us label r2 p2)
unfolding import_specifier_of
import_specifier_of_moves told label r_ p_ =
    if_moves (same (same_label label l.RenamedImport)) (by_modules.renamed_import_moves told r_ p_)
    (if_moves (same (same_label label l.ImportedName)) (by_modules.imported_name_moves told r_ p_) none)

pub export_specifier_of_moves : {m : Move} {x y : List ℕ} {ts us : List Token} → Texts m x y ts us → (label : NodeKind)
    → {r r2 : Range} → By (range_to m) r r2 → {p p2 : Value} → Moves m p p2
    → Opt (By (export_specifier_to m)) (export_specifier_of x ts label r p) (export_specifier_of y us label r2 p2)
unfolding export_specifier_of
export_specifier_of_moves told label r_ p_ =
    if_moves (same (same_label label l.ExportedName)) (by_modules.exported_name_moves told r_ p_) none

pub attributes_of_moves : {m : Move} {x y : List ℕ} {ts us : List Token} → Texts m x y ts us → (label : NodeKind)
    → {r r2 : Range} → By (range_to m) r r2 → {p p2 : Value} → Moves m p p2
    → Opt (By (import_attributes_to m)) (attributes_of x ts label r p) (attributes_of y us label r2 p2)
unfolding attributes_of
attributes_of_moves told label r_ p_ =
    if_moves (same (same_label label l.Attributes)) (by_modules.attributes_moves told r_ p_) none

pub entity_of_moves : {m : Move} {x y : List ℕ} {ts us : List Token} → Texts m x y ts us → (label : NodeKind)
    → {r r2 : Range} → By (range_to m) r r2 → {p p2 : Value} → Moves m p p2
    → Opt (By (ts_entity_name_to m)) (entity_of x ts label r p) (entity_of y us label r2 p2)
unfolding entity_of
entity_of_moves told label r_ p_ =
    if_moves (same (same_label label l.Entity)) (by_modules.entity_moves told r_ p_)
    (if_moves (same (same_label label l.EntityOfType)) (by_modules.entity_moves told r_ p_) none)

pub module_decl_of_moves : {m : Move} {x y : List ℕ} {ts us : List Token} → Texts m x y ts us → (label : NodeKind)
    → {r r2 : Range} → By (range_to m) r r2 → {p p2 : Value} → Moves m p p2
    → Opt (By (module_decl_to m)) (module_decl_of x ts label r p) (module_decl_of y us label r2 p2)
unfolding module_decl_of
module_decl_of_moves told label r_ p_ =
    if_moves (same (same_label label l.BareImport)) (by_modules.bare_import_moves told r_ p_)
    (if_moves (same (same_label label l.FromImport)) (by_modules.from_import_moves told r_ p_)
    (if_moves (same (same_label label l.SourceImport)) (by_modules.phase_import_moves told (same vPhase.Source) r_ p_)
    (if_moves (same (same_label label l.DeferImport)) (by_modules.phase_import_moves told (same vPhase.Defer) r_ p_)
    (if_moves (same (same_label label l.RequireImport)) (by_modules.require_import_moves told (same false) r_ p_)
    (if_moves (same (same_label label l.EntityImport)) (by_modules.entity_import_moves told (same false) r_ p_)
    (if_moves (same (same_label label l.ExportedRequireImport)) (by_modules.require_import_moves told (same true) r_ p_)
    (if_moves (same (same_label label l.ExportedEntityImport)) (by_modules.entity_import_moves told (same true) r_ p_)
    (if_moves (same (same_label label l.ExportAll)) (by_modules.export_all_moves told r_ p_)
    (if_moves (same (same_label label l.ExportNames)) (by_modules.export_names_moves told r_ p_)
    (if_moves (same (same_label label l.ExportNamespace)) (by_modules.export_namespace_moves told r_ p_)
    (if_moves (same (same_label label l.ExportDefaultFunction)) (by_modules.export_default_decl_moves r_ p_)
    (if_moves (same (same_label label l.ExportDefaultClass)) (by_modules.export_default_decl_moves r_ p_)
    (if_moves (same (same_label label l.ExportDefaultExpression)) (by_modules.export_default_expression_moves r_ p_)
    (if_moves (same (same_label label l.ExportDeclaration)) (by_modules.export_declaration_moves r_ p_)
    (if_moves (same (same_label label l.ExportDefaultInterface)) (by_modules.export_default_decl_moves r_ p_)
    (if_moves (same (same_label label l.ExportAssignment)) (by_typed_statements.export_assignment_moves r_ p_)
    none))))))))))))))))

pub item_by_moves : {m : Move} {x y : List ℕ} {ts us : List Token} → Texts m x y ts us → {a a2 : Option ModuleDecl}
    → Opt (By (module_decl_to m)) a a2 → {stmt stmt2 : Option Stmt} → Opt (By (stmt_to m)) stmt stmt2
    → Opt (By (module_item_to m)) (item_by x ts a stmt) (item_by y us a2 stmt2)
item_by_moves {m = m} told (some decl_) stmt_ = some (module_item_ModuleDecl m decl_)
item_by_moves {m = m} told none stmt_ = map_moves _ _ stmt_ (λ a a2 a_. module_item_Stmt m a_)

pub program_of_moves : {m : Move} {x y : List ℕ} {ts us : List Token} → Texts m x y ts us → (label : NodeKind)
    → {r r2 : Range} → By (range_to m) r r2 → {p p2 : Value} → Moves m p p2
    → Opt (By (moved_program m)) (program_of x ts label r p) (program_of y us label r2 p2)
unfolding program_of
program_of_moves told label r_ p_ =
    if_moves (same (same_label label l.Module)) (by_modules.module__moves told r_ p_)
    (if_moves (same (same_label label l.Script)) (by_modules.script_moves told r_ p_) none)

pub type_of_moves : {m : Move} {x y : List ℕ} {ts us : List Token} → Texts m x y ts us → (label : NodeKind)
    → {r r2 : Range} → By (range_to m) r r2 → {p p2 : Value} → Moves m p p2
    → Opt (By (ts_type_to m)) (type_of x ts label r p) (type_of y us label r2 p2)
unfolding type_of
type_of_moves {m = m} told label r_ p_ =
    if_moves (same (same_label label l.FunctionType)) (by_types.function_type_moves r_ p_)
    (if_moves (same (same_label label l.ConstructorType)) (by_types.constructor_type_moves r_ p_)
    (if_moves (same (same_label label l.ConditionalType)) (by_types.conditional_type_moves r_ p_)
    (if_moves (same (same_label label l.UnionType)) (by_types.union_type_moves r_ p_)
    (if_moves (same (same_label label l.LeadingUnionType)) (by_types.leading_union_type_moves r_ p_)
    (if_moves (same (same_label label l.IntersectionType)) (by_types.intersection_type_moves r_ p_)
    (if_moves (same (same_label label l.LeadingIntersectionType)) (by_types.leading_intersection_type_moves r_ p_)
    (if_moves (same (same_label label l.TypeOperator)) (by_types.type_operator_moves told r_ p_)
    (if_moves (same (same_label label l.InferType)) (by_types.infer_type_moves told r_ p_)
    (if_moves (same (same_label label l.ArrayTypes)) (by_types.array_types_moves told r_ p_)
    (if_moves (same (same_label label l.KeywordType)) (by_types.keyword_type_moves told r_ p_)
    (if_moves (same (same_label label l.ThisType)) (some (ts_type_This m r_))
    (if_moves (same (same_label label l.WordType)) (by_types.word_type_moves told r_ p_)
    (if_moves (same (same_label label l.StrType)) (by_types.str_type_moves told p_)
    (if_moves (same (same_label label l.NumberType)) (by_types.number_type_moves told r_ p_)
    (if_moves (same (same_label label l.TemplateType)) (by_types.template_type_moves told r_ p_)
    (if_moves (same (same_label label l.TemplateTypes)) (by_types.template_types_moves told r_ p_)
    (if_moves (same (same_label label l.TypeQuery)) (by_types.type_query_moves r_ p_)
    (if_moves (same (same_label label l.ParenthesizedType)) (by_types.parenthesized_type_moves r_ p_)
    (if_moves (same (same_label label l.MembersType)) (by_types.members_type_moves r_ p_)
    (if_moves (same (same_label label l.TupleType)) (by_types.tuple_type_moves r_ p_)
    (if_moves (same (same_label label l.MappedType)) (by_types.mapped_type_moves told r_ p_)
    (if_moves (same (same_label label l.Reference)) (by_type_names.reference_moves r_ p_)
    (if_moves (same (same_label label l.ImportType)) (by_type_names.import_type_moves told r_ p_)
    (if_moves (same (same_label label l.AssertsResult)) (by_types.asserts_result_moves told r_ p_)
    (if_moves (same (same_label label l.PredicateResult)) (by_types.predicate_result_moves told r_ p_)
    (if_moves (same (same_label label l.EntityOfType))
    (map_moves _ _ (by_modules.entity_moves told r_ p_) (λ a a2 a_. by_type_names.named_moves m r_ a_))
    none))))))))))))))))))))))))))

pub arguments_of_moves : {m : Move} {x y : List ℕ} {ts us : List Token} → Texts m x y ts us → (label : NodeKind)
    → {r r2 : Range} → By (range_to m) r r2 → {p p2 : Value} → Moves m p p2
    → Opt (By (nodes_to m (ts_type_to m))) (arguments_of x ts label r p) (arguments_of y us label r2 p2)
unfolding arguments_of
arguments_of_moves told label r_ p_ =
    if_moves (same (same_label label l.TypeArguments)) (by_type_names.arguments_moves r_ p_) none

pub type_params_of_moves : {m : Move} {x y : List ℕ} {ts us : List Token} → Texts m x y ts us → (label : NodeKind)
    → {r r2 : Range} → By (range_to m) r r2 → {p p2 : Value} → Moves m p p2
    → Opt (By (nodes_to m (ts_type_param_to m))) (type_params_of x ts label r p) (type_params_of y us label r2 p2)
unfolding type_params_of
type_params_of_moves told label r_ p_ =
    if_moves (same (same_label label l.TypeParameters)) (by_type_names.type_params_moves told r_ p_) none

pub element_of_moves : {m : Move} {x y : List ℕ} {ts us : List Token} → Texts m x y ts us → (label : NodeKind)
    → {r r2 : Range} → By (range_to m) r r2 → {p p2 : Value} → Moves m p p2
    → Opt (By (ts_tuple_element_to m)) (element_of x ts label r p) (element_of y us label r2 p2)
unfolding element_of
element_of_moves {m = m} told label r_ p_ =
    if_moves (same (same_label label l.RestElement)) (by_types.rest_element_moves told r_ p_)
    (if_moves (same (same_label label l.LabelledElement)) (by_types.labelled_element_moves told r_ p_)
    (if_moves (same (same_label label l.OptionalElement)) (by_types.optional_element_moves r_ p_)
    (map_moves _ _ (type_of_moves told label r_ p_) (λ a a2 a_. by_types.element_of_moves m r_ a_))))

pub type_member_of_moves : {m : Move} {x y : List ℕ} {ts us : List Token} → Texts m x y ts us → (label : NodeKind)
    → {r r2 : Range} → By (range_to m) r r2 → {p p2 : Value} → Moves m p p2
    → Opt (By (ts_type_element_to m)) (type_member_of x ts label r p) (type_member_of y us label r2 p2)
unfolding type_member_of
type_member_of_moves told label r_ p_ =
    if_moves (same (same_label label l.CallSignature)) (by_type_members.call_signature_moves r_ p_)
    (if_moves (same (same_label label l.ConstructSignature)) (by_type_members.construct_signature_moves r_ p_)
    (if_moves (same (same_label label l.IndexSignature)) (by_type_members.index_signature_moves told r_ p_)
    (if_moves (same (same_label label l.AccessorSignature)) (by_type_members.accessor_signature_moves told r_ p_)
    (if_moves (same (same_label label l.MethodSignature))
    (by_type_members.method_by_moves (same vMethod.Method) r_ p_ (same 0))
    (if_moves (same (same_label label l.PropertySignature)) (by_type_members.property_by_moves (same false) r_ p_)
    (if_moves (same (same_label label l.ReadonlyProperty)) (by_type_members.property_by_moves (same true) r_ p_)
    none))))))

pub type_key_of_moves : {m : Move} {x y : List ℕ} {ts us : List Token} → Texts m x y ts us → (label : NodeKind)
    → {r r2 : Range} → By (range_to m) r r2 → {p p2 : Value} → Moves m p p2
    → Opt (By (ts_key_to m)) (type_key_of x ts label r p) (type_key_of y us label r2 p2)
unfolding type_key_of
type_key_of_moves told label r_ p_ =
    if_moves (same (same_label label l.WordKeyOfType)) (by_type_patterns.word_key_moves told p_)
    (if_moves (same (same_label label l.StrKeyOfType)) (by_type_patterns.str_key_moves told p_)
    (if_moves (same (same_label label l.NumberKeyOfType)) (by_type_patterns.number_key_moves told p_)
    (if_moves (same (same_label label l.ComputedKeyOfType)) (by_type_members.computed_key_moves told r_ p_)
    (if_moves (same (same_label label l.WordPatternKey)) (by_type_patterns.word_key_moves told p_)
    (if_moves (same (same_label label l.StrPatternKey)) (by_type_patterns.str_key_moves told p_)
    (if_moves (same (same_label label l.NumberPatternKey)) (by_type_patterns.number_key_moves told p_) none))))))

pub type_pat_of_moves : {m : Move} {x y : List ℕ} {ts us : List Token} → Texts m x y ts us → (label : NodeKind)
    → {from from2 : ℕ} → from2 ≡ from → {r r2 : Range} → By (range_to m) r r2 → {p p2 : Value} → Moves m p p2
    → Opt (By (ts_param_pat_to m)) (type_pat_of x ts label from r p) (type_pat_of y us label from2 r2 p2)
unfolding type_pat_of
type_pat_of_moves told label from_ r_ p_ =
    if_moves (same (same_label label l.NamePatternOfType)) (by_type_patterns.name_pattern_moves told p_)
    (if_moves (same (same_label label l.ArrayPatternOfType)) (by_type_patterns.array_pattern_moves told from_ r_ p_)
    (if_moves (same (same_label label l.ObjectPatternOfType)) (by_type_patterns.object_pattern_moves r_ p_)
    (if_moves (same (same_label label l.RestPatternOfType)) (by_type_patterns.rest_pattern_moves r_ p_) none)))

pub type_name_of_moves : {m : Move} {x y : List ℕ} {ts us : List Token} → Texts m x y ts us → (label : NodeKind)
    → {p p2 : Value} → Moves m p p2 → Opt (By (ident_to m)) (type_name_of x ts label p) (type_name_of y us label p2)
unfolding type_name_of
type_name_of_moves told label p_ =
    if_moves (same (same_label label l.NamePatternOfType)) (by_texts.ident_at_moves told p_ (same 0)) none

pub type_prop_of_moves : {m : Move} {x y : List ℕ} {ts us : List Token} → Texts m x y ts us → (label : NodeKind)
    → {r r2 : Range} → By (range_to m) r r2 → {p p2 : Value} → Moves m p p2
    → Opt (By (ts_pat_prop_to m)) (type_prop_of x ts label r p) (type_prop_of y us label r2 p2)
unfolding type_prop_of
type_prop_of_moves told label r_ p_ =
    if_moves (same (same_label label l.RestPropertyOfType)) (by_type_patterns.rest_property_moves r_ p_)
    (if_moves (same (same_label label l.KeyProperty)) (by_type_patterns.key_property_moves r_ p_)
    (if_moves (same (same_label label l.NamePropertyOfType)) (by_type_patterns.name_property_moves told p_) none))

pub fn_param_of_moves : {m : Move} {x y : List ℕ} {ts us : List Token} → Texts m x y ts us → (label : NodeKind)
    → {from from2 : ℕ} → from2 ≡ from → {r r2 : Range} → By (range_to m) r r2 → {p p2 : Value} → Moves m p p2
    → Opt (By (ts_fn_param_to m)) (fn_param_of x ts label from r p) (fn_param_of y us label from2 r2 p2)
unfolding fn_param_of
fn_param_of_moves {m = m} told label from_ r_ p_ =
    if_moves (same (same_label label l.ThisParameterOfType)) (by_type_patterns.this_parameter_moves told r_ p_)
    (if_moves (same (same_label label l.MarkedParameterOfType)) (by_type_patterns.marked_parameter_moves r_ p_)
    (map_moves _ _ (type_pat_of_moves told label from_ r_ p_)
    (λ a a2 a_. by_type_patterns.param_of_moves m r_ a_)))

pub fn_params_of_moves : {m : Move} {x y : List ℕ} {ts us : List Token} → Texts m x y ts us → (label : NodeKind)
    → {p p2 : Value} → Moves m p p2
    → Opt (Each (By (ts_fn_param_to m))) (fn_params_of x ts label p) (fn_params_of y us label p2)
unfolding fn_params_of
fn_params_of_moves told label p_ =
    if_moves (same (same_label label l.ParametersOfType)) (by_type_patterns.parameters_moves told p_) none

pub reference_of_moves : {m : Move} {x y : List ℕ} {ts us : List Token} → Texts m x y ts us → (label : NodeKind)
    → {r r2 : Range} → By (range_to m) r r2 → {p p2 : Value} → Moves m p p2
    → Opt (Both (By (ts_entity_name_to m)) (Opt (By (nodes_to m (ts_type_to m))))) (reference_of x ts label r p)
    (reference_of y us label r2 p2)
unfolding reference_of
reference_of_moves told label r_ p_ =
    if_moves (same (same_label label l.Reference)) (by_type_names.named_reference_moves p_)
    (if_moves (same (same_label label l.EntityOfType))
    (map_moves _ _ (by_modules.entity_moves told r_ p_) (λ name name2 name_. (name_, none))) none)

pub build_moves : {m : Move} {x y : List ℕ} {ts us : List Token} → Texts m x y ts us → (label : NodeKind)
    → {from from2 : ℕ} → from2 ≡ from → {r r2 : Range} → By (range_to m) r r2 → {p p2 : Value} → Moves m p p2
    → TypedMoves m (build x ts label from r p) (build y us label from2 r2 p2)
unfolding build
build_moves told label from_ r_ p_ = record {
  expr = expr_of_moves told label from_ r_ p_;
  pat = pat_of_moves told label from_ r_ p_;
  stmt = stmt_of_moves told label r_ p_;
  decl = decl_of_moves told label r_ p_;
  item = item_by_moves told (module_decl_of_moves told label r_ p_) (stmt_of_moves told label r_ p_);
  program = program_of_moves told label r_ p_;
  block = block_of_moves told label p_;
  variables = variables_of_moves told label p_;
  declarator = declarator_of_moves told label from_ r_ p_;
  head = head_of_moves told label from_ r_ p_;
  param = param_of_moves told label from_ r_ p_;
  params = params_of_moves told label p_;
  pat_prop = pat_prop_of_moves told label r_ p_;
  prop = prop_of_moves told label r_ p_;
  member = member_of_moves told label r_ p_;
  key = key_of_moves told label p_;
  post = post_of_moves told label r_ p_;
  args = args_of_moves told label p_;
  clause = clause_of_moves told label r_ p_;
  names = names_of_moves told label r_ p_;
  import_specifier = import_specifier_of_moves told label r_ p_;
  export_specifier = export_specifier_of_moves told label r_ p_;
  attributes = attributes_of_moves told label r_ p_;
  entity = entity_of_moves told label r_ p_;
  marked = marked_of_moves told label from_ p_;
  signature = signature_of_moves told label p_;
  declarable = declarable_of_moves told label r_ p_;
  ts_type = type_of_moves told label r_ p_;
  reference = reference_of_moves told label r_ p_;
  arguments = arguments_of_moves told label r_ p_;
  type_params = type_params_of_moves told label r_ p_;
  element = element_of_moves told label r_ p_;
  type_member = type_member_of_moves told label r_ p_;
  type_key = type_key_of_moves told label r_ p_;
  fn_params = fn_params_of_moves told label p_;
  fn_param = fn_param_of_moves told label from_ r_ p_;
  type_pat = type_pat_of_moves told label from_ r_ p_;
  type_name = type_name_of_moves told label p_;
  type_prop = type_prop_of_moves told label r_ p_;
}
