-- What is met in a node is what it tells in each of its roles: a line for each alternative.
use Rattle.std.specs.Prelude.{ℕ, Bool, false, true, List, [], Option, Some, None, if◌then◌else◌}
use Rattle.std.proofs.Common.{◌≡◌, refl, ap}
use Rattle.base.specs.declared.range.Range.{Range}
use Rattle.es_token.specs.declared.token.Token.{Token}
use Rattle.es_ast.specs.declared.ts.leaf.MethodKind.TheVariants as vMethod
use Rattle.es_ast.specs.declared.ts.ts.TsPart.{TsPart}
use Rattle.es_ast.specs.declared.leaf.ImportPhase.TheVariants as vPhase
use Rattle.es_ast.specs.declared.ast.ClassMember.TheVariants as vMember
use Rattle.es_ast.specs.declared.ast.Decl.{Decl}
use Rattle.es_ast.specs.declared.ast.Decl.TheVariants as vDecl
use Rattle.es_ast.specs.declared.ast.Expr.TheVariants as vExpr
use Rattle.es_ast.specs.declared.ast.Pat.{Pat}
use Rattle.es_ast.specs.declared.ast.Stmt.TheVariants as vStmt
use Rattle.es_grammar.specs.declared.rows.NodeKind.{NodeKind}
use Rattle.es_grammar.specs.declared.rows.NodeKind.TheVariants as l
use Rattle.es_lowering.specs.Value.{Value, group, is_there}
use Rattle.es_lowering.specs.Expressions.{Post}
use Rattle.es_lowering.specs.Lowering.{build}
use Rattle.es_lowering.specs.Lowering as low
use Rattle.es_lowering.specs.Classes as low_classes
use Rattle.es_lowering.specs.Functions as low_functions
use Rattle.es_lowering.specs.Functions.{param_of}
use Rattle.es_lowering.specs.Statements as low_stmts
use Rattle.es_lowering.specs.Statements.{declarator_of}
use Rattle.es_lowering.specs.TypedFunctions as low_typed
use Rattle.dts_overloads.specs.Among.{none, ◌∪◌, all_of, Among, of_program, of_class_member, of_decl, of_expr, of_module_decl, of_object_pat_prop, of_param, of_pat, of_prop, of_stmt, of_stmts, of_var_declarator}
use Rattle.dts_overloads.proofs.Equations as laws
use Rattle.dts_overloads.specs.declared.shapes.Shape.{Shape}
use Rattle.dts_overloads.specs.Plan.{plan}
use Rattle.dts_overloads.specs.Met.{Told, both, Met, rows, met}
use Rattle.dts_overloads.specs.declared.lists.Act.{Act}
use Rattle.dts_overloads.specs.declared.lists.Act.TheVariants as act
use Rattle.dts_overloads.specs.Own.{told_of, own}
use Rattle.dts_overloads.proofs.Seen.{Sees, moved, mapped, silent}
use Rattle.dts_overloads.proofs.Agrees.{variables_among, head_among, key_among, params_among, SeesPost, Said, are_plain, read, rows_are}
use Rattle.dts_overloads.proofs.Roles.{AgreeRow}
use Rattle.dts_overloads.proofs.Statements as stmts
use Rattle.dts_overloads.proofs.Patterns as pats
use Rattle.dts_overloads.proofs.Expressions as exprs
use Rattle.dts_overloads.proofs.Functions as functions
use Rattle.dts_overloads.proofs.Items as items
use Rattle.dts_overloads.proofs.Chains as chains

rowed : {A : Type 0} {f : A → Among} {o : Option A} (shapes : List Shape) (q : Met) → are_plain shapes ≡ true
    → Sees f o (read q shapes) → Sees f o (met q (rows shapes))
rowed {f = f} {o = o} shapes q plain s = moved f o (met q (rows shapes)) (read q shapes) (rows_are shapes plain q) s

listed : {A : Type 0} {f : A → Among} {o : Option A} (list : Act) (p : Value) (shapes : List Shape) (q : Met)
    → are_plain shapes ≡ true → Sees f o (both (told_of list p) (read q shapes))
    → Sees f o (both (told_of list p) (met q (rows shapes)))
listed {f = f} {o = o} list p shapes q plain s =
    moved f o (both (told_of list p) (met q (rows shapes))) (both (told_of list p) (read q shapes))
    (ap (both (told_of list p)) (rows_are shapes plain q)) s

post_rowed : {o : Option Post} (shapes : List Shape) (q : Met) → are_plain shapes ≡ true
    → SeesPost o (read q shapes) → SeesPost o (met q (rows shapes))
post_rowed {o = o} shapes q plain s =
    chains.post_moved o (met q (rows shapes)) (read q shapes) (rows_are shapes plain q) s

module _ (x : List ℕ) (ts : List Token) (from : ℕ) (r : Range) (p : Value) (q : Met) (a : AgreeRow p q) where
  expr_said : (label : NodeKind) → Sees (of_expr) (low.expr_of x ts label from r p) (own label p q)
  unfolding low.expr_of plan
  expr_said l.Name = rowed (plan l.Name) q refl (exprs.name_form x ts p q a)
  expr_said l.Word = rowed (plan l.Word) q refl (exprs.word_form x ts p q a r)
  expr_said l.Number = rowed (plan l.Number) q refl (exprs.number_form x ts p q a)
  expr_said l.Str = rowed (plan l.Str) q refl (exprs.str_form x ts p q a)
  expr_said l.RegExp = rowed (plan l.RegExp) q refl (exprs.regexp_form x ts p q a)
  expr_said l.Template = rowed (plan l.Template) q refl (exprs.template_form x ts p q a r)
  expr_said l.TemplateParts = rowed (plan l.TemplateParts) q refl (exprs.template_parts x ts p q a r)
  expr_said l.Parenthesized = rowed (plan l.Parenthesized) q refl (exprs.parenthesized_form x ts p q a r)
  expr_said l.ArrayLiteral = rowed (plan l.ArrayLiteral) q refl (exprs.array_form x ts p q a from r)
  expr_said l.ObjectLiteral = rowed (plan l.ObjectLiteral) q refl (exprs.object_form x ts p q a r)
  expr_said l.Spread = rowed (plan l.Spread) q refl (exprs.spread_form x ts p q a r)
  expr_said l.Super = rowed (plan l.Super) q refl (silent (vExpr.Super r) (laws.expr_Super r))
  expr_said l.ImportCall = rowed (plan l.ImportCall) q refl (exprs.import_call x ts p q a vPhase.Evaluation r)
  expr_said l.SourceCall = rowed (plan l.SourceCall) q refl (exprs.import_call x ts p q a vPhase.Source r)
  expr_said l.DeferCall = rowed (plan l.DeferCall) q refl (exprs.import_call x ts p q a vPhase.Defer r)
  expr_said l.ImportMeta = rowed (plan l.ImportMeta) q refl (silent (vExpr.ImportMeta r) (laws.expr_ImportMeta r))
  expr_said l.NewTarget = rowed (plan l.NewTarget) q refl (silent (vExpr.NewTarget r) (laws.expr_NewTarget r))
  expr_said l.New = rowed (plan l.New) q refl (exprs.new_form x ts p q a r)
  expr_said l.UpdatePrefix = rowed (plan l.UpdatePrefix) q refl (exprs.update_prefix x ts p q a r)
  expr_said l.UpdatePostfix = rowed (plan l.UpdatePostfix) q refl (exprs.update_postfix x ts p q a r)
  expr_said l.UnaryExpression = rowed (plan l.UnaryExpression) q refl (exprs.prefix_form x ts p q a r)
  expr_said l.AwaitExpression = rowed (plan l.AwaitExpression) q refl (exprs.await_form x ts p q a r)
  expr_said l.Binary = rowed (plan l.Binary) q refl (exprs.binary_form x ts p q a r)
  expr_said l.PrivateIn = rowed (plan l.PrivateIn) q refl (exprs.private_in x ts p q a r)
  expr_said l.Conditional = rowed (plan l.Conditional) q refl (exprs.conditional_form x ts p q a r)
  expr_said l.Yield = rowed (plan l.Yield) q refl (exprs.yield_form p q a r)
  expr_said l.NameArrow = rowed (plan l.NameArrow) q refl (functions.name_arrow x ts p q a false r)
  expr_said l.AsyncNameArrow = rowed (plan l.AsyncNameArrow) q refl (functions.name_arrow x ts p q a true r)
  expr_said l.ParenthesizedArrow =
      rowed (plan l.ParenthesizedArrow) q refl (functions.parenthesized_arrow x ts p q a false r)
  expr_said l.AsyncParenthesizedArrow =
      rowed (plan l.AsyncParenthesizedArrow) q refl (functions.parenthesized_arrow x ts p q a true r)
  expr_said l.Sequence = rowed (plan l.Sequence) q refl (exprs.sequence_form x ts p q a r)
  expr_said l.TypedNew = rowed (plan l.TypedNew) q refl (exprs.typed_new x ts p q a r)
  expr_said l.TypedBinary = rowed (plan l.TypedBinary) q refl (exprs.typed_binary ts p q a r)
  expr_said l.TypeAssertion = rowed (plan l.TypeAssertion) q refl (exprs.type_assertion ts p q a r)
  expr_said l.TypedParenthesizedArrow =
      rowed (plan l.TypedParenthesizedArrow) q refl (functions.typed_arrow x ts p q a false r)
  expr_said l.TypedAsyncParenthesizedArrow =
      rowed (plan l.TypedAsyncParenthesizedArrow) q refl (functions.typed_arrow x ts p q a true r)
  expr_said l.Function =
      rowed (plan l.Function) q refl
      (mapped vExpr.Fn (λ f. laws.expr_Fn f) (low_functions.function x ts false r p)
      (functions.function_form x ts p q a false r))
  expr_said l.AsyncFunction =
      rowed (plan l.AsyncFunction) q refl
      (mapped vExpr.Fn (λ f. laws.expr_Fn f) (low_functions.function x ts true r p)
      (functions.function_form x ts p q a true r))
  expr_said l.TypedFunction =
      rowed (plan l.TypedFunction) q refl
      (mapped vExpr.Fn (λ f. laws.expr_Fn f) (low_typed.typed_function x ts false r p)
      (functions.typed_function x ts p q a false r))
  expr_said l.TypedAsyncFunction =
      rowed (plan l.TypedAsyncFunction) q refl
      (mapped vExpr.Fn (λ f. laws.expr_Fn f) (low_typed.typed_function x ts true r p)
      (functions.typed_function x ts p q a true r))
  expr_said l.Class = listed (act.Members 2) p (plan l.Class) q refl
      (mapped vExpr.Class (λ c. laws.expr_Class c) (low_classes.class_ x ts r p)
      (functions.class_form x ts p q a r))
  expr_said l.TypedClass =
      listed (act.Members 4) p (plan l.TypedClass) q refl
      (mapped vExpr.Class (λ c. laws.expr_Class c) (low_typed.typed_class x ts false r p)
      (functions.typed_class x ts p q a false r))
  expr_said l.AbstractClass =
      listed (act.Members 4) p (plan l.AbstractClass) q refl
      (mapped vExpr.Class (λ c. laws.expr_Class c) (low_typed.typed_class x ts true r p)
      (functions.typed_class x ts p q a true r))
  expr_said l.Chain = rowed (plan l.Chain) q refl (chains.chain_form p q a r)
  expr_said l.Assignment = rowed (plan l.Assignment) q refl (exprs.assignment_form x ts p q a r)
  expr_said l.PatternAssignment = rowed (plan l.PatternAssignment) q refl (exprs.pattern_assignment x ts p q a r)
  expr_said _ = record { sees = tt }

  pat_said : (label : NodeKind) → Sees (of_pat) (low.pat_of x ts label from r p) (own label p q)
  unfolding low.pat_of plan
  pat_said l.NamePattern = rowed (plan l.NamePattern) q refl (pats.name_pattern x ts p q a)
  pat_said l.ArrayPattern = rowed (plan l.ArrayPattern) q refl (pats.array_pattern x ts p q a from r)
  pat_said l.ObjectPattern = rowed (plan l.ObjectPattern) q refl (pats.object_pattern x ts p q a r)
  pat_said l.RestPattern = rowed (plan l.RestPattern) q refl (pats.rest_pattern x ts p q a r)
  pat_said l.DefaultPattern = rowed (plan l.DefaultPattern) q refl (pats.default_pattern x ts p q a r)
  pat_said _ = record { sees = tt }

  marked_said : (mark : Bool) (ty : Option TsPart) (span : Range) (label : NodeKind)
      → Sees (λ (pat : Bool → Option TsPart → Range → Pat). of_pat (pat mark ty span))
      (low.marked_of x ts label from p) (own label p q)
  unfolding low.marked_of plan
  marked_said mark ty span l.NamePattern = rowed (plan l.NamePattern) q refl (pats.marked_name x ts p q a mark ty span)
  marked_said mark ty span l.ArrayPattern =
      rowed (plan l.ArrayPattern) q refl (pats.marked_array x ts p q a from mark ty span)
  marked_said mark ty span l.ObjectPattern =
      rowed (plan l.ObjectPattern) q refl (pats.marked_object x ts p q a mark ty span)
  marked_said mark ty span _ = record { sees = tt }

  variables_said : (label : NodeKind) → Sees (variables_among) (low.variables_of x ts label p) (own label p q)
  unfolding low.variables_of plan
  variables_said l.Variables = rowed (plan l.Variables) q refl (stmts.variables_form p q a ts)
  variables_said l.Using = rowed (plan l.Using) q refl (stmts.using_form p q a)
  variables_said _ = record { sees = tt }

  declarable_said : (declare : Bool) (span : Range) (label : NodeKind)
      → Sees (λ (decl : Bool → Range → Decl). of_decl (decl declare span)) (low.declarable_of x ts label r p)
      (own label p q)
  unfolding low.declarable_of plan
  declarable_said declare span l.TypedFunction =
      rowed (plan l.TypedFunction) q refl (mapped (λ function declare span. vDecl.Fn declare function span)
      (λ f. laws.decl_Fn declare f span) (low_typed.typed_function x ts false r p)
      (functions.typed_function x ts p q a false r))
  declarable_said declare span l.TypedAsyncFunction =
      rowed (plan l.TypedAsyncFunction) q refl (mapped (λ function declare span. vDecl.Fn declare function span)
      (λ f. laws.decl_Fn declare f span) (low_typed.typed_function x ts true r p)
      (functions.typed_function x ts p q a true r))
  declarable_said declare span l.TypedClass =
      listed (act.Members 4) p (plan l.TypedClass) q refl (mapped (λ class declare span. vDecl.Class declare class span)
      (λ c. laws.decl_Class declare c span) (low_typed.typed_class x ts false r p)
      (functions.typed_class x ts p q a false r))
  declarable_said declare span l.AbstractClass =
      listed (act.Members 4) p (plan l.AbstractClass) q refl (mapped (λ class declare span. vDecl.Class declare class span)
      (λ c. laws.decl_Class declare c span) (low_typed.typed_class x ts true r p)
      (functions.typed_class x ts p q a true r))
  declarable_said declare span l.InterfaceDeclaration =
      rowed (plan l.InterfaceDeclaration) q refl (items.interface_form x ts p q a declare span)
  declarable_said declare span l.AliasDeclaration =
      rowed (plan l.AliasDeclaration) q refl (items.alias_form x ts p q a declare span)
  declarable_said declare span l.EnumDeclaration =
      rowed (plan l.EnumDeclaration) q refl (items.enum_form x ts p q a declare span)
  declarable_said declare span l.NamespaceDeclaration =
      listed (act.Items 2) p (plan l.NamespaceDeclaration) q refl (items.namespace_form x ts p q a declare span)
  declarable_said declare span l.ModuleDeclaration =
      listed act.Inner p (plan l.ModuleDeclaration) q refl (items.module_form x ts p q a declare span)
  declarable_said declare span l.GlobalDeclaration =
      listed (act.Items 0) p (plan l.GlobalDeclaration) q refl (items.global_form x ts p q a declare span)
  declarable_said declare span _ = record { sees = tt }

  decl_said : (label : NodeKind) → Sees (of_decl) (low.decl_of x ts label r p) (own label p q)
  unfolding low.decl_of plan
  decl_said l.Function =
      rowed (plan l.Function) q refl
      (mapped (λ function. vDecl.Fn false function r) (λ f. laws.decl_Fn false f r)
      (low_functions.function x ts false r p) (functions.function_form x ts p q a false r))
  decl_said l.AsyncFunction =
      rowed (plan l.AsyncFunction) q refl
      (mapped (λ function. vDecl.Fn false function r) (λ f. laws.decl_Fn false f r)
      (low_functions.function x ts true r p) (functions.function_form x ts p q a true r))
  decl_said l.Class = listed (act.Members 2) p (plan l.Class) q refl
      (mapped (λ class. vDecl.Class false class r) (λ c. laws.decl_Class false c r) (low_classes.class_ x ts r p)
      (functions.class_form x ts p q a r))
  decl_said l.VariableDeclaration = rowed (plan l.VariableDeclaration) q refl (stmts.variable_declaration p q a r)
  decl_said l.UsingDeclaration = rowed (plan l.UsingDeclaration) q refl (stmts.variable_declaration p q a r)
  decl_said l.Variables =
      rowed (plan l.Variables) q refl
      (mapped (low_stmts.decl_of r) (λ v. laws.decl_Var false v.0 v.1 r) (low_stmts.variables ts p)
      (stmts.variables_form p q a ts))
  decl_said l.Using = rowed (plan l.Using) q refl
      (mapped (low_stmts.decl_of r) (λ v. laws.decl_Var false v.0 v.1 r) (low_stmts.using_ p)
      (stmts.using_form p q a))
  decl_said l.Declared = rowed (plan l.Declared) q refl (items.declared_form p q a r)
  decl_said l.DeclaredVariables = rowed (plan l.DeclaredVariables) q refl (stmts.declared_variables p q a r)
  decl_said label = mapped (λ decl. decl false r) (λ d. refl) (low.declarable_of x ts label r p)
      (declarable_said false r label)

  block_said : (label : NodeKind) → Sees of_stmts (low.block_of x ts label p) (own label p q)
  unfolding low.block_of plan
  block_said l.Block = listed (act.Stmts 0) p (plan l.Block) q refl (stmts.block_form p q a)
  block_said _ = record { sees = tt }

  stmt_said : (label : NodeKind) → Sees (of_stmt) (low.stmt_of x ts label r p) (own label p q)
  unfolding low.stmt_of plan
  stmt_said l.Block = listed (act.Stmts 0) p (plan l.Block) q refl (stmts.block_stmt p q a r)
  stmt_said l.EmptyStatement = rowed (plan l.EmptyStatement) q refl (silent (vStmt.Empty r) (laws.stmt_Empty r))
  stmt_said l.ExpressionStatement = rowed (plan l.ExpressionStatement) q refl (stmts.expression_stmt p q a r)
  stmt_said l.LabelledStatement = rowed (plan l.LabelledStatement) q refl (stmts.labelled p q a x ts r)
  stmt_said l.IfStatement = rowed (plan l.IfStatement) q refl (stmts.if_form p q a r)
  stmt_said l.ForStatement = stmts.for_form p q a ts r
  stmt_said l.ForEachStatement = rowed (plan l.ForEachStatement) q refl (stmts.for_each p q a ts r)
  stmt_said l.ForAwaitStatement = rowed (plan l.ForAwaitStatement) q refl (stmts.for_await p q a r)
  stmt_said l.WhileStatement = rowed (plan l.WhileStatement) q refl (stmts.while_form p q a r)
  stmt_said l.DoStatement = rowed (plan l.DoStatement) q refl (stmts.do_form p q a r)
  stmt_said l.ContinueStatement = rowed (plan l.ContinueStatement) q refl (stmts.continue_form p q a x ts r)
  stmt_said l.BreakStatement = rowed (plan l.BreakStatement) q refl (stmts.break_form p q a x ts r)
  stmt_said l.ReturnStatement = rowed (plan l.ReturnStatement) q refl (stmts.return_form p q a r)
  stmt_said l.ThrowStatement = rowed (plan l.ThrowStatement) q refl (stmts.throw_form p q a r)
  stmt_said l.SwitchStatement = listed act.Cases p (plan l.SwitchStatement) q refl (stmts.switch_form ts p q a r)
  stmt_said l.TryStatement = rowed (plan l.TryStatement) q refl (stmts.try_form p q a r)
  stmt_said l.DebuggerStatement =
      rowed (plan l.DebuggerStatement) q refl (silent (vStmt.Debugger r) (laws.stmt_Debugger r))
  stmt_said l.WithStatement = rowed (plan l.WithStatement) q refl (stmts.with_form p q a r)
  stmt_said l.TypedTryStatement = rowed (plan l.TypedTryStatement) q refl (stmts.typed_try p q a r ts)
  stmt_said label = mapped vStmt.Decl (λ d. laws.stmt_Decl d) (low.decl_of x ts label r p) (decl_said label)

  declarator_said : (label : NodeKind)
      → Sees (of_var_declarator) (low.declarator_of x ts label from r p) (own label p q)
  unfolding low.declarator_of plan
  declarator_said l.Declarator = rowed (plan l.Declarator) q refl (stmts.declarator_form p q a r)
  declarator_said l.TypedDeclarator = rowed (plan l.TypedDeclarator) q refl (stmts.typed_declarator p q a ts r)
  declarator_said label =
      mapped (declarator_of r None) (stmts.bare_declarator r) (low.pat_of x ts label from r p) (pat_said label)

  param_said : (label : NodeKind) → Sees (of_param) (low.param_of x ts label from r p) (own label p q)
  unfolding low.param_of plan
  param_said l.DefaultParameter = rowed (plan l.DefaultParameter) q refl (pats.default_parameter ts p q a r)
  param_said l.ThisParameter = rowed (plan l.ThisParameter) q refl (pats.this_parameter ts p q a r)
  param_said l.PropertyParameter = rowed (plan l.PropertyParameter) q refl (pats.property_parameter ts p q a r)
  param_said l.MarkedParameter = rowed (plan l.MarkedParameter) q refl (pats.marked_parameter ts p q a r)
  param_said label = pats.bare_param r (low.pat_of x ts label from r p) _ (pat_said label)

  head_said : (label : NodeKind) → Sees (head_among) (low.head_of x ts label from r p) (own label p q)
  unfolding low.head_of plan
  head_said l.VariableHead = rowed (plan l.VariableHead) q refl (stmts.variable_head p q a ts)
  head_said l.UsingHead = rowed (plan l.UsingHead) q refl (stmts.using_head p q a x ts)
  head_said l.TypedVariableHead = rowed (plan l.TypedVariableHead) q refl (stmts.typed_head p q a ts)
  head_said label = stmts.bare_head (low.pat_of x ts label from r p) _ (pat_said label)

  params_said : (label : NodeKind) → Sees (all_of of_param) (low.params_of x ts label p) (own label p q)
  unfolding low.params_of plan
  params_said l.Parameters = rowed (plan l.Parameters) q refl (pats.parameters_form ts p q a)
  params_said l.Signature = rowed (plan l.Signature) q refl (pats.signature_params ts p q a)
  params_said l.TypedParameters = rowed (plan l.TypedParameters) q refl (pats.typed_parameters ts p q a)
  params_said _ = record { sees = tt }

  signature_said : (label : NodeKind) → Sees (params_among) (low.signature_of x ts label p) (own label p q)
  unfolding low.signature_of plan
  signature_said l.TypedSignature = rowed (plan l.TypedSignature) q refl (pats.typed_signature ts p q a)
  signature_said _ = record { sees = tt }

  pat_prop_said : (label : NodeKind)
      → Sees (of_object_pat_prop) (low.pat_prop_of x ts label r p) (own label p q)
  unfolding low.pat_prop_of plan
  pat_prop_said l.RestProperty = rowed (plan l.RestProperty) q refl (pats.rest_property x ts p q a r)
  pat_prop_said l.KeyPattern = rowed (plan l.KeyPattern) q refl (pats.key_pattern x ts p q a r)
  pat_prop_said l.NameProperty = rowed (plan l.NameProperty) q refl (pats.name_property x ts p q a r)
  pat_prop_said _ = record { sees = tt }

  key_said : (label : NodeKind) → Sees (key_among) (low.key_of x ts label p) (own label p q)
  unfolding low.key_of plan
  key_said l.WordKey = rowed (plan l.WordKey) q refl (pats.word_key x ts p q a)
  key_said l.StrKey = rowed (plan l.StrKey) q refl (pats.str_key x ts p q a)
  key_said l.NumberKey = rowed (plan l.NumberKey) q refl (pats.number_key x ts p q a)
  key_said l.ComputedKey = rowed (plan l.ComputedKey) q refl (pats.computed_key x ts p q a)
  key_said l.PrivateKey = rowed (plan l.PrivateKey) q refl (pats.private_key x ts p q a)
  key_said _ = record { sees = tt }

  prop_said : (label : NodeKind) → Sees (of_prop) (low.prop_of x ts label r p) (own label p q)
  unfolding low.prop_of plan
  prop_said l.SpreadProperty = rowed (plan l.SpreadProperty) q refl (functions.spread_property ts p q a r)
  prop_said l.AccessorProperty = rowed (plan l.AccessorProperty) q refl (functions.accessor_property ts p q a r)
  prop_said l.AsyncProperty =
      rowed (plan l.AsyncProperty) q refl
      (functions.method_property ts p q a vMethod.Method true (is_there (group p 0)) r 1)
  prop_said l.GeneratorProperty =
      rowed (plan l.GeneratorProperty) q refl (functions.method_property ts p q a vMethod.Method false true r 0)
  prop_said l.MethodProperty =
      rowed (plan l.MethodProperty) q refl (functions.method_property ts p q a vMethod.Method false false r 0)
  prop_said l.KeyValue = rowed (plan l.KeyValue) q refl (functions.key_value ts p q a r)
  prop_said l.Shorthand = rowed (plan l.Shorthand) q refl (functions.shorthand_form ts p q a x)
  prop_said l.TypedAccessorProperty =
      rowed (plan l.TypedAccessorProperty) q refl (functions.typed_accessor_property ts p q a r)
  prop_said l.TypedAsyncProperty =
      rowed (plan l.TypedAsyncProperty) q refl
      (functions.typed_method_property ts p q a vMethod.Method true (is_there (group p 0)) r 1)
  prop_said l.TypedGeneratorProperty =
      rowed (plan l.TypedGeneratorProperty) q refl
      (functions.typed_method_property ts p q a vMethod.Method false true r 0)
  prop_said l.TypedMethodProperty =
      rowed (plan l.TypedMethodProperty) q refl
      (functions.typed_method_property ts p q a vMethod.Method false false r 0)
  prop_said _ = record { sees = tt }

  member_said : (label : NodeKind) → Sees (of_class_member) (low.member_of x ts label r p) (own label p q)
  unfolding low.member_of plan
  member_said l.EmptyMember =
      rowed (plan l.EmptyMember) q refl (silent (vMember.Empty r) (laws.class_member_Empty r))
  member_said l.StaticBlock = rowed (plan l.StaticBlock) q refl (functions.static_block ts p q a r)
  member_said l.AccessorMember = rowed (plan l.AccessorMember) q refl (functions.accessor_member ts p q a r)
  member_said l.AsyncMember =
      rowed (plan l.AsyncMember) q refl
      (functions.method_member ts p q a vMethod.Method true (is_there (group p 1)) r 2)
  member_said l.GeneratorMember =
      rowed (plan l.GeneratorMember) q refl (functions.method_member ts p q a vMethod.Method false true r 1)
  member_said l.MethodMember =
      rowed (plan l.MethodMember) q refl (functions.method_member ts p q a vMethod.Method false false r 1)
  member_said l.FieldMember = rowed (plan l.FieldMember) q refl (functions.field_member ts p q a false r)
  member_said l.AccessorField = rowed (plan l.AccessorField) q refl (functions.field_member ts p q a true r)
  member_said l.TypedAccessorMember =
      rowed (plan l.TypedAccessorMember) q refl (functions.typed_accessor_member ts p q a r)
  member_said l.TypedAsyncMember =
      rowed (plan l.TypedAsyncMember) q refl
      (functions.typed_method_member ts p q a vMethod.Method true (is_there (group p 1)) r 2)
  member_said l.TypedGeneratorMember =
      rowed (plan l.TypedGeneratorMember) q refl (functions.typed_method_member ts p q a vMethod.Method false true r 1)
  member_said l.TypedMethodMember =
      rowed (plan l.TypedMethodMember) q refl (functions.typed_method_member ts p q a vMethod.Method false false r 1)
  member_said l.TypedFieldMember = rowed (plan l.TypedFieldMember) q refl (functions.typed_field ts p q a false r)
  member_said l.TypedAccessorField = rowed (plan l.TypedAccessorField) q refl (functions.typed_field ts p q a true r)
  member_said l.IndexMember = rowed (plan l.IndexMember) q refl (items.index_member x ts r p)
  member_said _ = record { sees = tt }

  post_said : (label : NodeKind) → SeesPost (low.post_of x ts label r p) (own label p q)
  unfolding low.post_of plan
  post_said l.MemberPost = post_rowed (plan l.MemberPost) q refl (chains.member_post x ts p q a r)
  post_said l.IndexPost = post_rowed (plan l.IndexPost) q refl (chains.index_post x ts p q a r)
  post_said l.CallPost = post_rowed (plan l.CallPost) q refl (chains.call_post x ts p q a r)
  post_said l.TemplatePost = post_rowed (plan l.TemplatePost) q refl (chains.template_post x ts p q a r)
  post_said l.OptionalPost = post_rowed (plan l.OptionalPost) q refl (chains.optional_post x ts p q a r)
  post_said l.TypedCallPost = post_rowed (plan l.TypedCallPost) q refl (chains.typed_call_post x ts p q a r)
  post_said l.TypedTemplatePost = post_rowed (plan l.TypedTemplatePost) q refl (chains.typed_template_post x ts p q a r)
  post_said l.TypedOptionalPost = post_rowed (plan l.TypedOptionalPost) q refl (chains.typed_optional_post x ts p q a r)
  post_said l.NonNullPost = post_rowed (plan l.NonNullPost) q refl (chains.non_null_post x ts p q a r)
  post_said _ = record { sees = tt }

  args_said : (label : NodeKind) → Sees (all_of of_expr) (low.args_of x ts label p) (own label p q)
  unfolding low.args_of plan
  args_said l.Arguments = rowed (plan l.Arguments) q refl (exprs.arguments_form ts p q a)
  args_said _ = record { sees = tt }

  module_decl_said : (label : NodeKind)
      → Sees (of_module_decl) (low.module_decl_of x ts label r p) (own label p q)
  unfolding low.module_decl_of plan
  module_decl_said l.BareImport = rowed (plan l.BareImport) q refl (items.bare_import x ts r p)
  module_decl_said l.FromImport = rowed (plan l.FromImport) q refl (items.from_import x ts r p)
  module_decl_said l.SourceImport = rowed (plan l.SourceImport) q refl (items.phase_import x ts r p vPhase.Source)
  module_decl_said l.DeferImport = rowed (plan l.DeferImport) q refl (items.phase_import x ts r p vPhase.Defer)
  module_decl_said l.RequireImport = rowed (plan l.RequireImport) q refl (items.require_import x ts r p false)
  module_decl_said l.EntityImport = rowed (plan l.EntityImport) q refl (items.entity_import x ts r p false)
  module_decl_said l.ExportedRequireImport =
      rowed (plan l.ExportedRequireImport) q refl (items.require_import x ts r p true)
  module_decl_said l.ExportedEntityImport =
      rowed (plan l.ExportedEntityImport) q refl (items.entity_import x ts r p true)
  module_decl_said l.ExportAll = rowed (plan l.ExportAll) q refl (items.export_all x ts r p)
  module_decl_said l.ExportNames = rowed (plan l.ExportNames) q refl (items.export_names x ts r p)
  module_decl_said l.ExportNamespace = rowed (plan l.ExportNamespace) q refl (items.export_namespace x ts r p)
  module_decl_said l.ExportDefaultFunction =
      rowed (plan l.ExportDefaultFunction) q refl (items.export_default_decl p q a r)
  module_decl_said l.ExportDefaultClass = rowed (plan l.ExportDefaultClass) q refl (items.export_default_decl p q a r)
  module_decl_said l.ExportDefaultExpression =
      rowed (plan l.ExportDefaultExpression) q refl (items.export_default_expression p q a r)
  module_decl_said l.ExportDeclaration = rowed (plan l.ExportDeclaration) q refl (items.export_declaration p q a r)
  module_decl_said l.ExportDefaultInterface =
      rowed (plan l.ExportDefaultInterface) q refl (items.export_default_decl p q a r)
  module_decl_said l.ExportAssignment = rowed (plan l.ExportAssignment) q refl (items.export_assignment p q a r)
  module_decl_said _ = record { sees = tt }

  program_said : (label : NodeKind) → Sees (of_program) (low.program_of x ts label r p) (own label p q)
  unfolding low.program_of plan
  program_said l.Module = listed (act.Items 1) p (plan l.Module) q refl (items.module_program x ts p q a r)
  program_said l.Script = listed (act.Stmts 1) p (plan l.Script) q refl (items.script_program x ts p q a r)
  program_said _ = record { sees = tt }

  pub node_said : (label : NodeKind) → Said (build x ts label from r p) (own label p q)
  unfolding build
  node_said label = record {
    expr = expr_said label;
    pat = pat_said label;
    stmt = stmt_said label;
    decl = decl_said label;
    item = items.item_sees x ts (low.module_decl_of x ts label r p) (low.stmt_of x ts label r p) _
        (module_decl_said label)
        (stmt_said label);
    program = program_said label;
    block = block_said label;
    variables = variables_said label;
    declarator = declarator_said label;
    head = head_said label;
    param = param_said label;
    params = params_said label;
    pat_prop = pat_prop_said label;
    prop = prop_said label;
    member = member_said label;
    key = key_said label;
    post = post_said label;
    args = args_said label;
    marked = λ mark ty span. marked_said mark ty span label;
    signature = signature_said label;
    declarable = λ declare span. declarable_said declare span label;
  }
