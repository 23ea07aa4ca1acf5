-- The typed tree of a plain tree: one line for each alternative of the table tells what its node is.
use Rattle.std.specs.Prelude.{ℕ, Bool, true, false, List, [], ◌∷◌, Option, Some, None, option_map, if◌then◌else◌}
use denote.Enum.Bare.{sameb}
use Rattle.base.specs.declared.range.Range.{Range}
use Rattle.es_token.specs.declared.token.Token.{Token}
use Rattle.es_ast.specs.declared.ts.leaf.MethodKind.TheVariants as vMethod
use Rattle.es_ast.specs.declared.ts.leaf.Ident.{Ident}
use Rattle.es_ast.specs.declared.ts.leaf.TsEntityName.{TsEntityName}
use Rattle.es_ast.specs.declared.ts.leaf.TsKey.{TsKey}
use Rattle.es_ast.specs.declared.ts.ts.Nodes.{Nodes}
use Rattle.es_ast.specs.declared.ts.ts.TsType.{TsType}
use Rattle.es_ast.specs.declared.ts.ts.TsType.TheVariants as vType
use Rattle.es_ast.specs.declared.ts.ts.TsTypeParam.{TsTypeParam}
use Rattle.es_ast.specs.declared.ts.ts.TsTypeElement.{TsTypeElement}
use Rattle.es_ast.specs.declared.ts.ts.TsTupleElement.{TsTupleElement}
use Rattle.es_ast.specs.declared.ts.ts.TsFnParam.{TsFnParam}
use Rattle.es_ast.specs.declared.ts.ts.TsParamPat.{TsParamPat}
use Rattle.es_ast.specs.declared.ts.ts.TsPatProp.{TsPatProp}
use Rattle.es_ast.specs.declared.ts.ts.TsPart.{TsPart}
use Rattle.es_ast.specs.declared.leaf.ImportNames.{ImportNames}
use Rattle.es_ast.specs.declared.leaf.ImportClause.{ImportClause}
use Rattle.es_ast.specs.declared.leaf.ImportClause.TheVariants as vClause
use Rattle.es_ast.specs.declared.leaf.ImportPhase.TheVariants as vPhase
use Rattle.es_ast.specs.declared.leaf.ImportSpecifier.{ImportSpecifier}
use Rattle.es_ast.specs.declared.leaf.ExportSpecifier.{ExportSpecifier}
use Rattle.es_ast.specs.declared.leaf.ImportAttributes.{ImportAttributes}
use Rattle.es_ast.specs.declared.ast.Program.{Program}
use Rattle.es_ast.specs.declared.ast.ModuleItem.{ModuleItem}
use Rattle.es_ast.specs.declared.ast.ModuleItem.TheVariants as vItem
use Rattle.es_ast.specs.declared.ast.ModuleDecl.{ModuleDecl}
use Rattle.es_ast.specs.declared.ast.Decl.{Decl}
use Rattle.es_ast.specs.declared.ast.Decl.TheVariants as vDecl
use Rattle.es_ast.specs.declared.ast.Stmt.{Stmt}
use Rattle.es_ast.specs.declared.ast.Stmt.TheVariants as vStmt
use Rattle.es_ast.specs.declared.ast.Expr.{Expr}
use Rattle.es_ast.specs.declared.ast.Expr.TheVariants as vExpr
use Rattle.es_ast.specs.declared.ast.Pat.{Pat}
use Rattle.es_ast.specs.declared.ast.Pat.TheVariants as vPat
use Rattle.es_ast.specs.declared.ast.ObjectPatProp.{ObjectPatProp}
use Rattle.es_ast.specs.declared.ast.Prop.{Prop}
use Rattle.es_ast.specs.declared.ast.Param.{Param}
use Rattle.es_ast.specs.declared.ast.VarDeclarator.{VarDeclarator}
use Rattle.es_ast.specs.declared.ast.ClassMember.{ClassMember}
use Rattle.es_ast.specs.declared.ast.ClassMember.TheVariants as vMember
use Rattle.es_grammar.specs.contracts.rows.NodeKind.{the_type}
use Rattle.es_grammar.specs.declared.rows.NodeKind.{NodeKind}
use Rattle.es_grammar.specs.declared.rows.NodeKind.TheVariants as l
use Rattle.es_grammar.specs.declared.cst.tree.Cst.{Cst}
use Rattle.es_grammar.specs.declared.cst.tree.Cst.TheOpen.{Cst-F}
use Rattle.es_grammar.specs.declared.cst.tree.Cst.TheFolds.{fold-Cst}
use Rattle.es_lowering.specs.Value.{Signature, Typed, Value, absent, nil, more, token, node, group, is_there}
use Rattle.es_lowering.specs.Texts.{span_of}
use Rattle.es_lowering.specs.Texts as texts
use Rattle.es_lowering.specs.Expressions as exprs
use Rattle.es_lowering.specs.Patterns as pats
use Rattle.es_lowering.specs.Functions as functions
use Rattle.es_lowering.specs.Classes as classes
use Rattle.es_lowering.specs.Statements as stmts
use Rattle.es_lowering.specs.Modules as modules
use Rattle.es_lowering.specs.TypedParts as parts
use Rattle.es_lowering.specs.TypedFunctions as typed
use Rattle.es_lowering.specs.TypedExpressions as typed_exprs
use Rattle.es_lowering.specs.TypedStatements as typed_stmts
use Rattle.es_lowering.specs.TypeNames as type_names
use Rattle.es_lowering.specs.TypePatterns as type_pats
use Rattle.es_lowering.specs.TypeMembers as type_members
use Rattle.es_lowering.specs.Types as types

-- the same alternative
abbrev pub same_label : NodeKind → NodeKind → Bool
same_label a b = sameb the_type a b

-- parts in a row
abbrev pub packed : List Value → Value
packed [] = nil
packed (v ∷ vs) = more v (packed vs)

module _ (x : List ℕ) (ts : List Token) where
  -- as an expression
  unfoldable pub expr_of : NodeKind → ℕ → Range → Value → Option Expr
  expr_of label from r p =
      if same_label label l.Name then exprs.name x ts p
      else (if same_label label l.Word then exprs.word ts r p
      else (if same_label label l.Number then exprs.number x ts p
      else (if same_label label l.Str then exprs.str x ts p
      else (if same_label label l.RegExp then exprs.regexp x ts p
      else (if same_label label l.Template then exprs.template x ts r p
      else (if same_label label l.TemplateParts then exprs.template_parts x ts r p
      else (if same_label label l.Parenthesized then exprs.parenthesized r p
      else (if same_label label l.ArrayLiteral then exprs.array_literal ts from r p
      else (if same_label label l.ObjectLiteral then exprs.object_literal r p
      else (if same_label label l.Spread then exprs.spread r p
      else (if same_label label l.Function then option_map vExpr.Fn (functions.function x ts false r p)
      else (if same_label label l.AsyncFunction then option_map vExpr.Fn (functions.function x ts true r p)
      else (if same_label label l.Class then option_map vExpr.Class (classes.class_ x ts r p)
      else (if same_label label l.Super then Some (vExpr.Super r)
      else (if same_label label l.ImportCall then exprs.import_call vPhase.Evaluation r p
      else (if same_label label l.SourceCall then exprs.import_call vPhase.Source r p
      else (if same_label label l.DeferCall then exprs.import_call vPhase.Defer r p
      else (if same_label label l.ImportMeta then Some (vExpr.ImportMeta r)
      else (if same_label label l.NewTarget then Some (vExpr.NewTarget r)
      else (if same_label label l.New then exprs.new_ r p
      else (if same_label label l.Chain then exprs.chain r p
      else (if same_label label l.UpdatePrefix then exprs.update_prefix ts r p
      else (if same_label label l.UpdatePostfix then exprs.update_postfix ts r p
      else (if same_label label l.UnaryExpression then exprs.prefix ts r p
      else (if same_label label l.AwaitExpression then exprs.await_ r p
      else (if same_label label l.Binary then exprs.binary ts r p
      else (if same_label label l.PrivateIn then exprs.private_in x ts r p
      else (if same_label label l.Conditional then exprs.conditional r p
      else (if same_label label l.Assignment then exprs.assignment ts r p
      else (if same_label label l.PatternAssignment then exprs.pattern_assignment r p
      else (if same_label label l.Yield then exprs.yield_ r p
      else (if same_label label l.NameArrow then functions.name_arrow x ts false r p
      else (if same_label label l.ParenthesizedArrow then functions.parenthesized_arrow ts false r p
      else (if same_label label l.AsyncNameArrow then functions.name_arrow x ts true r p
      else (if same_label label l.AsyncParenthesizedArrow then functions.parenthesized_arrow ts true r p
      else (if same_label label l.Sequence then exprs.sequence r p
      else (if same_label label l.TypedFunction then option_map vExpr.Fn (typed.typed_function x ts false r p)
      else (if same_label label l.TypedAsyncFunction then option_map vExpr.Fn (typed.typed_function x ts true r p)
      else (if same_label label l.TypedClass then option_map vExpr.Class (typed.typed_class x ts false r p)
      else (if same_label label l.AbstractClass then option_map vExpr.Class (typed.typed_class x ts true r p)
      else (if same_label label l.TypedNew then typed_exprs.typed_new r p
      else (if same_label label l.TypedBinary then typed_exprs.typed_binary ts r p
      else (if same_label label l.TypeAssertion then typed_exprs.type_assertion r p
      else (if same_label label l.TypedParenthesizedArrow then typed.typed_arrow ts false r p
      else (if same_label label l.TypedAsyncParenthesizedArrow then typed.typed_arrow ts true r p
      else None)))))))))))))))))))))))))))))))))))))))))))))

  -- as a pattern
  unfoldable pub pat_of : NodeKind → ℕ → Range → Value → Option Pat
  pat_of label from r p =
      if same_label label l.NamePattern then pats.name_pattern x ts p
      else (if same_label label l.ArrayPattern then pats.array_pattern ts from r p
      else (if same_label label l.ObjectPattern then pats.object_pattern r p
      else (if same_label label l.RestPattern then pats.rest_pattern r p
      else (if same_label label l.DefaultPattern then pats.default_pattern r p
      else None))))

  -- the same with `?` or not, and with a type behind it or not
  unfoldable pub marked_of : NodeKind → ℕ → Value → Option (Bool → Option TsPart → Range → Pat)
  marked_of label from p =
      if same_label label l.NamePattern then parts.marked_name x ts p
      else (if same_label label l.ArrayPattern then parts.marked_array ts from p
      else (if same_label label l.ObjectPattern then parts.marked_object p
      else None))

  -- as a declaration; variables without a `;` of their own stand in the head of a `for`
  unfoldable pub variables_of : NodeKind → Value → Option stmts.Variables
  variables_of label p =
      if same_label label l.Variables then stmts.variables ts p
      else (if same_label label l.Using then stmts.using_ p
      else None)

  -- behind `declare` or not
  unfoldable pub declarable_of : NodeKind → Range → Value → Option typed_stmts.Declarable
  declarable_of label r p =
      if same_label label l.TypedFunction then option_map (λ function declare span. vDecl.Fn declare function span) (typed.typed_function x ts false r p)
      else (if same_label label l.TypedAsyncFunction then option_map (λ function declare span. vDecl.Fn declare function span) (typed.typed_function x ts true r p)
      else (if same_label label l.TypedClass then option_map (λ class declare span. vDecl.Class declare class span) (typed.typed_class x ts false r p)
      else (if same_label label l.AbstractClass then option_map (λ class declare span. vDecl.Class declare class span) (typed.typed_class x ts true r p)
      else (if same_label label l.InterfaceDeclaration then typed_stmts.interface x ts p
      else (if same_label label l.AliasDeclaration then typed_stmts.alias x ts p
      else (if same_label label l.EnumDeclaration then typed_stmts.enum_ x ts p
      else (if same_label label l.NamespaceDeclaration then typed_stmts.namespace ts p
      else (if same_label label l.ModuleDeclaration then typed_stmts.module_namespace x ts p
      else (if same_label label l.GlobalDeclaration then typed_stmts.global p
      else None)))))))))

  unfoldable pub decl_of : NodeKind → Range → Value → Option Decl
  decl_of label r p =
      if same_label label l.Function then option_map (λ function. vDecl.Fn false function r) (functions.function x ts false r p)
      else (if same_label label l.AsyncFunction then option_map (λ function. vDecl.Fn false function r) (functions.function x ts true r p)
      else (if same_label label l.Class then option_map (λ class. vDecl.Class false class r) (classes.class_ x ts r p)
      else (if same_label label l.VariableDeclaration then stmts.variable_declaration r p
      else (if same_label label l.UsingDeclaration then stmts.variable_declaration r p
      else (if same_label label l.Variables then option_map (stmts.decl_of r) (stmts.variables ts p)
      else (if same_label label l.Using then option_map (stmts.decl_of r) (stmts.using_ p)
      else (if same_label label l.Declared then typed_stmts.declared r p
      else (if same_label label l.DeclaredVariables then typed_stmts.declared_variables r p
      else option_map (λ decl. decl false r) (declarable_of label r p)))))))))

  unfoldable pub block_of : NodeKind → Value → Option (List Stmt)
  block_of label p =
      if same_label label l.Block then stmts.block p
      else None

  -- as a statement
  unfoldable pub stmt_of : NodeKind → Range → Value → Option Stmt
  stmt_of label r p =
      if same_label label l.Block then option_map (λ stmts. vStmt.Block stmts r) (stmts.block p)
      else (if same_label label l.EmptyStatement then Some (vStmt.Empty r)
      else (if same_label label l.ExpressionStatement then stmts.expression_statement r p
      else (if same_label label l.LabelledStatement then stmts.labelled x ts r p
      else (if same_label label l.IfStatement then stmts.if_ r p
      else (if same_label label l.ForStatement then stmts.for_ ts r p
      else (if same_label label l.ForEachStatement then stmts.for_each ts r p
      else (if same_label label l.ForAwaitStatement then stmts.for_await r p
      else (if same_label label l.WhileStatement then stmts.while_ r p
      else (if same_label label l.DoStatement then stmts.do_ r p
      else (if same_label label l.ContinueStatement then stmts.continue_ x ts r p
      else (if same_label label l.BreakStatement then stmts.break_ x ts r p
      else (if same_label label l.ReturnStatement then stmts.return_ r p
      else (if same_label label l.ThrowStatement then stmts.throw_ r p
      else (if same_label label l.SwitchStatement then stmts.switch_ ts r p
      else (if same_label label l.TryStatement then stmts.try_ r p
      else (if same_label label l.DebuggerStatement then Some (vStmt.Debugger r)
      else (if same_label label l.WithStatement then stmts.with_ r p
      else (if same_label label l.TypedTryStatement then typed_stmts.typed_try ts r p
      else option_map vStmt.Decl (decl_of label r p)))))))))))))))))))

  -- a declarator or a parameter, which may be a pattern alone; a head, which may be a pattern that is assigned to
  unfoldable pub declarator_of : NodeKind → ℕ → Range → Value → Option VarDeclarator
  declarator_of label from r p =
      if same_label label l.Declarator then stmts.declarator r p
      else (if same_label label l.TypedDeclarator then typed_stmts.typed_declarator ts r p
      else option_map (stmts.declarator_of r None) (pat_of label from r p))

  unfoldable pub param_of : NodeKind → ℕ → Range → Value → Option Param
  param_of label from r p =
      if same_label label l.DefaultParameter then functions.default_parameter r p
      else (if same_label label l.ThisParameter then parts.this_parameter ts r p
      else (if same_label label l.PropertyParameter then parts.property_parameter ts r p
      else (if same_label label l.MarkedParameter then parts.marked_parameter ts r p
      else option_map (functions.param_of r) (pat_of label from r p))))

  unfoldable pub head_of : NodeKind → ℕ → Range → Value → Option stmts.Head
  head_of label from r p =
      if same_label label l.VariableHead then stmts.variable_head ts p
      else (if same_label label l.UsingHead then stmts.using_head x ts p
      else (if same_label label l.TypedVariableHead then typed_stmts.typed_head ts p
      else option_map (λ target. (None, target)) (pat_of label from r p)))

  unfoldable pub params_of : NodeKind → Value → Option (List Param)
  params_of label p =
      if same_label label l.Parameters then functions.parameters ts p
      else (if same_label label l.Signature then functions.signature p
      else (if same_label label l.TypedParameters then parts.typed_parameters ts p
      else None))

  unfoldable pub signature_of : NodeKind → Value → Option Signature
  signature_of label p =
      if same_label label l.TypedSignature then parts.typed_signature p
      else None

  unfoldable pub pat_prop_of : NodeKind → Range → Value → Option ObjectPatProp
  pat_prop_of label r p =
      if same_label label l.RestProperty then pats.rest_property r p
      else (if same_label label l.KeyPattern then pats.key_pattern ts r p
      else (if same_label label l.NameProperty then pats.name_property x ts r p
      else None))

  unfoldable pub key_of : NodeKind → Value → Option functions.Key
  key_of label p =
      if same_label label l.WordKey then functions.word_key x ts p
      else (if same_label label l.StrKey then functions.str_key x ts p
      else (if same_label label l.NumberKey then functions.number_key x ts p
      else (if same_label label l.ComputedKey then functions.computed_key p
      else (if same_label label l.PrivateKey then functions.private_key x ts p
      else None))))

  unfoldable pub prop_of : NodeKind → Range → Value → Option Prop
  prop_of label r p =
      if same_label label l.SpreadProperty then functions.spread_property r p
      else (if same_label label l.AccessorProperty then functions.accessor_property ts r p
      else (if same_label label l.AsyncProperty then functions.method_property ts vMethod.Method true (is_there (group p 0)) r p 1
      else (if same_label label l.GeneratorProperty then functions.method_property ts vMethod.Method false true r p 0
      else (if same_label label l.MethodProperty then functions.method_property ts vMethod.Method false false r p 0
      else (if same_label label l.KeyValue then functions.key_value r p
      else (if same_label label l.Shorthand then functions.shorthand x ts p
      else (if same_label label l.TypedAccessorProperty then typed.typed_accessor_property ts r p
      else (if same_label label l.TypedAsyncProperty then typed.typed_method_property ts vMethod.Method true (is_there (group p 0)) r p 1
      else (if same_label label l.TypedGeneratorProperty then typed.typed_method_property ts vMethod.Method false true r p 0
      else (if same_label label l.TypedMethodProperty then typed.typed_method_property ts vMethod.Method false false r p 0
      else None))))))))))

  unfoldable pub member_of : NodeKind → Range → Value → Option ClassMember
  member_of label r p =
      if same_label label l.EmptyMember then Some (vMember.Empty r)
      else (if same_label label l.StaticBlock then classes.static_block r p
      else (if same_label label l.AccessorMember then classes.accessor_member ts r p
      else (if same_label label l.AsyncMember then classes.method_member ts vMethod.Method true (is_there (group p 1)) r p 2
      else (if same_label label l.GeneratorMember then classes.method_member ts vMethod.Method false true r p 1
      else (if same_label label l.MethodMember then classes.method_member ts vMethod.Method false false r p 1
      else (if same_label label l.FieldMember then classes.field_member false r p
      else (if same_label label l.AccessorField then classes.field_member true r p
      else (if same_label label l.TypedAccessorMember then typed.typed_accessor_member ts r p
      else (if same_label label l.TypedAsyncMember then typed.typed_method_member ts vMethod.Method true (is_there (group p 1)) r p 2
      else (if same_label label l.TypedGeneratorMember then typed.typed_method_member ts vMethod.Method false true r p 1
      else (if same_label label l.TypedMethodMember then typed.typed_method_member ts vMethod.Method false false r p 1
      else (if same_label label l.TypedFieldMember then typed.typed_field ts false r p
      else (if same_label label l.TypedAccessorField then typed.typed_field ts true r p
      else (if same_label label l.IndexMember then typed.index_member x ts r p
      else None))))))))))))))

  unfoldable pub post_of : NodeKind → Range → Value → Option exprs.Post
  post_of label r p =
      if same_label label l.MemberPost then exprs.member_post x ts r p
      else (if same_label label l.IndexPost then exprs.index_post r p
      else (if same_label label l.CallPost then exprs.call_post r p
      else (if same_label label l.TemplatePost then exprs.template_post r p
      else (if same_label label l.OptionalPost then exprs.optional_post x ts r p
      else (if same_label label l.TypedCallPost then typed_exprs.typed_call_post r p
      else (if same_label label l.TypedTemplatePost then typed_exprs.typed_template_post r p
      else (if same_label label l.TypedOptionalPost then typed_exprs.typed_optional_post x ts r p
      else (if same_label label l.NonNullPost then typed_exprs.non_null_post r
      else None))))))))

  unfoldable pub args_of : NodeKind → Value → Option (List Expr)
  args_of label p =
      if same_label label l.Arguments then exprs.arguments ts p
      else None

  -- ---- of modules
  unfoldable pub names_of : NodeKind → Range → Value → Option ImportNames
  names_of label r p =
      if same_label label l.Namespace then modules.namespace x ts r p
      else (if same_label label l.NamedImports then modules.named_imports r p
      else None)

  unfoldable pub clause_of : NodeKind → Range → Value → Option ImportClause
  clause_of label r p =
      if same_label label l.DefaultClause then modules.default_clause x ts p
      else (if same_label label l.DefaultAndClause then modules.default_and_clause x ts r p
      else option_map vClause.Names (names_of label r p))

  unfoldable pub import_specifier_of : NodeKind → Range → Value → Option ImportSpecifier
  import_specifier_of label r p =
      if same_label label l.RenamedImport then modules.renamed_import x ts r p
      else (if same_label label l.ImportedName then modules.imported_name x ts r p
      else None)

  unfoldable pub export_specifier_of : NodeKind → Range → Value → Option ExportSpecifier
  export_specifier_of label r p =
      if same_label label l.ExportedName then modules.exported_name x ts r p
      else None

  unfoldable pub attributes_of : NodeKind → Range → Value → Option ImportAttributes
  attributes_of label r p =
      if same_label label l.Attributes then modules.attributes x ts r p
      else None

  unfoldable pub entity_of : NodeKind → Range → Value → Option TsEntityName
  entity_of label r p =
      if same_label label l.Entity then modules.entity x ts r p
      else (if same_label label l.EntityOfType then modules.entity x ts r p
      else None)

  unfoldable pub module_decl_of : NodeKind → Range → Value → Option ModuleDecl
  module_decl_of label r p =
      if same_label label l.BareImport then modules.bare_import x ts r p
      else (if same_label label l.FromImport then modules.from_import x ts r p
      else (if same_label label l.SourceImport then modules.phase_import x ts vPhase.Source r p
      else (if same_label label l.DeferImport then modules.phase_import x ts vPhase.Defer r p
      else (if same_label label l.RequireImport then modules.require_import x ts false r p
      else (if same_label label l.EntityImport then modules.entity_import x ts false r p
      else (if same_label label l.ExportedRequireImport then modules.require_import x ts true r p
      else (if same_label label l.ExportedEntityImport then modules.entity_import x ts true r p
      else (if same_label label l.ExportAll then modules.export_all x ts r p
      else (if same_label label l.ExportNames then modules.export_names x ts r p
      else (if same_label label l.ExportNamespace then modules.export_namespace x ts r p
      else (if same_label label l.ExportDefaultFunction then modules.export_default_decl r p
      else (if same_label label l.ExportDefaultClass then modules.export_default_decl r p
      else (if same_label label l.ExportDefaultExpression then modules.export_default_expression r p
      else (if same_label label l.ExportDeclaration then modules.export_declaration r p
      else (if same_label label l.ExportDefaultInterface then modules.export_default_decl r p
      else (if same_label label l.ExportAssignment then typed_stmts.export_assignment r p
      else None))))))))))))))))

  -- an item that is no import and no export is a statement
  abbrev pub item_by : Option ModuleDecl → Option Stmt → Option ModuleItem
  item_by (Some decl) stmt = Some (vItem.ModuleDecl decl)
  item_by None stmt = option_map vItem.Stmt stmt

  unfoldable pub program_of : NodeKind → Range → Value → Option Program
  program_of label r p =
      if same_label label l.Module then modules.module_ x ts r p
      else (if same_label label l.Script then modules.script x ts r p
      else None)

  -- ---- of types
  -- as a type, which the result of a function is too
  unfoldable pub type_of : NodeKind → Range → Value → Option TsType
  type_of label r p =
      if same_label label l.FunctionType then types.function_type r p
      else (if same_label label l.ConstructorType then types.constructor_type r p
      else (if same_label label l.ConditionalType then types.conditional_type r p
      else (if same_label label l.UnionType then types.union_type r p
      else (if same_label label l.LeadingUnionType then types.leading_union_type r p
      else (if same_label label l.IntersectionType then types.intersection_type r p
      else (if same_label label l.LeadingIntersectionType then types.leading_intersection_type r p
      else (if same_label label l.TypeOperator then types.type_operator ts r p
      else (if same_label label l.InferType then types.infer_type x ts r p
      else (if same_label label l.ArrayTypes then types.array_types ts r p
      else (if same_label label l.KeywordType then types.keyword_type ts r p
      else (if same_label label l.ThisType then Some (vType.This r)
      else (if same_label label l.WordType then types.word_type ts r p
      else (if same_label label l.StrType then types.str_type x ts p
      else (if same_label label l.NumberType then types.number_type x ts r p
      else (if same_label label l.TemplateType then types.template_type x ts r p
      else (if same_label label l.TemplateTypes then types.template_types x ts r p
      else (if same_label label l.TypeQuery then types.type_query r p
      else (if same_label label l.ParenthesizedType then types.parenthesized_type r p
      else (if same_label label l.MembersType then types.members_type r p
      else (if same_label label l.TupleType then types.tuple_type r p
      else (if same_label label l.MappedType then types.mapped_type x ts r p
      else (if same_label label l.Reference then type_names.reference r p
      else (if same_label label l.ImportType then type_names.import_type x ts r p
      else (if same_label label l.AssertsResult then types.asserts_result x ts r p
      else (if same_label label l.PredicateResult then types.predicate_result x ts r p
      else (if same_label label l.EntityOfType then option_map (type_names.named r) (modules.entity x ts r p)
      else None))))))))))))))))))))))))))

  unfoldable pub arguments_of : NodeKind → Range → Value → Option (Nodes TsType)
  arguments_of label r p =
      if same_label label l.TypeArguments then type_names.arguments r p
      else None

  unfoldable pub type_params_of : NodeKind → Range → Value → Option (Nodes TsTypeParam)
  type_params_of label r p =
      if same_label label l.TypeParameters then type_names.type_params x ts r p
      else None

  -- an element of a tuple, which may be a type alone
  unfoldable pub element_of : NodeKind → Range → Value → Option TsTupleElement
  element_of label r p =
      if same_label label l.RestElement then types.rest_element x ts r p
      else (if same_label label l.LabelledElement then types.labelled_element x ts r p
      else (if same_label label l.OptionalElement then types.optional_element r p
      else option_map (types.element_of r) (type_of label r p)))

  unfoldable pub type_member_of : NodeKind → Range → Value → Option TsTypeElement
  type_member_of label r p =
      if same_label label l.CallSignature then type_members.call_signature r p
      else (if same_label label l.ConstructSignature then type_members.construct_signature r p
      else (if same_label label l.IndexSignature then type_members.index_signature x ts r p
      else (if same_label label l.AccessorSignature then type_members.accessor_signature ts r p
      else (if same_label label l.MethodSignature then type_members.method_by vMethod.Method r p 0
      else (if same_label label l.PropertySignature then type_members.property_by false r p
      else (if same_label label l.ReadonlyProperty then type_members.property_by true r p
      else None))))))

  unfoldable pub type_key_of : NodeKind → Range → Value → Option TsKey
  type_key_of label r p =
      if same_label label l.WordKeyOfType then type_pats.word_key x ts p
      else (if same_label label l.StrKeyOfType then type_pats.str_key x ts p
      else (if same_label label l.NumberKeyOfType then type_pats.number_key x ts p
      else (if same_label label l.ComputedKeyOfType then type_members.computed_key x ts r p
      else (if same_label label l.WordPatternKey then type_pats.word_key x ts p
      else (if same_label label l.StrPatternKey then type_pats.str_key x ts p
      else (if same_label label l.NumberPatternKey then type_pats.number_key x ts p
      else None))))))

  unfoldable pub type_pat_of : NodeKind → ℕ → Range → Value → Option TsParamPat
  type_pat_of label from r p =
      if same_label label l.NamePatternOfType then type_pats.name_pattern x ts p
      else (if same_label label l.ArrayPatternOfType then type_pats.array_pattern ts from r p
      else (if same_label label l.ObjectPatternOfType then type_pats.object_pattern r p
      else (if same_label label l.RestPatternOfType then type_pats.rest_pattern r p
      else None)))

  -- the name of a pattern that is a name alone
  unfoldable pub type_name_of : NodeKind → Value → Option Ident
  type_name_of label p =
      if same_label label l.NamePatternOfType then texts.ident_at x ts p 0
      else None

  unfoldable pub type_prop_of : NodeKind → Range → Value → Option TsPatProp
  type_prop_of label r p =
      if same_label label l.RestPropertyOfType then type_pats.rest_property r p
      else (if same_label label l.KeyProperty then type_pats.key_property r p
      else (if same_label label l.NamePropertyOfType then type_pats.name_property x ts p
      else None))

  -- a parameter, which may be a pattern alone
  unfoldable pub fn_param_of : NodeKind → ℕ → Range → Value → Option TsFnParam
  fn_param_of label from r p =
      if same_label label l.ThisParameterOfType then type_pats.this_parameter ts r p
      else (if same_label label l.MarkedParameterOfType then type_pats.marked_parameter r p
      else option_map (type_pats.param_of r) (type_pat_of label from r p))

  unfoldable pub fn_params_of : NodeKind → Value → Option (List TsFnParam)
  fn_params_of label p =
      if same_label label l.ParametersOfType then type_pats.parameters ts p
      else None

  -- a name with arguments, or without
  unfoldable pub reference_of : NodeKind → Range → Value → Option (TsEntityName × Option (Nodes TsType))
  reference_of label r p =
      if same_label label l.Reference then type_names.named_reference p
      else (if same_label label l.EntityOfType then option_map (λ name. (name, None)) (modules.entity x ts r p)
      else None)

  -- all that a node is, from its alternative, its first token, its span and its parts
  unfoldable pub build : NodeKind → ℕ → Range → Value → Typed
  build label from r p = record {
    expr = expr_of label from r p;
    pat = pat_of label from r p;
    stmt = stmt_of label r p;
    decl = decl_of label r p;
    item = item_by (module_decl_of label r p) (stmt_of label r p);
    program = program_of label r p;
    block = block_of label p;
    variables = variables_of label p;
    declarator = declarator_of label from r p;
    head = head_of label from r p;
    param = param_of label from r p;
    params = params_of label p;
    pat_prop = pat_prop_of label r p;
    prop = prop_of label r p;
    member = member_of label r p;
    key = key_of label p;
    post = post_of label r p;
    args = args_of label p;
    clause = clause_of label r p;
    names = names_of label r p;
    import_specifier = import_specifier_of label r p;
    export_specifier = export_specifier_of label r p;
    attributes = attributes_of label r p;
    entity = entity_of label r p;
    marked = marked_of label from p;
    signature = signature_of label p;
    declarable = declarable_of label r p;
    ts_type = type_of label r p;
    reference = reference_of label r p;
    arguments = arguments_of label r p;
    type_params = type_params_of label r p;
    element = element_of label r p;
    type_member = type_member_of label r p;
    type_key = type_key_of label r p;
    fn_params = fn_params_of label p;
    fn_param = fn_param_of label from r p;
    type_pat = type_pat_of label from r p;
    type_name = type_name_of label p;
    type_prop = type_prop_of label r p;
  }

  -- a simple target of an assignment: an expression as a pattern
  abbrev pub target_of : Option Expr → Typed
  target_of target = record {
    expr = None;
    pat = option_map vPat.Expr target;
    stmt = None;
    decl = None;
    item = None;
    program = None;
    block = None;
    variables = None;
    declarator = None;
    head = option_map (λ target. (None, vPat.Expr target)) target;
    param = None;
    params = None;
    pat_prop = None;
    prop = None;
    member = None;
    key = None;
    post = None;
    args = None;
    clause = None;
    names = None;
    import_specifier = None;
    export_specifier = None;
    attributes = None;
    entity = None;
    marked = None;
    signature = None;
    declarable = None;
    ts_type = None;
    reference = None;
    arguments = None;
    type_params = None;
    element = None;
    type_member = None;
    type_key = None;
    fn_params = None;
    fn_param = None;
    type_pat = None;
    type_name = None;
    type_prop = None;
  }

  abbrev pub as_target : Value → Value
  as_target (node from to typed) = node from to (target_of typed.expr)
  as_target v = absent

  -- a tree, from what its parts are
  abbrev pub value_step : Cst-F Value → Value
  value_step (Cst-F.Leaf at) = token at
  value_step (Cst-F.Node label from to parts) = node from to (build label from (span_of ts from to) (packed parts))
  value_step (Cst-F.Role label tree) = as_target tree
  value_step (Cst-F.Parts parts) = packed parts

  -- what a plain tree is
  unfoldable pub value_of : Cst → Value
  value_of = fold-Cst Value value_step
