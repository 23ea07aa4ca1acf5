-- A node of a program, whose parts have moved.
use Rattle.std.specs.Prelude.{option_map, map}
use Rattle.es_ast.specs.declared.ast.ModuleItem.{ModuleItem}
use Rattle.es_ast.specs.declared.ast.ModuleItem.TheVariants as vModuleItem
use Rattle.es_ast.specs.declared.ast.ModuleDecl.{ModuleDecl}
use Rattle.es_ast.specs.declared.ast.ModuleDecl.TheVariants as vModuleDecl
use Rattle.es_ast.specs.declared.ast.Stmt.{Stmt}
use Rattle.es_ast.specs.declared.ast.Stmt.TheVariants as vStmt
use Rattle.es_ast.specs.declared.ast.Decl.{Decl}
use Rattle.es_ast.specs.declared.ast.Decl.TheVariants as vDecl
use Rattle.es_ast.specs.declared.ast.Expr.{Expr}
use Rattle.es_ast.specs.declared.ast.Expr.TheVariants as vExpr
use Rattle.es_ast.specs.declared.ast.Pat.{Pat}
use Rattle.es_ast.specs.declared.ast.Pat.TheVariants as vPat
use Rattle.es_ast.specs.declared.ast.ObjectPatProp.{ObjectPatProp}
use Rattle.es_ast.specs.declared.ast.ObjectPatProp.TheVariants as vObjectPatProp
use Rattle.es_ast.specs.declared.ast.Prop.{Prop}
use Rattle.es_ast.specs.declared.ast.Prop.TheVariants as vProp
use Rattle.es_ast.specs.declared.ast.Function.{Function, roll-Function}
use Rattle.es_ast.specs.declared.ast.Param.{Param, roll-Param}
use Rattle.es_ast.specs.declared.ast.VarDeclarator.{VarDeclarator, roll-VarDeclarator}
use Rattle.es_ast.specs.declared.ast.SwitchCase.{SwitchCase, roll-SwitchCase}
use Rattle.es_ast.specs.declared.ast.TsEnumMember.{TsEnumMember, roll-TsEnumMember}
use Rattle.es_ast.specs.declared.ast.Class.{Class, roll-Class}
use Rattle.es_ast.specs.declared.ast.ClassMember.{ClassMember}
use Rattle.es_ast.specs.declared.ast.ClassMember.TheVariants as vClassMember
use Rattle.es_ast.specs.declared.ast.ClassMember.TheOpen.{ClassMember-F, Decl-F, Expr-F, ModuleDecl-F, ModuleItem-F, ObjectPatProp-F, Pat-F, Prop-F, Stmt-F, Class-F, Function-F, Param-F, SwitchCase-F, TsEnumMember-F, VarDeclarator-F}
use Rattle.es_law_edits.specs.moved.Move.{Move, range_to}
use Rattle.es_law_edits.specs.moved.Leaves.{ident_to, str_to, tpl_element_to, ts_entity_name_to}
use Rattle.es_law_edits.specs.moved.Types.{ts_part_to}
use Rattle.es_law_edits.specs.moved.ModuleLeaves.{lit_to, import_decl_to, named_export_to, export_all_to, ts_import_equals_decl_to, ts_namespace_export_decl_to}

-- a node of this kind, whose parts have moved
abbrev pub Moved : (Type 0 → Type 0 → Type 0 → Type 0 → Type 0 → Type 0 → Type 0 → Type 0 → Type 0 → Type 0 → Type 0
    → Type 0 → Type 0 → Type 0 → Type 0 → Type 0) → Type 0
Moved K = K ClassMember Decl Expr ModuleDecl ModuleItem ObjectPatProp Pat Prop Stmt Class Function Param SwitchCase
    TsEnumMember VarDeclarator

abbrev pub in_class_member : Move → Moved ClassMember-F → ClassMember
in_class_member m (ClassMember-F.ClassMember::Empty span) = vClassMember.Empty (range_to m span)
in_class_member m (ClassMember-F.StaticBlock stmts span) = vClassMember.StaticBlock stmts (range_to m span)
in_class_member m (ClassMember-F.TsIndexSignature modifiers name of type_ann span) = vClassMember.TsIndexSignature
    modifiers (ident_to m name) (option_map (ts_part_to m) of) (option_map (ts_part_to m) type_ann)
    (range_to m span)
in_class_member m (ClassMember-F.ClassMember::Method modifiers kind computed key optional function
    span) = vClassMember.Method modifiers kind computed key optional function (range_to m span)
in_class_member m (ClassMember-F.Prop modifiers computed key optional definite type_ann value
    span) = vClassMember.Prop modifiers computed key optional definite (option_map (ts_part_to m) type_ann) value
    (range_to m span)

abbrev pub in_decl : Move → Moved Decl-F → Decl
in_decl m (Decl-F.Decl::Class declare class span) = vDecl.Class declare class (range_to m span)
in_decl m (Decl-F.Decl::Fn declare function span) = vDecl.Fn declare function (range_to m span)
in_decl m (Decl-F.Var declare kind decls span) = vDecl.Var declare kind decls (range_to m span)
in_decl m (Decl-F.TsInterface declare id type_params extends body span) = vDecl.TsInterface declare (ident_to m id)
    (option_map (ts_part_to m) type_params) (option_map (ts_part_to m) extends) (option_map (ts_part_to m) body)
    (range_to m span)
in_decl m (Decl-F.TsTypeAlias declare id type_params type_ann span) = vDecl.TsTypeAlias declare (ident_to m id)
    (option_map (ts_part_to m) type_params) (option_map (ts_part_to m) type_ann) (range_to m span)
in_decl m (Decl-F.TsEnum declare is_const id members span) = vDecl.TsEnum declare is_const (ident_to m id) members
    (range_to m span)
in_decl m (Decl-F.TsNamespace declare is_module id body span) = vDecl.TsNamespace declare is_module
    (ts_entity_name_to m id) body (range_to m span)
in_decl m (Decl-F.TsModule declare id has_body body span) = vDecl.TsModule declare (str_to m id) has_body body
    (range_to m span)
in_decl m (Decl-F.TsGlobal declare body span) = vDecl.TsGlobal declare body (range_to m span)

abbrev pub in_expr : Move → Moved Expr-F → Expr
in_expr m (Expr-F.Expr::This span) = vExpr.This (range_to m span)
in_expr m (Expr-F.Super span) = vExpr.Super (range_to m span)
in_expr m (Expr-F.Expr::Ident ident) = vExpr.Ident (ident_to m ident)
in_expr m (Expr-F.PrivateName ident) = vExpr.PrivateName (ident_to m ident)
in_expr m (Expr-F.Lit lit) = vExpr.Lit (lit_to m lit)
in_expr m (Expr-F.Expr::Hole span) = vExpr.Hole (range_to m span)
in_expr m (Expr-F.Expr::Array elems span) = vExpr.Array elems (range_to m span)
in_expr m (Expr-F.Expr::Spread expr span) = vExpr.Spread expr (range_to m span)
in_expr m (Expr-F.Expr::Object props span) = vExpr.Object props (range_to m span)
in_expr m (Expr-F.Expr::Fn function) = vExpr.Fn function
in_expr m (Expr-F.Expr::Class class) = vExpr.Class class
in_expr m (Expr-F.Arrow function) = vExpr.Arrow function
in_expr m (Expr-F.Paren expr span) = vExpr.Paren expr (range_to m span)
in_expr m (Expr-F.Unary op arg span) = vExpr.Unary op arg (range_to m span)
in_expr m (Expr-F.Update op prefix arg span) = vExpr.Update op prefix arg (range_to m span)
in_expr m (Expr-F.Await arg span) = vExpr.Await arg (range_to m span)
in_expr m (Expr-F.Yield delegate arg span) = vExpr.Yield delegate arg (range_to m span)
in_expr m (Expr-F.Bin op left right span) = vExpr.Bin op left right (range_to m span)
in_expr m (Expr-F.Expr::Assign op left right span) = vExpr.Assign op left right (range_to m span)
in_expr m (Expr-F.Cond test cons alt span) = vExpr.Cond test cons alt (range_to m span)
in_expr m (Expr-F.Seq exprs span) = vExpr.Seq exprs (range_to m span)
in_expr m (Expr-F.Member obj optional is_private prop span) = vExpr.Member obj optional is_private (ident_to m prop)
    (range_to m span)
in_expr m (Expr-F.Index obj optional prop span) = vExpr.Index obj optional prop (range_to m span)
in_expr m (Expr-F.Call callee optional type_args args span) = vExpr.Call callee optional
    (option_map (ts_part_to m) type_args) args (range_to m span)
in_expr m (Expr-F.New callee type_args has_args args span) = vExpr.New callee (option_map (ts_part_to m) type_args)
    has_args args (range_to m span)
in_expr m (Expr-F.ImportCall phase args span) = vExpr.ImportCall phase args (range_to m span)
in_expr m (Expr-F.ImportMeta span) = vExpr.ImportMeta (range_to m span)
in_expr m (Expr-F.NewTarget span) = vExpr.NewTarget (range_to m span)
in_expr m (Expr-F.Tpl quasis exprs span) = vExpr.Tpl (map (tpl_element_to m) quasis) exprs (range_to m span)
in_expr m (Expr-F.TaggedTpl tag type_args tpl span) = vExpr.TaggedTpl tag (option_map (ts_part_to m) type_args) tpl
    (range_to m span)
in_expr m (Expr-F.TsNonNull expr span) = vExpr.TsNonNull expr (range_to m span)
in_expr m (Expr-F.TsAs expr type_ann span) = vExpr.TsAs expr (option_map (ts_part_to m) type_ann) (range_to m span)
in_expr m (Expr-F.TsConstAssertion expr span) = vExpr.TsConstAssertion expr (range_to m span)
in_expr m (Expr-F.TsSatisfies expr type_ann span) = vExpr.TsSatisfies expr (option_map (ts_part_to m) type_ann)
    (range_to m span)

abbrev pub in_module_decl : Move → Moved ModuleDecl-F → ModuleDecl
in_module_decl m (ModuleDecl-F.Import import_decl) = vModuleDecl.Import (import_decl_to m import_decl)
in_module_decl m (ModuleDecl-F.ExportDecl decl span) = vModuleDecl.ExportDecl decl (range_to m span)
in_module_decl m (ModuleDecl-F.ExportNamed named_export) = vModuleDecl.ExportNamed (named_export_to m named_export)
in_module_decl m (ModuleDecl-F.ExportDefaultDecl decl span) = vModuleDecl.ExportDefaultDecl decl (range_to m span)
in_module_decl m (ModuleDecl-F.ExportDefaultExpr expr span) = vModuleDecl.ExportDefaultExpr expr (range_to m span)
in_module_decl m (ModuleDecl-F.ExportAll export_all) = vModuleDecl.ExportAll (export_all_to m export_all)
in_module_decl m (ModuleDecl-F.TsImportEquals ts_import_equals_decl) = vModuleDecl.TsImportEquals
    (ts_import_equals_decl_to m ts_import_equals_decl)
in_module_decl m (ModuleDecl-F.TsExportAssignment expr span) = vModuleDecl.TsExportAssignment expr (range_to m span)
in_module_decl m (ModuleDecl-F.TsNamespaceExport ts_namespace_export_decl) = vModuleDecl.TsNamespaceExport
    (ts_namespace_export_decl_to m ts_namespace_export_decl)

abbrev pub in_module_item : Move → Moved ModuleItem-F → ModuleItem
in_module_item m (ModuleItem-F.ModuleDecl module_decl) = vModuleItem.ModuleDecl module_decl
in_module_item m (ModuleItem-F.Stmt stmt) = vModuleItem.Stmt stmt

abbrev pub in_object_pat_prop : Move → Moved ObjectPatProp-F → ObjectPatProp
in_object_pat_prop m (ObjectPatProp-F.ObjectPatProp::KeyValue computed key value span) = vObjectPatProp.KeyValue
    computed key value (range_to m span)
in_object_pat_prop m (ObjectPatProp-F.ObjectPatProp::Assign key value span) = vObjectPatProp.Assign (ident_to m key)
    value (range_to m span)
in_object_pat_prop m (ObjectPatProp-F.ObjectPatProp::Rest arg span) = vObjectPatProp.Rest arg (range_to m span)

abbrev pub in_pat : Move → Moved Pat-F → Pat
in_pat m (Pat-F.Pat::Ident id type_ann span) = vPat.Ident (ident_to m id) (option_map (ts_part_to m) type_ann)
    (range_to m span)
in_pat m (Pat-F.Pat::This type_ann span) = vPat.This (option_map (ts_part_to m) type_ann) (range_to m span)
in_pat m (Pat-F.Pat::Hole span) = vPat.Hole (range_to m span)
in_pat m (Pat-F.Pat::Array elems optional type_ann span) = vPat.Array elems optional
    (option_map (ts_part_to m) type_ann) (range_to m span)
in_pat m (Pat-F.Pat::Object props optional type_ann span) = vPat.Object props optional
    (option_map (ts_part_to m) type_ann) (range_to m span)
in_pat m (Pat-F.Pat::Rest arg type_ann span) = vPat.Rest arg (option_map (ts_part_to m) type_ann) (range_to m span)
in_pat m (Pat-F.Pat::Assign left right span) = vPat.Assign left right (range_to m span)
in_pat m (Pat-F.Pat::Expr expr) = vPat.Expr expr

abbrev pub in_prop : Move → Moved Prop-F → Prop
in_prop m (Prop-F.Prop::Spread expr span) = vProp.Spread expr (range_to m span)
in_prop m (Prop-F.Shorthand ident) = vProp.Shorthand (ident_to m ident)
in_prop m (Prop-F.Prop::KeyValue computed key value span) = vProp.KeyValue computed key value (range_to m span)
in_prop m (Prop-F.Prop::Method kind computed key function span) = vProp.Method kind computed key function
    (range_to m span)

abbrev pub in_stmt : Move → Moved Stmt-F → Stmt
in_stmt m (Stmt-F.Block stmts span) = vStmt.Block stmts (range_to m span)
in_stmt m (Stmt-F.Stmt::Empty span) = vStmt.Empty (range_to m span)
in_stmt m (Stmt-F.Debugger span) = vStmt.Debugger (range_to m span)
in_stmt m (Stmt-F.With obj body span) = vStmt.With obj body (range_to m span)
in_stmt m (Stmt-F.Return arg span) = vStmt.Return arg (range_to m span)
in_stmt m (Stmt-F.Labeled label body span) = vStmt.Labeled (ident_to m label) body (range_to m span)
in_stmt m (Stmt-F.Break label span) = vStmt.Break (option_map (ident_to m) label) (range_to m span)
in_stmt m (Stmt-F.Continue label span) = vStmt.Continue (option_map (ident_to m) label) (range_to m span)
in_stmt m (Stmt-F.If test cons alt span) = vStmt.If test cons alt (range_to m span)
in_stmt m (Stmt-F.Switch discriminant cases span) = vStmt.Switch discriminant cases (range_to m span)
in_stmt m (Stmt-F.Throw arg span) = vStmt.Throw arg (range_to m span)
in_stmt m (Stmt-F.Try block param handler finalizer span) = vStmt.Try block param handler finalizer
    (range_to m span)
in_stmt m (Stmt-F.While test body span) = vStmt.While test body (range_to m span)
in_stmt m (Stmt-F.DoWhile body test span) = vStmt.DoWhile body test (range_to m span)
in_stmt m (Stmt-F.For init test update body span) = vStmt.For init test update body (range_to m span)
in_stmt m (Stmt-F.ForIn kind left right body span) = vStmt.ForIn kind left right body (range_to m span)
in_stmt m (Stmt-F.ForOf is_await kind left right body span) = vStmt.ForOf is_await kind left right body
    (range_to m span)
in_stmt m (Stmt-F.Decl decl) = vStmt.Decl decl
in_stmt m (Stmt-F.Stmt::Expr expr span) = vStmt.Expr expr (range_to m span)

abbrev pub in_class : Move → Moved Class-F → Class
in_class m it = roll-Class (record {
  ident = option_map (ident_to m) it.ident;
  is_abstract = it.is_abstract;
  type_params = option_map (ts_part_to m) it.type_params;
  super_class = it.super_class;
  super_type_args = option_map (ts_part_to m) it.super_type_args;
  implements = option_map (ts_part_to m) it.implements;
  body = it.body;
  span = range_to m it.span;
})

abbrev pub in_function : Move → Moved Function-F → Function
in_function m it = roll-Function (record {
  ident = option_map (ident_to m) it.ident;
  is_async = it.is_async;
  is_generator = it.is_generator;
  type_params = option_map (ts_part_to m) it.type_params;
  params = it.params;
  return_type = option_map (ts_part_to m) it.return_type;
  body = it.body;
  span = range_to m it.span;
})

abbrev pub in_param : Move → Moved Param-F → Param
in_param m it = roll-Param (record {
  modifiers = it.modifiers;
  pat = it.pat;
  span = range_to m it.span;
})

abbrev pub in_switch_case : Move → Moved SwitchCase-F → SwitchCase
in_switch_case m it = roll-SwitchCase (record {
  test = it.test;
  cons = it.cons;
  span = range_to m it.span;
})

abbrev pub in_ts_enum_member : Move → Moved TsEnumMember-F → TsEnumMember
in_ts_enum_member m it = roll-TsEnumMember (record {
  computed = it.computed;
  id = it.id;
  init = it.init;
  span = range_to m it.span;
})

abbrev pub in_var_declarator : Move → Moved VarDeclarator-F → VarDeclarator
in_var_declarator m it = roll-VarDeclarator (record {
  name = it.name;
  definite = it.definite;
  init = it.init;
  span = range_to m it.span;
})
