-- The places where a program names another module, as a walk of its finished tree.
use Rattle.std.specs.Prelude.{◌≡◌, ℕ, ◌≤◌, Bool, false, List, [], ◌∷◌, ◌++◌, length, map, slice_range, Option, Some, None}
use Rattle.std.specs.List.{flat_map}
use Rattle.base.specs.declared.range.Range.{Range}
use Rattle.es_literal.specs.Strings.{IsString}
use Rattle.es_literal.specs.Values.{value_of}
use Rattle.es_ast.specs.declared.ts.leaf.Str.{Str}
use Rattle.es_ast.specs.declared.leaf.ImportDecl.{ImportDecl}
use Rattle.es_ast.specs.declared.leaf.ImportPhase.{ImportPhase}
use Rattle.es_ast.specs.declared.leaf.ImportPhase.TheVariants as phase
use Rattle.es_ast.specs.declared.leaf.NamedExport.{NamedExport}
use Rattle.es_ast.specs.declared.leaf.ExportAll.{ExportAll}
use Rattle.es_ast.specs.declared.leaf.TsImportEqualsDecl.{TsImportEqualsDecl}
use Rattle.es_ast.specs.declared.leaf.TsModuleRef.{TsModuleRef}
use Rattle.es_ast.specs.declared.leaf.TsModuleRef.TheVariants.{TsEntityName, TsExternalModuleRef}
use Rattle.es_ast.specs.declared.leaf.Lit.TheVariants as vLit
use Rattle.es_ast.specs.declared.ast.Program.{Program}
use Rattle.es_ast.specs.declared.ast.Program.TheVariants as vProgram
use Rattle.es_ast.specs.declared.ast.ClassMember.{ClassMember}
use Rattle.es_ast.specs.declared.ast.Decl.{Decl}
use Rattle.es_ast.specs.declared.ast.Expr.{Expr}
use Rattle.es_ast.specs.declared.ast.ModuleDecl.{ModuleDecl}
use Rattle.es_ast.specs.declared.ast.ModuleItem.{ModuleItem}
use Rattle.es_ast.specs.declared.ast.ObjectPatProp.{ObjectPatProp}
use Rattle.es_ast.specs.declared.ast.Pat.{Pat}
use Rattle.es_ast.specs.declared.ast.Prop.{Prop}
use Rattle.es_ast.specs.declared.ast.Stmt.{Stmt}
use Rattle.es_ast.specs.declared.ast.Class.{Class}
use Rattle.es_ast.specs.declared.ast.Function.{Function}
use Rattle.es_ast.specs.declared.ast.Param.{Param}
use Rattle.es_ast.specs.declared.ast.SwitchCase.{SwitchCase}
use Rattle.es_ast.specs.declared.ast.TsEnumMember.{TsEnumMember}
use Rattle.es_ast.specs.declared.ast.VarDeclarator.{VarDeclarator}
use Rattle.es_ast.specs.declared.ast.Expr.{out-Expr}
use Rattle.es_ast.specs.declared.ast.ClassMember.TheOpen.{ClassMember-F, Decl-F, Expr-F, ModuleDecl-F, ModuleItem-F, ObjectPatProp-F, Pat-F, Prop-F, Stmt-F, Class-F, Function-F, Param-F, SwitchCase-F, TsEnumMember-F, VarDeclarator-F}
use Rattle.es_ast.specs.declared.ast.ClassMember.TheFolds.{para-ClassMember, para-Decl, para-Expr, para-ModuleDecl, para-ModuleItem, para-ObjectPatProp, para-Pat, para-Prop, para-Stmt, para-Class, para-Function, para-Param, para-SwitchCase, para-TsEnumMember, para-VarDeclarator}
use Rattle.es_site.specs.declared.site.Site.{Site}
use Rattle.es_site.specs.declared.site.Attribute.{Attribute}
use Rattle.es_site.specs.declared.site.Attribute.TheVariants.{Unknown}
use Rattle.es_site.specs.declared.site.DependencyKind.{DependencyKind}
use Rattle.es_site.specs.declared.site.DependencyKind.TheVariants as kind
use Rattle.es_site.specs.Attributes.{attribute_of, options_attribute}
use Rattle.es_site.specs.Parts.{Beside, ExprParts}

-- the range cuts from the text a string literal whose value is the value
abbrev pub CutsLiteral : List ℕ → Range → List ℕ → Type 0
CutsLiteral text range value =
    (range.start ≤ range.end)
    × (range.end ≤ length text)
    × IsString (slice_range text range.start range.end)
    × (value_of (slice_range text range.start range.end) ≡ value)

-- ---- the sites that a node is itself

abbrev pub Found : Type 0
Found = List Site

-- a string literal, with its quotes, that names a module
abbrev pub site_at : DependencyKind → Bool → Str → Attribute → Site
site_at kind type_only src attribute = record {
  kind = kind;
  type_only = type_only;
  range = src.span;
  value = src.value;
  attribute = attribute;
}

-- the kind of a site names its phase: of a declaration, and of a call
abbrev pub import_kind : ImportPhase → DependencyKind
import_kind phase.Evaluation = kind.Import
import_kind phase.Source = kind.ImportSource
import_kind phase.Defer = kind.ImportDefer

abbrev pub call_kind : ImportPhase → DependencyKind
call_kind phase.Evaluation = kind.Dynamic
call_kind phase.Source = kind.DynamicSource
call_kind phase.Defer = kind.DynamicDefer

-- `import .. from "a"`, in any phase (ECMA-262, ImportDeclaration)
abbrev pub import_site : ImportDecl → Found
import_site d = site_at (import_kind d.phase) d.type_only d.src (attribute_of d.with) ∷ []

-- `export * from "a"` (ECMA-262, ExportDeclaration)
abbrev pub export_all_site : ExportAll → Found
export_all_site d = site_at kind.Export d.type_only d.src (attribute_of d.with) ∷ []

-- `export { .. } from "a"`, which may have no `from`
abbrev pub export_site : Bool → Attribute → Option Str → Found
export_site type_only attribute (Some src) = site_at kind.Export type_only src attribute ∷ []
export_site type_only attribute None = []

abbrev pub named_export_sites : NamedExport → Found
named_export_sites d = export_site d.type_only (attribute_of d.with) d.src

-- `import a = require("a")`
abbrev pub module_ref_sites : Bool → TsModuleRef → Found
module_ref_sites type_only (TsExternalModuleRef src _) = site_at kind.ImportEquals type_only src Unknown ∷ []
module_ref_sites type_only (TsEntityName _) = []

abbrev pub import_equals_sites : TsImportEqualsDecl → Found
import_equals_sites d = module_ref_sites d.type_only d.module_ref

-- `import("a")`, in any phase, where the first argument is a string literal (ECMA-262, ImportCall)
abbrev pub first_argument : ImportPhase → ExprParts → List Expr → Found
first_argument p (Expr-F.Lit (vLit.Str src)) rest = site_at (call_kind p) false src (options_attribute rest) ∷ []
first_argument p _ rest = []

abbrev pub call_sites : ImportPhase → List Expr → Found
call_sites p (first ∷ rest) = first_argument p (out-Expr first) rest
call_sites p [] = []

-- ---- the sites of a node, from those of its parts, in the order of the text

-- the sites of parts that follow each other
abbrev pub each : {X : Type 0} → List (X × Found) → Found
each parts = flat_map (λ part. part.1) parts

-- the parts themselves
abbrev pub firsts : {X : Type 0} → List (X × Found) → List X
firsts parts = map (λ part. part.0) parts

-- the sites of a part that may be absent
abbrev pub if_there : {X : Type 0} → Option (X × Found) → Found
if_there (Some part) = part.1
if_there None = []

-- the sites of a `ClassMember`, from those of its parts
abbrev pub in_class_member : Beside Found ClassMember-F → Found
in_class_member (ClassMember-F.ClassMember::Empty _) = []
in_class_member (ClassMember-F.StaticBlock stmts _) = each stmts
in_class_member (ClassMember-F.TsIndexSignature _ _ _ _ _) = []
in_class_member (ClassMember-F.ClassMember::Method _ _ _ key _ function _) = key.1 ++ function.1
in_class_member (ClassMember-F.Prop _ _ key _ _ _ value _) = key.1 ++ if_there value

-- the sites of a `Decl`, from those of its parts
abbrev pub in_decl : Beside Found Decl-F → Found
in_decl (Decl-F.Decl::Class _ class _) = class.1
in_decl (Decl-F.Decl::Fn _ function _) = function.1
in_decl (Decl-F.Var _ _ decls _) = each decls
in_decl (Decl-F.TsInterface _ _ _ _ _ _) = []
in_decl (Decl-F.TsTypeAlias _ _ _ _ _) = []
in_decl (Decl-F.TsEnum _ _ _ members _) = each members
in_decl (Decl-F.TsNamespace _ _ _ body _) = each body
in_decl (Decl-F.TsModule _ _ _ body _) = each body
in_decl (Decl-F.TsGlobal _ body _) = each body

-- the sites of an `Expr`, from those of its parts
abbrev pub in_expr : Beside Found Expr-F → Found
in_expr (Expr-F.Expr::This _) = []
in_expr (Expr-F.Super _) = []
in_expr (Expr-F.Expr::Ident _) = []
in_expr (Expr-F.PrivateName _) = []
in_expr (Expr-F.Lit _) = []
in_expr (Expr-F.Expr::Hole _) = []
in_expr (Expr-F.Expr::Array elems _) = each elems
in_expr (Expr-F.Expr::Spread expr _) = expr.1
in_expr (Expr-F.Expr::Object props _) = each props
in_expr (Expr-F.Expr::Fn it) = it.1
in_expr (Expr-F.Expr::Class it) = it.1
in_expr (Expr-F.Arrow it) = it.1
in_expr (Expr-F.Paren expr _) = expr.1
in_expr (Expr-F.Unary _ arg _) = arg.1
in_expr (Expr-F.Update _ _ arg _) = arg.1
in_expr (Expr-F.Await arg _) = arg.1
in_expr (Expr-F.Yield _ arg _) = if_there arg
in_expr (Expr-F.Bin _ left right _) = left.1 ++ right.1
in_expr (Expr-F.Expr::Assign _ left right _) = left.1 ++ right.1
in_expr (Expr-F.Cond test cons alt _) = test.1 ++ cons.1 ++ alt.1
in_expr (Expr-F.Seq exprs _) = each exprs
in_expr (Expr-F.Member obj _ _ _ _) = obj.1
in_expr (Expr-F.Index obj _ prop _) = obj.1 ++ prop.1
in_expr (Expr-F.Call callee _ _ args _) = callee.1 ++ each args
in_expr (Expr-F.New callee _ _ args _) = callee.1 ++ each args
in_expr (Expr-F.ImportCall p args _) = call_sites p (firsts args) ++ each args
in_expr (Expr-F.ImportMeta _) = []
in_expr (Expr-F.NewTarget _) = []
in_expr (Expr-F.Tpl _ exprs _) = each exprs
in_expr (Expr-F.TaggedTpl tag _ tpl _) = tag.1 ++ tpl.1
in_expr (Expr-F.TsNonNull expr _) = expr.1
in_expr (Expr-F.TsAs expr _ _) = expr.1
in_expr (Expr-F.TsConstAssertion expr _) = expr.1
in_expr (Expr-F.TsSatisfies expr _ _) = expr.1

-- the sites of a `ModuleDecl`, from those of its parts
abbrev pub in_module_decl : Beside Found ModuleDecl-F → Found
in_module_decl (ModuleDecl-F.Import it) = import_site it
in_module_decl (ModuleDecl-F.ExportDecl decl _) = decl.1
in_module_decl (ModuleDecl-F.ExportNamed it) = named_export_sites it
in_module_decl (ModuleDecl-F.ExportDefaultDecl decl _) = decl.1
in_module_decl (ModuleDecl-F.ExportDefaultExpr expr _) = expr.1
in_module_decl (ModuleDecl-F.ExportAll it) = export_all_site it
in_module_decl (ModuleDecl-F.TsImportEquals it) = import_equals_sites it
in_module_decl (ModuleDecl-F.TsExportAssignment expr _) = expr.1
in_module_decl (ModuleDecl-F.TsNamespaceExport _) = []

-- the sites of a `ModuleItem`, from those of its parts
abbrev pub in_module_item : Beside Found ModuleItem-F → Found
in_module_item (ModuleItem-F.ModuleDecl it) = it.1
in_module_item (ModuleItem-F.Stmt it) = it.1

-- the sites of an `ObjectPatProp`, from those of its parts
abbrev pub in_object_pat_prop : Beside Found ObjectPatProp-F → Found
in_object_pat_prop (ObjectPatProp-F.ObjectPatProp::KeyValue _ key value _) = key.1 ++ value.1
in_object_pat_prop (ObjectPatProp-F.ObjectPatProp::Assign _ value _) = if_there value
in_object_pat_prop (ObjectPatProp-F.ObjectPatProp::Rest arg _) = arg.1

-- the sites of a `Pat`, from those of its parts
abbrev pub in_pat : Beside Found Pat-F → Found
in_pat (Pat-F.Pat::Ident _ _ _) = []
in_pat (Pat-F.Pat::This _ _) = []
in_pat (Pat-F.Pat::Hole _) = []
in_pat (Pat-F.Pat::Array elems _ _ _) = each elems
in_pat (Pat-F.Pat::Object props _ _ _) = each props
in_pat (Pat-F.Pat::Rest arg _ _) = arg.1
in_pat (Pat-F.Pat::Assign left right _) = left.1 ++ right.1
in_pat (Pat-F.Pat::Expr it) = it.1

-- the sites of a `Prop`, from those of its parts
abbrev pub in_prop : Beside Found Prop-F → Found
in_prop (Prop-F.Prop::Spread expr _) = expr.1
in_prop (Prop-F.Shorthand _) = []
in_prop (Prop-F.Prop::KeyValue _ key value _) = key.1 ++ value.1
in_prop (Prop-F.Prop::Method _ _ key function _) = key.1 ++ function.1

-- the sites of a `Stmt`, from those of its parts
abbrev pub in_stmt : Beside Found Stmt-F → Found
in_stmt (Stmt-F.Block stmts _) = each stmts
in_stmt (Stmt-F.Stmt::Empty _) = []
in_stmt (Stmt-F.Debugger _) = []
in_stmt (Stmt-F.With obj body _) = obj.1 ++ body.1
in_stmt (Stmt-F.Return arg _) = if_there arg
in_stmt (Stmt-F.Labeled _ body _) = body.1
in_stmt (Stmt-F.Break _ _) = []
in_stmt (Stmt-F.Continue _ _) = []
in_stmt (Stmt-F.If test cons alt _) = test.1 ++ cons.1 ++ if_there alt
in_stmt (Stmt-F.Switch discriminant cases _) = discriminant.1 ++ each cases
in_stmt (Stmt-F.Throw arg _) = arg.1
in_stmt (Stmt-F.Try block param handler finalizer _) = block.1 ++ if_there param ++ if_there handler ++ if_there finalizer
in_stmt (Stmt-F.While test body _) = test.1 ++ body.1
in_stmt (Stmt-F.DoWhile body test _) = body.1 ++ test.1
in_stmt (Stmt-F.For init test update body _) = if_there init ++ if_there test ++ if_there update ++ body.1
in_stmt (Stmt-F.ForIn _ left right body _) = left.1 ++ right.1 ++ body.1
in_stmt (Stmt-F.ForOf _ _ left right body _) = left.1 ++ right.1 ++ body.1
in_stmt (Stmt-F.Decl it) = it.1
in_stmt (Stmt-F.Stmt::Expr expr _) = expr.1

-- the sites of a `Class`, from those of its parts
abbrev pub in_class : Beside Found Class-F → Found
in_class it = if_there it.super_class ++ each it.body

-- the sites of a `Function`, from those of its parts
abbrev pub in_function : Beside Found Function-F → Found
in_function it = each it.params ++ if_there it.body

-- the sites of a `Param`, from those of its parts
abbrev pub in_param : Beside Found Param-F → Found
in_param it = it.pat.1

-- the sites of a `SwitchCase`, from those of its parts
abbrev pub in_switch_case : Beside Found SwitchCase-F → Found
in_switch_case it = if_there it.test ++ each it.cons

-- the sites of a `TsEnumMember`, from those of its parts
abbrev pub in_ts_enum_member : Beside Found TsEnumMember-F → Found
in_ts_enum_member it = it.id.1 ++ if_there it.init

-- the sites of a `VarDeclarator`, from those of its parts
abbrev pub in_var_declarator : Beside Found VarDeclarator-F → Found
in_var_declarator it = it.name.1 ++ if_there it.init

unfoldable pub sites_of_class_member : ClassMember → Found
sites_of_class_member = para-ClassMember Found Found Found Found Found Found Found Found Found Found Found Found Found Found Found
    in_class_member in_decl in_expr in_module_decl in_module_item in_object_pat_prop in_pat in_prop in_stmt in_class in_function
    in_param in_switch_case in_ts_enum_member in_var_declarator

unfoldable pub sites_of_decl : Decl → Found
sites_of_decl = para-Decl Found Found Found Found Found Found Found Found Found Found Found Found Found Found Found in_class_member
    in_decl in_expr in_module_decl in_module_item in_object_pat_prop in_pat in_prop in_stmt in_class in_function in_param
    in_switch_case in_ts_enum_member in_var_declarator

unfoldable pub sites_of_expr : Expr → Found
sites_of_expr = para-Expr Found Found Found Found Found Found Found Found Found Found Found Found Found Found Found in_class_member
    in_decl in_expr in_module_decl in_module_item in_object_pat_prop in_pat in_prop in_stmt in_class in_function in_param
    in_switch_case in_ts_enum_member in_var_declarator

unfoldable pub sites_of_module_decl : ModuleDecl → Found
sites_of_module_decl = para-ModuleDecl Found Found Found Found Found Found Found Found Found Found Found Found Found Found Found
    in_class_member in_decl in_expr in_module_decl in_module_item in_object_pat_prop in_pat in_prop in_stmt in_class in_function
    in_param in_switch_case in_ts_enum_member in_var_declarator

unfoldable pub sites_of_module_item : ModuleItem → Found
sites_of_module_item = para-ModuleItem Found Found Found Found Found Found Found Found Found Found Found Found Found Found Found
    in_class_member in_decl in_expr in_module_decl in_module_item in_object_pat_prop in_pat in_prop in_stmt in_class in_function
    in_param in_switch_case in_ts_enum_member in_var_declarator

unfoldable pub sites_of_object_pat_prop : ObjectPatProp → Found
sites_of_object_pat_prop = para-ObjectPatProp Found Found Found Found Found Found Found Found Found Found Found Found Found Found
    Found in_class_member in_decl in_expr in_module_decl in_module_item in_object_pat_prop in_pat in_prop in_stmt in_class
    in_function in_param in_switch_case in_ts_enum_member in_var_declarator

unfoldable pub sites_of_pat : Pat → Found
sites_of_pat = para-Pat Found Found Found Found Found Found Found Found Found Found Found Found Found Found Found in_class_member
    in_decl in_expr in_module_decl in_module_item in_object_pat_prop in_pat in_prop in_stmt in_class in_function in_param
    in_switch_case in_ts_enum_member in_var_declarator

unfoldable pub sites_of_prop : Prop → Found
sites_of_prop = para-Prop Found Found Found Found Found Found Found Found Found Found Found Found Found Found Found in_class_member
    in_decl in_expr in_module_decl in_module_item in_object_pat_prop in_pat in_prop in_stmt in_class in_function in_param
    in_switch_case in_ts_enum_member in_var_declarator

unfoldable pub sites_of_stmt : Stmt → Found
sites_of_stmt = para-Stmt Found Found Found Found Found Found Found Found Found Found Found Found Found Found Found in_class_member
    in_decl in_expr in_module_decl in_module_item in_object_pat_prop in_pat in_prop in_stmt in_class in_function in_param
    in_switch_case in_ts_enum_member in_var_declarator

unfoldable pub sites_of_class : Class → Found
sites_of_class = para-Class Found Found Found Found Found Found Found Found Found Found Found Found Found Found Found
    in_class_member in_decl in_expr in_module_decl in_module_item in_object_pat_prop in_pat in_prop in_stmt in_class in_function
    in_param in_switch_case in_ts_enum_member in_var_declarator

unfoldable pub sites_of_function : Function → Found
sites_of_function = para-Function Found Found Found Found Found Found Found Found Found Found Found Found Found Found Found
    in_class_member in_decl in_expr in_module_decl in_module_item in_object_pat_prop in_pat in_prop in_stmt in_class in_function
    in_param in_switch_case in_ts_enum_member in_var_declarator

unfoldable pub sites_of_param : Param → Found
sites_of_param = para-Param Found Found Found Found Found Found Found Found Found Found Found Found Found Found Found
    in_class_member in_decl in_expr in_module_decl in_module_item in_object_pat_prop in_pat in_prop in_stmt in_class in_function
    in_param in_switch_case in_ts_enum_member in_var_declarator

unfoldable pub sites_of_switch_case : SwitchCase → Found
sites_of_switch_case = para-SwitchCase Found Found Found Found Found Found Found Found Found Found Found Found Found Found Found
    in_class_member in_decl in_expr in_module_decl in_module_item in_object_pat_prop in_pat in_prop in_stmt in_class in_function
    in_param in_switch_case in_ts_enum_member in_var_declarator

unfoldable pub sites_of_ts_enum_member : TsEnumMember → Found
sites_of_ts_enum_member = para-TsEnumMember Found Found Found Found Found Found Found Found Found Found Found Found Found Found
    Found in_class_member in_decl in_expr in_module_decl in_module_item in_object_pat_prop in_pat in_prop in_stmt in_class
    in_function in_param in_switch_case in_ts_enum_member in_var_declarator

unfoldable pub sites_of_var_declarator : VarDeclarator → Found
sites_of_var_declarator = para-VarDeclarator Found Found Found Found Found Found Found Found Found Found Found Found Found Found
    Found in_class_member in_decl in_expr in_module_decl in_module_item in_object_pat_prop in_pat in_prop in_stmt in_class
    in_function in_param in_switch_case in_ts_enum_member in_var_declarator

-- the sites of a whole part, where it is there
abbrev pub if_some : {X : Type 0} → (X → Found) → Option X → Found
if_some sites (Some it) = sites it
if_some sites None = []

-- the sites of a program, in the order of the text
abbrev pub sites_of : Program → Found
sites_of (vProgram.Module m) = flat_map sites_of_module_item m.body
sites_of (vProgram.Script s) = flat_map sites_of_stmt s.body
