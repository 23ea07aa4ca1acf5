-- The facts of a program that tell what it exports as a module of CommonJS, in the order of the text: a node before its parts.
use Rattle.std.specs.Prelude.{ℕ, Bool, true, false, List, [], ◌∷◌, ◌++◌, map, Option, Some, None}
use Rattle.std.specs.List.{flat_map}
use Rattle.es_ast.specs.declared.leaf.AssignOp.{AssignOp}
use Rattle.es_ast.specs.declared.leaf.AssignOp.TheVariants as vAssign
use Rattle.es_ast.specs.declared.leaf.VarDeclKind.{VarDeclKind}
use Rattle.es_ast.specs.declared.leaf.VarDeclKind.TheVariants as vKind
use Rattle.es_ast.specs.declared.ast.Program.{Program}
use Rattle.es_ast.specs.declared.ast.Program.TheVariants as vProgram
use Rattle.es_ast.specs.declared.ast.ClassMember.{ClassMember}
use Rattle.es_ast.specs.declared.ast.Decl.{Decl}
use Rattle.es_ast.specs.declared.ast.Expr.{Expr}
use Rattle.es_ast.specs.declared.ast.ModuleDecl.{ModuleDecl}
use Rattle.es_ast.specs.declared.ast.ModuleItem.{ModuleItem}
use Rattle.es_ast.specs.declared.ast.ObjectPatProp.{ObjectPatProp}
use Rattle.es_ast.specs.declared.ast.Pat.{Pat}
use Rattle.es_ast.specs.declared.ast.Prop.{Prop}
use Rattle.es_ast.specs.declared.ast.Stmt.{Stmt}
use Rattle.es_ast.specs.declared.ast.Class.{Class}
use Rattle.es_ast.specs.declared.ast.Function.{Function}
use Rattle.es_ast.specs.declared.ast.Param.{Param}
use Rattle.es_ast.specs.declared.ast.SwitchCase.{SwitchCase}
use Rattle.es_ast.specs.declared.ast.TsEnumMember.{TsEnumMember}
use Rattle.es_ast.specs.declared.ast.VarDeclarator.{VarDeclarator}
use Rattle.es_ast.specs.declared.ast.ClassMember.TheOpen.{ClassMember-F, Decl-F, Expr-F, ModuleDecl-F, ModuleItem-F, ObjectPatProp-F, Pat-F, Prop-F, Stmt-F, Class-F, Function-F, Param-F, SwitchCase-F, TsEnumMember-F, VarDeclarator-F}
use Rattle.es_ast.specs.declared.ast.ClassMember.TheFolds.{para-ClassMember, para-Decl, para-Expr, para-ModuleDecl, para-ModuleItem, para-ObjectPatProp, para-Pat, para-Prop, para-Stmt, para-Class, para-Function, para-Param, para-SwitchCase, para-TsEnumMember, para-VarDeclarator}
use Rattle.es_site.specs.Parts.{Beside}

pub data Fact : Type 0 where
  -- a declarator of `var`, `let` or `const`
  Bound : VarDeclarator → Fact
  -- a call that is no `a?.()`: the callee and the arguments
  Called : Expr → List Expr → Fact
  -- `a = b`
  Assigned : Pat → Expr → Fact

abbrev pub Facts : Type 0
Facts = List Fact

-- ---- the facts that a node is itself

-- all declarators, before the parts of any
abbrev pub bound_facts : VarDeclKind → List VarDeclarator → Facts
bound_facts vKind.Using decls = []
bound_facts vKind.AwaitUsing decls = []
bound_facts _ decls = map Bound decls

abbrev pub called_facts : Bool → Expr → List Expr → Facts
called_facts false callee args = Called callee args ∷ []
called_facts true callee args = []

-- a compound assignment is passed over whole
abbrev pub assigned_facts : AssignOp → Pat → Expr → Facts → Facts
assigned_facts vAssign.Assign left right parts = Assigned left right ∷ parts
assigned_facts _ left right parts = []

-- the facts of a node, from those of its parts, in the order of the text

-- the facts of parts that follow each other
abbrev pub each : {X : Type 0} → List (X × Facts) → Facts
each parts = flat_map (λ part. part.1) parts

-- the parts themselves
abbrev pub firsts : {X : Type 0} → List (X × Facts) → List X
firsts parts = map (λ part. part.0) parts

-- the facts of a part that may be absent
abbrev pub if_there : {X : Type 0} → Option (X × Facts) → Facts
if_there (Some part) = part.1
if_there None = []

-- the facts of a `ClassMember`, from those of its parts
abbrev pub in_class_member : Beside Facts ClassMember-F → Facts
in_class_member (ClassMember-F.ClassMember::Empty _) = []
in_class_member (ClassMember-F.StaticBlock stmts _) = each stmts
in_class_member (ClassMember-F.TsIndexSignature _ _ _ _ _) = []
in_class_member (ClassMember-F.ClassMember::Method _ _ _ key _ function _) = key.1 ++ function.1
in_class_member (ClassMember-F.Prop _ _ key _ _ _ value _) = key.1 ++ if_there value

-- the facts of a `Decl`, from those of its parts
abbrev pub in_decl : Beside Facts Decl-F → Facts
in_decl (Decl-F.Decl::Class _ class _) = class.1
in_decl (Decl-F.Decl::Fn _ function _) = function.1
in_decl (Decl-F.Var _ kind decls _) = bound_facts kind (firsts decls) ++ each decls
in_decl (Decl-F.TsInterface _ _ _ _ _ _) = []
in_decl (Decl-F.TsTypeAlias _ _ _ _ _) = []
in_decl (Decl-F.TsEnum _ _ _ members _) = each members
in_decl (Decl-F.TsNamespace _ _ _ body _) = each body
in_decl (Decl-F.TsModule _ _ _ body _) = each body
in_decl (Decl-F.TsGlobal _ body _) = each body

-- the facts of an `Expr`, from those of its parts
abbrev pub in_expr : Beside Facts Expr-F → Facts
in_expr (Expr-F.Expr::This _) = []
in_expr (Expr-F.Super _) = []
in_expr (Expr-F.Expr::Ident _) = []
in_expr (Expr-F.PrivateName _) = []
in_expr (Expr-F.Lit _) = []
in_expr (Expr-F.Expr::Hole _) = []
in_expr (Expr-F.Expr::Array elems _) = each elems
in_expr (Expr-F.Expr::Spread expr _) = expr.1
in_expr (Expr-F.Expr::Object props _) = each props
in_expr (Expr-F.Expr::Fn it) = it.1
in_expr (Expr-F.Expr::Class it) = it.1
in_expr (Expr-F.Arrow it) = it.1
in_expr (Expr-F.Paren expr _) = expr.1
in_expr (Expr-F.Unary _ arg _) = arg.1
in_expr (Expr-F.Update _ _ arg _) = arg.1
in_expr (Expr-F.Await arg _) = arg.1
in_expr (Expr-F.Yield _ arg _) = if_there arg
in_expr (Expr-F.Bin _ left right _) = left.1 ++ right.1
in_expr (Expr-F.Expr::Assign op left right _) = assigned_facts op left.0 right.0 (left.1 ++ right.1)
in_expr (Expr-F.Cond test cons alt _) = test.1 ++ cons.1 ++ alt.1
in_expr (Expr-F.Seq exprs _) = each exprs
in_expr (Expr-F.Member obj _ _ _ _) = obj.1
in_expr (Expr-F.Index obj _ prop _) = obj.1 ++ prop.1
in_expr (Expr-F.Call callee optional _ args _) =
    called_facts optional callee.0 (firsts args) ++ callee.1 ++ each args
in_expr (Expr-F.New callee _ _ args _) = callee.1 ++ each args
in_expr (Expr-F.ImportCall _ args _) = each args
in_expr (Expr-F.ImportMeta _) = []
in_expr (Expr-F.NewTarget _) = []
in_expr (Expr-F.Tpl _ exprs _) = each exprs
in_expr (Expr-F.TaggedTpl tag _ tpl _) = tag.1 ++ tpl.1
in_expr (Expr-F.TsNonNull expr _) = expr.1
in_expr (Expr-F.TsAs expr _ _) = expr.1
in_expr (Expr-F.TsConstAssertion expr _) = expr.1
in_expr (Expr-F.TsSatisfies expr _ _) = expr.1

-- the facts of a `ModuleDecl`, from those of its parts
abbrev pub in_module_decl : Beside Facts ModuleDecl-F → Facts
in_module_decl (ModuleDecl-F.Import _) = []
in_module_decl (ModuleDecl-F.ExportDecl decl _) = decl.1
in_module_decl (ModuleDecl-F.ExportNamed _) = []
in_module_decl (ModuleDecl-F.ExportDefaultDecl decl _) = decl.1
in_module_decl (ModuleDecl-F.ExportDefaultExpr expr _) = expr.1
in_module_decl (ModuleDecl-F.ExportAll _) = []
in_module_decl (ModuleDecl-F.TsImportEquals _) = []
in_module_decl (ModuleDecl-F.TsExportAssignment expr _) = expr.1
in_module_decl (ModuleDecl-F.TsNamespaceExport _) = []

-- the facts of a `ModuleItem`, from those of its parts
abbrev pub in_module_item : Beside Facts ModuleItem-F → Facts
in_module_item (ModuleItem-F.ModuleDecl it) = it.1
in_module_item (ModuleItem-F.Stmt it) = it.1

-- the facts of an `ObjectPatProp`, from those of its parts
abbrev pub in_object_pat_prop : Beside Facts ObjectPatProp-F → Facts
in_object_pat_prop (ObjectPatProp-F.ObjectPatProp::KeyValue _ key value _) = key.1 ++ value.1
in_object_pat_prop (ObjectPatProp-F.ObjectPatProp::Assign _ value _) = if_there value
in_object_pat_prop (ObjectPatProp-F.ObjectPatProp::Rest arg _) = arg.1

-- the facts of a `Pat`, from those of its parts
abbrev pub in_pat : Beside Facts Pat-F → Facts
in_pat (Pat-F.Pat::Ident _ _ _) = []
in_pat (Pat-F.Pat::This _ _) = []
in_pat (Pat-F.Pat::Hole _) = []
in_pat (Pat-F.Pat::Array elems _ _ _) = each elems
in_pat (Pat-F.Pat::Object props _ _ _) = each props
in_pat (Pat-F.Pat::Rest arg _ _) = arg.1
in_pat (Pat-F.Pat::Assign left right _) = left.1 ++ right.1
in_pat (Pat-F.Pat::Expr it) = it.1

-- the facts of a `Prop`, from those of its parts
abbrev pub in_prop : Beside Facts Prop-F → Facts
in_prop (Prop-F.Prop::Spread expr _) = expr.1
in_prop (Prop-F.Shorthand _) = []
in_prop (Prop-F.Prop::KeyValue _ key value _) = key.1 ++ value.1
in_prop (Prop-F.Prop::Method _ _ key function _) = key.1 ++ function.1

-- the facts of a `Stmt`, from those of its parts
abbrev pub in_stmt : Beside Facts Stmt-F → Facts
in_stmt (Stmt-F.Block stmts _) = each stmts
in_stmt (Stmt-F.Stmt::Empty _) = []
in_stmt (Stmt-F.Debugger _) = []
in_stmt (Stmt-F.With obj body _) = obj.1 ++ body.1
in_stmt (Stmt-F.Return arg _) = if_there arg
in_stmt (Stmt-F.Labeled _ body _) = body.1
in_stmt (Stmt-F.Break _ _) = []
in_stmt (Stmt-F.Continue _ _) = []
in_stmt (Stmt-F.If test cons alt _) = test.1 ++ cons.1 ++ if_there alt
in_stmt (Stmt-F.Switch discriminant cases _) = discriminant.1 ++ each cases
in_stmt (Stmt-F.Throw arg _) = arg.1
in_stmt (Stmt-F.Try block param handler finalizer _) = block.1 ++ if_there param ++ if_there handler ++ if_there finalizer
in_stmt (Stmt-F.While test body _) = test.1 ++ body.1
in_stmt (Stmt-F.DoWhile body test _) = body.1 ++ test.1
in_stmt (Stmt-F.For init test update body _) = if_there init ++ if_there test ++ if_there update ++ body.1
in_stmt (Stmt-F.ForIn _ left right body _) = left.1 ++ right.1 ++ body.1
in_stmt (Stmt-F.ForOf _ _ left right body _) = left.1 ++ right.1 ++ body.1
in_stmt (Stmt-F.Decl it) = it.1
in_stmt (Stmt-F.Stmt::Expr expr _) = expr.1

-- the facts of a `Class`, from those of its parts
abbrev pub in_class : Beside Facts Class-F → Facts
in_class it = if_there it.super_class ++ each it.body

-- the facts of a `Function`, from those of its parts
abbrev pub in_function : Beside Facts Function-F → Facts
in_function it = each it.params ++ if_there it.body

-- the facts of a `Param`, from those of its parts
abbrev pub in_param : Beside Facts Param-F → Facts
in_param it = it.pat.1

-- the facts of a `SwitchCase`, from those of its parts
abbrev pub in_switch_case : Beside Facts SwitchCase-F → Facts
in_switch_case it = if_there it.test ++ each it.cons

-- the facts of a `TsEnumMember`, from those of its parts
abbrev pub in_ts_enum_member : Beside Facts TsEnumMember-F → Facts
in_ts_enum_member it = it.id.1 ++ if_there it.init

-- the facts of a `VarDeclarator`, from those of its parts
abbrev pub in_var_declarator : Beside Facts VarDeclarator-F → Facts
in_var_declarator it = it.name.1 ++ if_there it.init

unfoldable pub facts_of_class_member : ClassMember → Facts
facts_of_class_member = para-ClassMember Facts Facts Facts Facts Facts Facts Facts Facts Facts Facts Facts Facts Facts Facts Facts
    in_class_member in_decl in_expr in_module_decl in_module_item in_object_pat_prop in_pat in_prop in_stmt in_class in_function
    in_param in_switch_case in_ts_enum_member in_var_declarator

unfoldable pub facts_of_decl : Decl → Facts
facts_of_decl = para-Decl Facts Facts Facts Facts Facts Facts Facts Facts Facts Facts Facts Facts Facts Facts Facts in_class_member
    in_decl in_expr in_module_decl in_module_item in_object_pat_prop in_pat in_prop in_stmt in_class in_function in_param
    in_switch_case in_ts_enum_member in_var_declarator

unfoldable pub facts_of_expr : Expr → Facts
facts_of_expr = para-Expr Facts Facts Facts Facts Facts Facts Facts Facts Facts Facts Facts Facts Facts Facts Facts in_class_member
    in_decl in_expr in_module_decl in_module_item in_object_pat_prop in_pat in_prop in_stmt in_class in_function in_param
    in_switch_case in_ts_enum_member in_var_declarator

unfoldable pub facts_of_module_decl : ModuleDecl → Facts
facts_of_module_decl = para-ModuleDecl Facts Facts Facts Facts Facts Facts Facts Facts Facts Facts Facts Facts Facts Facts Facts
    in_class_member in_decl in_expr in_module_decl in_module_item in_object_pat_prop in_pat in_prop in_stmt in_class in_function
    in_param in_switch_case in_ts_enum_member in_var_declarator

unfoldable pub facts_of_module_item : ModuleItem → Facts
facts_of_module_item = para-ModuleItem Facts Facts Facts Facts Facts Facts Facts Facts Facts Facts Facts Facts Facts Facts Facts
    in_class_member in_decl in_expr in_module_decl in_module_item in_object_pat_prop in_pat in_prop in_stmt in_class in_function
    in_param in_switch_case in_ts_enum_member in_var_declarator

unfoldable pub facts_of_object_pat_prop : ObjectPatProp → Facts
facts_of_object_pat_prop = para-ObjectPatProp Facts Facts Facts Facts Facts Facts Facts Facts Facts Facts Facts Facts Facts Facts
    Facts in_class_member in_decl in_expr in_module_decl in_module_item in_object_pat_prop in_pat in_prop in_stmt in_class
    in_function in_param in_switch_case in_ts_enum_member in_var_declarator

unfoldable pub facts_of_pat : Pat → Facts
facts_of_pat = para-Pat Facts Facts Facts Facts Facts Facts Facts Facts Facts Facts Facts Facts Facts Facts Facts in_class_member
    in_decl in_expr in_module_decl in_module_item in_object_pat_prop in_pat in_prop in_stmt in_class in_function in_param
    in_switch_case in_ts_enum_member in_var_declarator

unfoldable pub facts_of_prop : Prop → Facts
facts_of_prop = para-Prop Facts Facts Facts Facts Facts Facts Facts Facts Facts Facts Facts Facts Facts Facts Facts in_class_member
    in_decl in_expr in_module_decl in_module_item in_object_pat_prop in_pat in_prop in_stmt in_class in_function in_param
    in_switch_case in_ts_enum_member in_var_declarator

unfoldable pub facts_of_stmt : Stmt → Facts
facts_of_stmt = para-Stmt Facts Facts Facts Facts Facts Facts Facts Facts Facts Facts Facts Facts Facts Facts Facts in_class_member
    in_decl in_expr in_module_decl in_module_item in_object_pat_prop in_pat in_prop in_stmt in_class in_function in_param
    in_switch_case in_ts_enum_member in_var_declarator

unfoldable pub facts_of_class : Class → Facts
facts_of_class = para-Class Facts Facts Facts Facts Facts Facts Facts Facts Facts Facts Facts Facts Facts Facts Facts
    in_class_member in_decl in_expr in_module_decl in_module_item in_object_pat_prop in_pat in_prop in_stmt in_class in_function
    in_param in_switch_case in_ts_enum_member in_var_declarator

unfoldable pub facts_of_function : Function → Facts
facts_of_function = para-Function Facts Facts Facts Facts Facts Facts Facts Facts Facts Facts Facts Facts Facts Facts Facts
    in_class_member in_decl in_expr in_module_decl in_module_item in_object_pat_prop in_pat in_prop in_stmt in_class in_function
    in_param in_switch_case in_ts_enum_member in_var_declarator

unfoldable pub facts_of_param : Param → Facts
facts_of_param = para-Param Facts Facts Facts Facts Facts Facts Facts Facts Facts Facts Facts Facts Facts Facts Facts
    in_class_member in_decl in_expr in_module_decl in_module_item in_object_pat_prop in_pat in_prop in_stmt in_class in_function
    in_param in_switch_case in_ts_enum_member in_var_declarator

unfoldable pub facts_of_switch_case : SwitchCase → Facts
facts_of_switch_case = para-SwitchCase Facts Facts Facts Facts Facts Facts Facts Facts Facts Facts Facts Facts Facts Facts Facts
    in_class_member in_decl in_expr in_module_decl in_module_item in_object_pat_prop in_pat in_prop in_stmt in_class in_function
    in_param in_switch_case in_ts_enum_member in_var_declarator

unfoldable pub facts_of_ts_enum_member : TsEnumMember → Facts
facts_of_ts_enum_member = para-TsEnumMember Facts Facts Facts Facts Facts Facts Facts Facts Facts Facts Facts Facts Facts Facts
    Facts in_class_member in_decl in_expr in_module_decl in_module_item in_object_pat_prop in_pat in_prop in_stmt in_class
    in_function in_param in_switch_case in_ts_enum_member in_var_declarator

unfoldable pub facts_of_var_declarator : VarDeclarator → Facts
facts_of_var_declarator = para-VarDeclarator Facts Facts Facts Facts Facts Facts Facts Facts Facts Facts Facts Facts Facts Facts
    Facts in_class_member in_decl in_expr in_module_decl in_module_item in_object_pat_prop in_pat in_prop in_stmt in_class
    in_function in_param in_switch_case in_ts_enum_member in_var_declarator

-- the facts of a whole part, where it is there
abbrev pub if_some : {X : Type 0} → (X → Facts) → Option X → Facts
if_some facts (Some it) = facts it
if_some facts None = []

-- the facts of a program, in the order of the text
unfoldable pub facts_of : Program → Facts
facts_of (vProgram.Module m) = flat_map facts_of_module_item m.body
facts_of (vProgram.Script s) = flat_map facts_of_stmt s.body
