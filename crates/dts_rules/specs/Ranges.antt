-- The bodies of overloads: each function, method or constructor with a body that directly follows one of its name without.
use Rattle.std.specs.Prelude.{ℕ, ◌==◌, Bool, true, false, ◌&&◌, not, List, [], ◌∷◌, ◌++◌, Option, Some, None, option_map, is_some, map, bytes_eq, codes}
use Rattle.std.specs.List.{flat_map}
use Rattle.base.specs.declared.range.Range.{Range}
use Rattle.es_ast.specs.declared.ts.leaf.Ident.{Ident}
use Rattle.es_ast.specs.declared.ts.leaf.MethodKind.{MethodKind}
use Rattle.es_ast.specs.declared.ts.leaf.MethodKind.TheVariants as vMethod
use Rattle.es_ast.specs.declared.leaf.Lit.{Lit}
use Rattle.es_ast.specs.declared.leaf.Lit.TheVariants as vLit
use Rattle.es_ast.specs.declared.ast.ClassMember.{ClassMember}
use Rattle.es_ast.specs.declared.ast.Decl.{Decl}
use Rattle.es_ast.specs.declared.ast.Expr.{Expr}
use Rattle.es_ast.specs.declared.ast.ModuleDecl.{ModuleDecl}
use Rattle.es_ast.specs.declared.ast.ModuleItem.{ModuleItem}
use Rattle.es_ast.specs.declared.ast.ObjectPatProp.{ObjectPatProp}
use Rattle.es_ast.specs.declared.ast.Pat.{Pat}
use Rattle.es_ast.specs.declared.ast.Prop.{Prop}
use Rattle.es_ast.specs.declared.ast.Stmt.{Stmt}
use Rattle.es_ast.specs.declared.ast.Class.{Class}
use Rattle.es_ast.specs.declared.ast.Function.{Function}
use Rattle.es_ast.specs.declared.ast.Param.{Param}
use Rattle.es_ast.specs.declared.ast.SwitchCase.{SwitchCase}
use Rattle.es_ast.specs.declared.ast.TsEnumMember.{TsEnumMember}
use Rattle.es_ast.specs.declared.ast.VarDeclarator.{VarDeclarator}
use Rattle.es_ast.specs.declared.ast.Program.{Program}
use Rattle.es_ast.specs.declared.ast.Program.TheVariants as vProgram
use Rattle.es_ast.specs.declared.ast.ClassMember.TheOpen.{ClassMember-F, Decl-F, Expr-F, ModuleDecl-F, ModuleItem-F, ObjectPatProp-F, Pat-F, Prop-F, Stmt-F, Class-F, Function-F, Param-F, SwitchCase-F, TsEnumMember-F, VarDeclarator-F}
use Rattle.es_ast.specs.declared.ast.ClassMember.TheFolds.{fold-ClassMember, fold-Decl, fold-Expr, fold-ModuleDecl, fold-ModuleItem, fold-ObjectPatProp, fold-Pat, fold-Prop, fold-Stmt, fold-Class, fold-Function, fold-Param, fold-SwitchCase, fold-TsEnumMember, fold-VarDeclarator}
use Rattle.es_site.specs.Parts.{Kind}

abbrev pub Ranges : Type 0
Ranges = List Range

-- ---- names
pub data Name : Type 0 where
  -- of a default without a name
  unnamed : Name
  -- of a function, or a key that is a word or a string
  text : List ℕ → Name
  -- `#a`
  private : List ℕ → Name
  -- a key that is a number or a BigInt, as it is spelled
  number : List ℕ → Name
  -- `[a.b]`
  path : List (List ℕ) → Name

abbrev pub same_path : List (List ℕ) → List (List ℕ) → Bool
same_path [] [] = true
same_path (a ∷ others) (b ∷ more) = bytes_eq a b && same_path others more
same_path _ _ = false

abbrev pub same_name : Name → Name → Bool
same_name unnamed unnamed = true
same_name (text a) (text b) = bytes_eq a b
same_name (private a) (private b) = bytes_eq a b
same_name (number a) (number b) = bytes_eq a b
same_name (path a) (path b) = same_path a b
same_name _ _ = false

-- ---- lists
-- a function or a method in a list: its name, whether it has a body, and the range of the whole item
pub record Head : Type 0 where
  pub name : Name
  pub has_body : Bool
  pub span : Range

-- an item of a list, with the bodies of overloads inside it
pub record Listed : Type 0 where
  pub head : Option Head
  pub within : Ranges

abbrev pub no_head : Ranges → Listed
no_head within = record { head = None; within = within }

-- of an item, by what stands directly before it
abbrev pub implements : Option Head → Option Head → Ranges
implements (Some before) (Some it) =
    where_ (not before.has_body && (it.has_body && same_name before.name it.name)) it.span
  where
    where_ : Bool → Range → Ranges
    where_ true span = span ∷ []
    where_ false span = []
implements _ _ = []

abbrev pub in_list : Option Head → List Listed → Ranges
in_list before [] = []
in_list before (it ∷ others) = implements before it.head ++ it.within ++ in_list it.head others

-- ---- what each node shows
pub record Seen : Type 0 where
  -- its name as a key, by whether it stands in brackets
  pub key : Bool → Option Name
  -- `a.b`, `this.a`
  pub path_of : Option (List (List ℕ))
  pub within : Ranges

pub record SeenFunction : Type 0 where
  pub ident : Option Ident
  pub has_body : Bool
  pub within : Ranges

pub record SeenDecl : Type 0 where
  -- of a function: its name, and whether it has a body
  pub function : Option (Name × Bool)
  pub span : Range
  pub within : Ranges

-- nodes with what each of their parts shows
abbrev pub In : Kind → Type 0
In K = K Listed SeenDecl Seen Listed Listed Ranges Ranges Ranges Listed Ranges SeenFunction Ranges Ranges Ranges Ranges

abbrev pub nameless : Ranges → Seen
nameless within = record { key = λ computed. None; path_of = None; within = within }

abbrev pub all : List Ranges → Ranges
all parts = flat_map (λ part. part) parts

abbrev pub each : List Seen → Ranges
each parts = flat_map (λ e. e.within) parts

abbrev pub if_there : Option Ranges → Ranges
if_there (Some within) = within
if_there None = []

abbrev pub if_expr : Option Seen → Ranges
if_expr (Some e) = e.within
if_expr None = []

abbrev pub if_stmt : Option Listed → Ranges
if_stmt (Some it) = it.within
if_stmt None = []

-- ---- expressions
abbrev pub by_brackets : Name → Name → Bool → Option Name
by_brackets plain computed true = Some computed
by_brackets plain computed false = Some plain

abbrev pub lit_name : Lit → Option Name
lit_name (vLit.Str it) = Some (text it.value)
lit_name (vLit.Num it) = Some (number it.raw)
lit_name (vLit.BigInt it) = Some (number it.raw)
lit_name _ = None

abbrev pub only_plain : Name → Bool → Option Name
only_plain name true = None
only_plain name false = Some name

abbrev pub path_name : Option (List (List ℕ)) → Bool → Option Name
path_name names true = option_map path names
path_name names false = None

abbrev pub seen_path : Option (List (List ℕ)) → Ranges → Seen
seen_path names within = record { key = path_name names; path_of = names; within = within }

abbrev pub longer : Bool → Ident → Option (List (List ℕ)) → Option (List (List ℕ))
longer true prop names = option_map (λ names. names ++ prop.sym ∷ []) names
longer false prop names = None

abbrev pub in_expr : In Expr-F → Seen
in_expr (Expr-F.Expr::This span) = seen_path (Some (codes "this" ∷ [])) []
in_expr (Expr-F.Super span) = nameless []
in_expr (Expr-F.Expr::Ident id) = record {
  key = by_brackets (text id.sym) (path (id.sym ∷ []));
  path_of = Some (id.sym ∷ []);
  within = [];
}
in_expr (Expr-F.PrivateName id) = record { key = only_plain (private id.sym); path_of = None; within = [] }
in_expr (Expr-F.Lit it) = record { key = λ computed. lit_name it; path_of = None; within = [] }
in_expr (Expr-F.Expr::Hole span) = nameless []
in_expr (Expr-F.Expr::Array elems span) = nameless (each elems)
in_expr (Expr-F.Expr::Spread expr span) = nameless expr.within
in_expr (Expr-F.Expr::Object props span) = nameless (all props)
in_expr (Expr-F.Expr::Fn it) = nameless it.within
in_expr (Expr-F.Expr::Class it) = nameless it
in_expr (Expr-F.Arrow it) = nameless it.within
in_expr (Expr-F.Paren expr span) = nameless expr.within
in_expr (Expr-F.Unary op arg span) = nameless arg.within
in_expr (Expr-F.Update op prefix arg span) = nameless arg.within
in_expr (Expr-F.Await arg span) = nameless arg.within
in_expr (Expr-F.Yield delegate arg span) = nameless (if_expr arg)
in_expr (Expr-F.Bin op left right span) = nameless (left.within ++ right.within)
in_expr (Expr-F.Expr::Assign op left right span) = nameless (left ++ right.within)
in_expr (Expr-F.Cond test cons alt span) = nameless (test.within ++ cons.within ++ alt.within)
in_expr (Expr-F.Seq exprs span) = nameless (each exprs)
in_expr (Expr-F.Member obj mark hidden prop span) = seen_path (longer (not mark && not hidden) prop obj.path_of) obj.within
in_expr (Expr-F.Index obj mark prop span) = nameless (obj.within ++ prop.within)
in_expr (Expr-F.Call callee mark type_args args span) = nameless (callee.within ++ each args)
in_expr (Expr-F.New callee type_args has_args args span) = nameless (callee.within ++ each args)
in_expr (Expr-F.ImportCall phase args span) = nameless (each args)
in_expr (Expr-F.ImportMeta span) = nameless []
in_expr (Expr-F.NewTarget span) = nameless []
in_expr (Expr-F.Tpl quasis exprs span) = nameless (each exprs)
in_expr (Expr-F.TaggedTpl tag type_args tpl span) = nameless (tag.within ++ tpl.within)
in_expr (Expr-F.TsNonNull expr span) = nameless expr.within
in_expr (Expr-F.TsAs expr ty span) = nameless expr.within
in_expr (Expr-F.TsConstAssertion expr span) = nameless expr.within
in_expr (Expr-F.TsSatisfies expr ty span) = nameless expr.within

abbrev pub in_prop : In Prop-F → Ranges
in_prop (Prop-F.Prop::Spread expr span) = expr.within
in_prop (Prop-F.Shorthand id) = []
in_prop (Prop-F.Prop::KeyValue computed key value span) = key.within ++ value.within
in_prop (Prop-F.Prop::Method kind computed key function span) = key.within ++ function.within

-- ---- patterns and functions
abbrev pub in_pat : In Pat-F → Ranges
in_pat (Pat-F.Pat::Ident id ty span) = []
in_pat (Pat-F.Pat::This ty span) = []
in_pat (Pat-F.Pat::Hole span) = []
in_pat (Pat-F.Pat::Array elems mark ty span) = all elems
in_pat (Pat-F.Pat::Object props mark ty span) = all props
in_pat (Pat-F.Pat::Rest arg ty span) = arg
in_pat (Pat-F.Pat::Assign left right span) = left ++ right.within
in_pat (Pat-F.Pat::Expr expr) = expr.within

abbrev pub in_pat_prop : In ObjectPatProp-F → Ranges
in_pat_prop (ObjectPatProp-F.ObjectPatProp::KeyValue computed key value span) = key.within ++ value
in_pat_prop (ObjectPatProp-F.ObjectPatProp::Assign key value span) = if_expr value
in_pat_prop (ObjectPatProp-F.ObjectPatProp::Rest arg span) = arg

abbrev pub in_param : In Param-F → Ranges
in_param it = it.pat

abbrev pub in_function : In Function-F → SeenFunction
in_function it = record { ident = it.ident; has_body = is_some it.body; within = all it.params ++ if_stmt it.body }

-- ---- classes
abbrev pub key_head : Option Name → Bool → Range → Option Head
key_head (Some name) has_body span = Some (record { name = name; has_body = has_body; span = span })
key_head None has_body span = None

-- a getter and a setter have no overloads
abbrev pub method_head : MethodKind → Option Name → Bool → Range → Option Head
method_head vMethod.Method name has_body span = key_head name has_body span
method_head _ name has_body span = None

abbrev pub in_class_member : In ClassMember-F → Listed
in_class_member (ClassMember-F.ClassMember::Empty span) = no_head []
in_class_member (ClassMember-F.StaticBlock stmts span) = no_head (in_list None stmts)
in_class_member (ClassMember-F.TsIndexSignature modifiers name of ty span) = no_head []
in_class_member (ClassMember-F.ClassMember::Method modifiers kind computed key mark function span) = record {
  head = method_head kind (key.key computed) function.has_body span;
  within = key.within ++ function.within;
}
in_class_member (ClassMember-F.Prop modifiers computed key mark definite ty value span) =
    no_head (key.within ++ if_expr value)

abbrev pub in_class : In Class-F → Ranges
in_class it = if_expr it.super_class ++ in_list None it.body

-- ---- declarations, statements and items
abbrev pub in_var_declarator : In VarDeclarator-F → Ranges
in_var_declarator it = it.name ++ if_expr it.init

abbrev pub in_enum_member : In TsEnumMember-F → Ranges
in_enum_member it = it.id.within ++ if_expr it.init

abbrev pub no_function : Range → Ranges → SeenDecl
no_function span within = record { function = None; span = span; within = within }

abbrev pub function_name : Option Ident → Name
function_name (Some id) = text id.sym
function_name None = unnamed

abbrev pub in_decl : In Decl-F → SeenDecl
in_decl (Decl-F.Decl::Class declare class span) = no_function span class
in_decl (Decl-F.Decl::Fn declare function span) = record {
  function = Some (function_name function.ident, function.has_body);
  span = span;
  within = function.within;
}
in_decl (Decl-F.Var declare kind decls span) = no_function span (all decls)
in_decl (Decl-F.TsInterface declare id type_params extends body span) = no_function span []
in_decl (Decl-F.TsTypeAlias declare id type_params ty span) = no_function span []
in_decl (Decl-F.TsEnum declare is_const id members span) = no_function span (all members)
in_decl (Decl-F.TsNamespace declare is_module id body span) = no_function span (in_list None body)
in_decl (Decl-F.TsModule declare id has_body body span) = no_function span (in_list None body)
in_decl (Decl-F.TsGlobal declare body span) = no_function span (in_list None body)

-- a declaration as an item of this range
abbrev pub decl_head : Option (Name × Bool) → Range → Option Head
decl_head (Some function) span = Some (record { name = function.0; has_body = function.1; span = span })
decl_head None span = None

abbrev pub declares : SeenDecl → Range → Listed
declares decl span = record { head = decl_head decl.function span; within = decl.within }

abbrev pub in_stmt : In Stmt-F → Listed
in_stmt (Stmt-F.Block stmts span) = no_head (in_list None stmts)
in_stmt (Stmt-F.Stmt::Empty span) = no_head []
in_stmt (Stmt-F.Debugger span) = no_head []
in_stmt (Stmt-F.With obj body span) = no_head (obj.within ++ body.within)
in_stmt (Stmt-F.Return arg span) = no_head (if_expr arg)
in_stmt (Stmt-F.Labeled label body span) = no_head body.within
in_stmt (Stmt-F.Break label span) = no_head []
in_stmt (Stmt-F.Continue label span) = no_head []
in_stmt (Stmt-F.If test cons alt span) = no_head (test.within ++ cons.within ++ if_stmt alt)
in_stmt (Stmt-F.Switch discriminant cases span) = no_head (discriminant.within ++ all cases)
in_stmt (Stmt-F.Throw arg span) = no_head arg.within
in_stmt (Stmt-F.Try block param handler finalizer span) =
    no_head (block.within ++ if_there param ++ if_stmt handler ++ if_stmt finalizer)
in_stmt (Stmt-F.While test body span) = no_head (test.within ++ body.within)
in_stmt (Stmt-F.DoWhile body test span) = no_head (body.within ++ test.within)
in_stmt (Stmt-F.For init test update body span) =
    no_head (if_stmt init ++ if_expr test ++ if_expr update ++ body.within)
in_stmt (Stmt-F.ForIn kind left right body span) = no_head (left ++ right.within ++ body.within)
in_stmt (Stmt-F.ForOf is_await kind left right body span) = no_head (left ++ right.within ++ body.within)
in_stmt (Stmt-F.Decl it) = declares it it.span
in_stmt (Stmt-F.Stmt::Expr expr span) = no_head expr.within

abbrev pub in_switch_case : In SwitchCase-F → Ranges
in_switch_case it = if_expr it.test ++ in_list None it.cons

abbrev pub in_module_decl : In ModuleDecl-F → Listed
in_module_decl (ModuleDecl-F.Import it) = no_head []
in_module_decl (ModuleDecl-F.ExportDecl decl span) = declares decl span
in_module_decl (ModuleDecl-F.ExportNamed it) = no_head []
in_module_decl (ModuleDecl-F.ExportDefaultDecl decl span) = declares decl span
in_module_decl (ModuleDecl-F.ExportDefaultExpr expr span) = no_head expr.within
in_module_decl (ModuleDecl-F.ExportAll it) = no_head []
in_module_decl (ModuleDecl-F.TsImportEquals it) = no_head []
in_module_decl (ModuleDecl-F.TsExportAssignment expr span) = no_head expr.within
in_module_decl (ModuleDecl-F.TsNamespaceExport it) = no_head []

abbrev pub in_module_item : In ModuleItem-F → Listed
in_module_item (ModuleItem-F.ModuleDecl it) = it
in_module_item (ModuleItem-F.Stmt it) = it

-- ---- the tree
unfoldable pub listed_member : ClassMember → Listed
listed_member =
    fold-ClassMember Listed SeenDecl Seen Listed Listed Ranges Ranges Ranges Listed Ranges SeenFunction Ranges Ranges Ranges Ranges
    in_class_member in_decl in_expr in_module_decl in_module_item in_pat_prop in_pat in_prop in_stmt in_class
    in_function in_param in_switch_case in_enum_member in_var_declarator

unfoldable pub seen_decl : Decl → SeenDecl
seen_decl =
    fold-Decl Listed SeenDecl Seen Listed Listed Ranges Ranges Ranges Listed Ranges SeenFunction Ranges Ranges Ranges Ranges
    in_class_member in_decl in_expr in_module_decl in_module_item in_pat_prop in_pat in_prop in_stmt in_class
    in_function in_param in_switch_case in_enum_member in_var_declarator

unfoldable pub seen_expr : Expr → Seen
seen_expr =
    fold-Expr Listed SeenDecl Seen Listed Listed Ranges Ranges Ranges Listed Ranges SeenFunction Ranges Ranges Ranges Ranges
    in_class_member in_decl in_expr in_module_decl in_module_item in_pat_prop in_pat in_prop in_stmt in_class
    in_function in_param in_switch_case in_enum_member in_var_declarator

unfoldable pub listed_module_decl : ModuleDecl → Listed
listed_module_decl =
    fold-ModuleDecl Listed SeenDecl Seen Listed Listed Ranges Ranges Ranges Listed Ranges SeenFunction Ranges Ranges Ranges Ranges
    in_class_member in_decl in_expr in_module_decl in_module_item in_pat_prop in_pat in_prop in_stmt in_class
    in_function in_param in_switch_case in_enum_member in_var_declarator

unfoldable pub listed_item : ModuleItem → Listed
listed_item =
    fold-ModuleItem Listed SeenDecl Seen Listed Listed Ranges Ranges Ranges Listed Ranges SeenFunction Ranges Ranges Ranges Ranges
    in_class_member in_decl in_expr in_module_decl in_module_item in_pat_prop in_pat in_prop in_stmt in_class
    in_function in_param in_switch_case in_enum_member in_var_declarator

unfoldable pub pat_prop_ranges : ObjectPatProp → Ranges
pat_prop_ranges =
    fold-ObjectPatProp Listed SeenDecl Seen Listed Listed Ranges Ranges Ranges Listed Ranges SeenFunction Ranges Ranges Ranges Ranges
    in_class_member in_decl in_expr in_module_decl in_module_item in_pat_prop in_pat in_prop in_stmt in_class
    in_function in_param in_switch_case in_enum_member in_var_declarator

unfoldable pub pat_ranges : Pat → Ranges
pat_ranges =
    fold-Pat Listed SeenDecl Seen Listed Listed Ranges Ranges Ranges Listed Ranges SeenFunction Ranges Ranges Ranges Ranges
    in_class_member in_decl in_expr in_module_decl in_module_item in_pat_prop in_pat in_prop in_stmt in_class
    in_function in_param in_switch_case in_enum_member in_var_declarator

unfoldable pub prop_ranges : Prop → Ranges
prop_ranges =
    fold-Prop Listed SeenDecl Seen Listed Listed Ranges Ranges Ranges Listed Ranges SeenFunction Ranges Ranges Ranges Ranges
    in_class_member in_decl in_expr in_module_decl in_module_item in_pat_prop in_pat in_prop in_stmt in_class
    in_function in_param in_switch_case in_enum_member in_var_declarator

unfoldable pub listed_stmt : Stmt → Listed
listed_stmt =
    fold-Stmt Listed SeenDecl Seen Listed Listed Ranges Ranges Ranges Listed Ranges SeenFunction Ranges Ranges Ranges Ranges
    in_class_member in_decl in_expr in_module_decl in_module_item in_pat_prop in_pat in_prop in_stmt in_class
    in_function in_param in_switch_case in_enum_member in_var_declarator

unfoldable pub class_ranges : Class → Ranges
class_ranges =
    fold-Class Listed SeenDecl Seen Listed Listed Ranges Ranges Ranges Listed Ranges SeenFunction Ranges Ranges Ranges Ranges
    in_class_member in_decl in_expr in_module_decl in_module_item in_pat_prop in_pat in_prop in_stmt in_class
    in_function in_param in_switch_case in_enum_member in_var_declarator

unfoldable pub seen_function : Function → SeenFunction
seen_function =
    fold-Function Listed SeenDecl Seen Listed Listed Ranges Ranges Ranges Listed Ranges SeenFunction Ranges Ranges Ranges Ranges
    in_class_member in_decl in_expr in_module_decl in_module_item in_pat_prop in_pat in_prop in_stmt in_class
    in_function in_param in_switch_case in_enum_member in_var_declarator

unfoldable pub param_ranges : Param → Ranges
param_ranges =
    fold-Param Listed SeenDecl Seen Listed Listed Ranges Ranges Ranges Listed Ranges SeenFunction Ranges Ranges Ranges Ranges
    in_class_member in_decl in_expr in_module_decl in_module_item in_pat_prop in_pat in_prop in_stmt in_class
    in_function in_param in_switch_case in_enum_member in_var_declarator

unfoldable pub case_ranges : SwitchCase → Ranges
case_ranges =
    fold-SwitchCase Listed SeenDecl Seen Listed Listed Ranges Ranges Ranges Listed Ranges SeenFunction Ranges Ranges Ranges Ranges
    in_class_member in_decl in_expr in_module_decl in_module_item in_pat_prop in_pat in_prop in_stmt in_class
    in_function in_param in_switch_case in_enum_member in_var_declarator

unfoldable pub enum_member_ranges : TsEnumMember → Ranges
enum_member_ranges =
    fold-TsEnumMember Listed SeenDecl Seen Listed Listed Ranges Ranges Ranges Listed Ranges SeenFunction Ranges Ranges Ranges Ranges
    in_class_member in_decl in_expr in_module_decl in_module_item in_pat_prop in_pat in_prop in_stmt in_class
    in_function in_param in_switch_case in_enum_member in_var_declarator

unfoldable pub declarator_ranges : VarDeclarator → Ranges
declarator_ranges =
    fold-VarDeclarator Listed SeenDecl Seen Listed Listed Ranges Ranges Ranges Listed Ranges SeenFunction Ranges Ranges Ranges Ranges
    in_class_member in_decl in_expr in_module_decl in_module_item in_pat_prop in_pat in_prop in_stmt in_class
    in_function in_param in_switch_case in_enum_member in_var_declarator

-- the ranges of all bodies of overloads in a program, in order
unfoldable pub overloads : Program → Ranges
overloads (vProgram.Module it) = in_list None (map listed_item it.body)
overloads (vProgram.Script it) = in_list None (map listed_stmt it.body)

-- ---- a list of ranges
abbrev pub same_range : Range → Range → Bool
same_range a b = a.start == b.start && a.end == b.end

abbrev pub has_range : Ranges → Range → Bool
has_range [] range = false
has_range (a ∷ others) range = if_same (same_range a range) (has_range others range)
  where
    if_same : Bool → Bool → Bool
    if_same true rest = true
    if_same false rest = rest
