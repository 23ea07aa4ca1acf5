-- What expressions look like to the analysis of CommonJS.
use Rattle.std.specs.Prelude.{ℕ, Bool, true, false, ◌&&◌, ◌||◌, not, List, [], ◌∷◌, Option, Some, None, option_map, unwrap_or, bytes_eq, codes, if◌then◌else◌}
use Rattle.es_ast.specs.declared.leaf.AssignOp.TheVariants as vAssign
use Rattle.es_ast.specs.declared.leaf.Lit.TheVariants as vLit
use Rattle.es_ast.specs.declared.ts.leaf.MethodKind.{MethodKind}
use Rattle.es_ast.specs.declared.ts.leaf.MethodKind.TheVariants as vMethod
use Rattle.es_ast.specs.declared.ast.Expr.{Expr, out-Expr}
use Rattle.es_ast.specs.declared.ast.Pat.{Pat, out-Pat}
use Rattle.es_ast.specs.declared.ast.Prop.{Prop, out-Prop}
use Rattle.es_ast.specs.declared.ast.Stmt.{Stmt, out-Stmt}
use Rattle.es_ast.specs.declared.ast.Function.{Function, out-Function}
use Rattle.es_ast.specs.declared.ast.ClassMember.TheOpen.{Expr-F, Pat-F, Prop-F, Stmt-F}
use Rattle.es_ast.specs.declared.ast.ClassMember.TheFolds.{fold-Expr, para-Expr}
use Rattle.es_site.specs.Parts.{Kind, Whole, Beside, ExprParts, PropParts}

abbrev pub Name : Type 0
Name = List ℕ

-- what a member is named by: `.a`, `["a"]`, `[a]`; a private name and all else are odd
pub data Key : Type 0 where
  dotted : Name → Key
  quoted : Name → Key
  keyed : Name → Key
  odd_key : Key

-- what a member is taken of: `a`, `a.b`, or something else
pub data Object : Type 0 where
  one : Name → Object
  within : Name → Key → Object
  odd_object : Object

-- a name; a string literal, with lone surrogates or without; a member without `?.`; a call that requires a module
pub data Look : Type 0 where
  named : Name → Look
  text : Bool → Name → Look
  member : Object → Key → Look
  requires : Name → Look
  other : Look

abbrev pub object_of : Look → Object
object_of (named name) = one name
object_of (member (one name) key) = within name key
object_of _ = odd_object

abbrev pub dot : Bool → Name → Key
dot true name = odd_key
dot false name = dotted name

-- a string with a lone surrogate names nothing
abbrev pub bracket : Look → Key
bracket (named name) = keyed name
bracket (text lone value) = if lone then odd_key else quoted value
bracket _ = odd_key

-- ---- `require("a")`, and `_interopRequireWildcard` of such a call
abbrev pub required_by : Look → Look
required_by (text lone value) = if lone then other else requires value
required_by _ = other

abbrev pub passed : Look → Look
passed (requires name) = requires name
passed _ = other

abbrev pub call_by : Name → Look → Look
call_by callee first =
    if bytes_eq callee (codes "require") then required_by first
    else (if bytes_eq callee (codes "_interopRequireWildcard") then passed first
    else other)

abbrev pub call_of : Look → List Look → Look
call_of (named callee) (first ∷ others) = call_by callee first
call_of _ _ = other

abbrev pub Of : Type 0 → Kind → Type 0
Of A K = K A A A A A A A A A A A A A A A

abbrev pub in_look : Of Look Expr-F → Look
in_look (Expr-F.Expr::Ident id) = named id.sym
in_look (Expr-F.Lit (vLit.Str s)) = text s.lone s.value
in_look (Expr-F.Member obj false is_private prop span) = member (object_of obj) (dot is_private prop.sym)
in_look (Expr-F.Index obj false prop span) = member (object_of obj) (bracket prop)
in_look (Expr-F.Call callee false type_args args span) = call_of callee args
in_look _ = other

abbrev pub no_look : {A : Type 0} → A → Look
no_look part = other

unfoldable pub look : Expr → Look
look =
    fold-Expr Look Look Look Look Look Look Look Look Look Look Look Look Look Look Look no_look no_look in_look no_look
    no_look no_look no_look no_look no_look no_look no_look no_look no_look no_look no_look

-- ---- harmless: names, literals, objects, and members of harmless ones with a plain, private or harmless name
abbrev pub in_harmless : Of Bool Expr-F → Bool
in_harmless (Expr-F.Expr::Ident id) = true
in_harmless (Expr-F.Lit lit) = true
in_harmless (Expr-F.Expr::Object props span) = true
in_harmless (Expr-F.Member obj false is_private prop span) = obj
in_harmless (Expr-F.Index obj false prop span) = obj && prop
in_harmless _ = false

abbrev pub not_harmless : {A : Type 0} → A → Bool
not_harmless part = false

unfoldable pub is_harmless : Expr → Bool
is_harmless =
    fold-Expr Bool Bool Bool Bool Bool Bool Bool Bool Bool Bool Bool Bool Bool Bool Bool not_harmless not_harmless
    in_harmless not_harmless not_harmless not_harmless not_harmless not_harmless not_harmless not_harmless not_harmless
    not_harmless not_harmless not_harmless not_harmless

-- ---- what a function only returns: its body is one `return a`, or an arrow's expression
abbrev pub returned_last : List Stmt → Whole Stmt-F → Option Expr
returned_last [] (Stmt-F.Return arg span) = arg
returned_last _ _ = None

abbrev pub returned_in : Whole Stmt-F → Option Expr
returned_in (Stmt-F.Block (stmt ∷ stmts) span) = returned_last stmts (out-Stmt stmt)
returned_in (Stmt-F.Stmt::Expr expr span) = Some expr
returned_in _ = None

abbrev pub returned_by : Option Stmt → Option Expr
returned_by (Some body) = returned_in (out-Stmt body)
returned_by None = None

unfoldable pub returned : Function → Option Expr
returned f = returned_by (out-Function f).body

unfoldable pub returns_harmless : Function → Bool
returns_harmless f = unwrap_or (option_map is_harmless (returned f)) false

-- ---- properties
-- a word or a string without lone surrogate
abbrev pub name_by : Look → Option Name
name_by (named name) = Some name
name_by (text lone value) = if lone then None else Some value
name_by _ = None

abbrev pub key_name : Bool → Expr → Option Name
key_name true key = None
key_name false key = name_by (look key)

-- what an expression only returns where it is a function
abbrev pub function_in : ExprParts → Option Function
function_in (Expr-F.Expr::Fn f) = Some f
function_in (Expr-F.Arrow f) = Some f
function_in _ = None

-- a property by its name, what it is, and the function that it is, which may be a `get` of a descriptor
pub record Property : Type 0 where
  pub name : Option Name
  -- a method, `key: value`, a shorthand, or a getter that only returns what is harmless
  pub is_export : Bool
  -- a method, `key: function`, `key: arrow`
  pub function : Option Function
  -- the expression behind `...`
  pub spread : Option Expr

abbrev pub is_method_export : MethodKind → Function → Bool
is_method_export vMethod.Method function = true
is_method_export vMethod.Getter function = returns_harmless function
is_method_export vMethod.Setter function = false

abbrev pub method_function : MethodKind → Function → Option Function
method_function vMethod.Method function = Some function
method_function _ function = None

abbrev pub property_in : PropParts → Property
property_in (Prop-F.Shorthand id) = record { name = Some id.sym; is_export = true; function = None; spread = None }
property_in (Prop-F.Prop::KeyValue computed key value span) = record {
  name = key_name computed key;
  is_export = true;
  function = function_in (out-Expr value);
  spread = None;
}
property_in (Prop-F.Prop::Method kind computed key function span) = record {
  name = key_name computed key;
  is_export = is_method_export kind function;
  function = method_function kind function;
  spread = None;
}
property_in (Prop-F.Prop::Spread expr span) =
    record { name = None; is_export = false; function = None; spread = Some expr }

unfoldable pub property : Prop → Property
property prop = property_in (out-Prop prop)

abbrev pub props_in : ExprParts → Option (List Prop)
props_in (Expr-F.Expr::Object props span) = Some props
props_in _ = None

unfoldable pub props_of : Expr → Option (List Prop)
props_of e = props_in (out-Expr e)

-- ---- `(0, a)`, as a callee: a
abbrev pub is_zero : ExprParts → Bool
is_zero (Expr-F.Lit (vLit.Num n)) = bytes_eq n.raw (codes "0")
is_zero _ = false

abbrev pub second_in : ExprParts → Option Expr
second_in (Expr-F.Seq (first ∷ second ∷ []) span) = if is_zero (out-Expr first) then Some second else None
second_in _ = None

abbrev pub behind_zero : ExprParts → Option Expr
behind_zero (Expr-F.Paren inner span) = second_in (out-Expr inner)
behind_zero _ = None

-- what the callee itself looks like, or what stands behind the zero
unfoldable pub callee_look : Expr → Look
callee_look e = look (unwrap_or (behind_zero (out-Expr e)) e)

-- ---- the last right side of `a = b = c`
abbrev pub in_assigned : Beside (Option Expr) Expr-F → Option Expr
in_assigned (Expr-F.Expr::Assign vAssign.Assign left right span) = Some (unwrap_or right.1 right.0)
in_assigned _ = None

abbrev pub none_assigned : {A : Type 0} → A → Option Expr
none_assigned part = None

unfoldable pub assigned_last : Expr → Option Expr
assigned_last =
    para-Expr (Option Expr) (Option Expr) (Option Expr) (Option Expr) (Option Expr) (Option Expr) (Option Expr)
    (Option Expr) (Option Expr) (Option Expr) (Option Expr) (Option Expr) (Option Expr) (Option Expr) (Option Expr)
    none_assigned none_assigned in_assigned none_assigned none_assigned none_assigned none_assigned none_assigned
    none_assigned none_assigned none_assigned none_assigned none_assigned none_assigned none_assigned

unfoldable pub right_of : Expr → Expr
right_of e = unwrap_or (assigned_last e) e

-- ---- a target of an assignment that is an expression
abbrev pub target_in : Whole Pat-F → Option Expr
target_in (Pat-F.Pat::Expr e) = Some e
target_in _ = None

-- a name alone that a pattern is
abbrev pub pat_name_in : Whole Pat-F → Option Name
pat_name_in (Pat-F.Pat::Ident id type_ann span) = Some id.sym
pat_name_in _ = None
