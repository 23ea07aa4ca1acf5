-- Programs with their declarations, by computing. What is expected was worked by hand from the words of README.md.
use Rattle.std.specs.Prelude.{ℕ, ◌==◌, Bool, true, false, List, [], ◌∷◌, Option, Some, None, if◌then◌else◌, codes}
use Rattle.std.proofs.Common.{◌≡◌, refl, ap, sym, ◌∙◌}
use Rattle.base.specs.declared.range.Range.{Range}
use Rattle.es_ast.specs.declared.ts.leaf.Ident.{Ident}
use Rattle.es_ast.specs.declared.ts.leaf.TsKey.TheVariants as vKey
use Rattle.es_ast.specs.declared.ts.leaf.TsKeywordTypeKind.TheVariants as keyword
use Rattle.es_ast.specs.declared.ts.leaf.TsLit.{TsLit}
use Rattle.es_ast.specs.declared.ts.leaf.TsLit.TheVariants as vTsLit
use Rattle.es_ast.specs.declared.ts.leaf.TsThisTypeOrIdent.TheVariants as vThis
use Rattle.es_ast.specs.declared.ts.leaf.TsTypeOperatorOp.{TsTypeOperatorOp}
use Rattle.es_ast.specs.declared.ts.ts.TsPart.{TsPart}
use Rattle.es_ast.specs.declared.ts.ts.TsPart.TheVariants as vPart
use Rattle.es_ast.specs.declared.ts.ts.TsType.{TsType, out-TsType, out-roll-TsType}
use Rattle.es_ast.specs.declared.ts.ts.TsType.TheVariants as vType
use Rattle.es_ast.specs.declared.ts.ts.TsType.TheOpen.{TsType-F}
use Rattle.es_ast.specs.declared.ts.ts.TsTypeElement.TheVariants as vTsMember
use Rattle.es_ast.specs.declared.leaf.Accessibility.TheVariants as vAccess
use Rattle.es_ast.specs.declared.leaf.BinaryOp.TheVariants as vBinary
use Rattle.es_ast.specs.declared.leaf.Lit.TheVariants as vLit
use Rattle.es_ast.specs.declared.leaf.Modifiers.{Modifiers}
use Rattle.es_ast.specs.declared.leaf.UnaryOp.TheVariants as vUnary
use Rattle.es_ast.specs.declared.leaf.VarDeclKind.TheVariants as vKind
use Rattle.es_ast.specs.declared.ast.Class.{Class, roll-Class, out-roll-Class}
use Rattle.es_ast.specs.declared.ast.ClassMember.{ClassMember, roll-ClassMember}
use Rattle.es_ast.specs.declared.ast.ClassMember.TheVariants as vClassMember
use Rattle.es_ast.specs.declared.ast.Decl.{Decl, roll-Decl, out-roll-Decl}
use Rattle.es_ast.specs.declared.ast.Decl.TheVariants as vDecl
use Rattle.es_ast.specs.declared.ast.Expr.{Expr, roll-Expr, out-roll-Expr}
use Rattle.es_ast.specs.declared.ast.Expr.TheVariants as vExpr
use Rattle.es_ast.specs.declared.ast.Function.{Function, roll-Function, out-roll-Function}
use Rattle.es_ast.specs.declared.ast.ModuleDecl.{roll-ModuleDecl, out-roll-ModuleDecl}
use Rattle.es_ast.specs.declared.ast.ModuleDecl.TheVariants as vModule
use Rattle.es_ast.specs.declared.ast.ModuleItem.{ModuleItem, roll-ModuleItem, out-roll-ModuleItem}
use Rattle.es_ast.specs.declared.ast.ModuleItem.TheVariants as vItem
use Rattle.es_ast.specs.declared.ast.Param.{Param, roll-Param}
use Rattle.es_ast.specs.declared.ast.Pat.{Pat, roll-Pat, out-roll-Pat}
use Rattle.es_ast.specs.declared.ast.Pat.TheVariants as vPat
use Rattle.es_ast.specs.declared.ast.Prop.{roll-Prop}
use Rattle.es_ast.specs.declared.ast.Stmt.{Stmt, roll-Stmt, out-roll-Stmt}
use Rattle.es_ast.specs.declared.ast.Stmt.TheVariants as vStmt
use Rattle.es_ast.specs.declared.ast.TsEnumMember.{TsEnumMember, roll-TsEnumMember}
use Rattle.es_ast.specs.declared.ast.VarDeclarator.{VarDeclarator, roll-VarDeclarator, out-roll-VarDeclarator}
use Rattle.es_ast.specs.declared.ast.ClassMember.TheOpen.{Class-F, ClassMember-F, Decl-F, Expr-F, Function-F, ModuleDecl-F, ModuleItem-F, Param-F, Pat-F, Prop-F, Stmt-F, VarDeclarator-F}
use Rattle.es_ast.specs.declared.ast.Program.{Program}
use Rattle.es_ast.specs.declared.ast.Program.TheVariants as vProgram
use Rattle.es_site.specs.Parts.{Whole}
use Rattle.dts_rules.specs.declared.found.Found.{Found}
use Rattle.dts_rules.specs.declared.found.FoundKind.{FoundKind}
use Rattle.dts_rules.specs.declared.found.FoundKind.TheVariants as kind
use Rattle.dts_rules.specs.Made.{nowhere, word, any_type, annotation, made_name, named_type, typeof_name, readonly_type, frozen}
use Rattle.dts_rules.specs.Ranges.{has_range, listed_item, listed_stmt, seen_decl, seen_function, overloads}
use Rattle.dts_rules.specs.Ranges as ranges
use Rattle.dts_rules.proofs.Listed.{at_listed_item, at_listed_stmt, at_seen_decl, at_seen_function, of_listed_item, of_listed_stmt, of_seen_decl, of_seen_function}
use Rattle.dts_rules.specs.Rules.{State, Env, element, marked, in_prop, in_function, in_param}
use Rattle.dts_rules.specs.Sets.{no_sets, sets_of}
use Rattle.dts_rules.specs.Programs.{declared, shown_item, shown_member, shown_module_decl, shown_prop, shown_stmt, shown_declarator, shown_class, shown_function, shown_param, in_class, in_class_member, in_module_item, in_module_decl, in_stmt, in_var_declarator}
use Rattle.dts_rules.proofs.Shown.{at_item, at_member, at_module_decl, at_prop, at_stmt, at_decl, at_declarator, at_expr, at_pat, at_param, at_function, at_class, at_enum_member, beside_item, beside_member, beside_module_decl, beside_prop, beside_stmt, beside_declarator, beside_class, beside_function, beside_param}

-- ---- trees, written short
abbrev at : ℕ → ℕ → Range
at start end = record { start = start; end = end }

abbrev name : List ℕ → ℕ → ℕ → Ident
name sym start end = record { sym = sym; ctxt = 0; optional = false; span = at start end }

abbrev module_ : List ModuleItem → ℕ → Program
module_ items end = vProgram.Module (record { shebang = None; body = items; span = at 0 end })

abbrev script : List Stmt → ℕ → Program
script stmts end = vProgram.Script (record { shebang = None; body = stmts; span = at 0 end })

abbrev item_ : Whole ModuleDecl-F → ModuleItem
item_ it = roll-ModuleItem (ModuleItem-F.ModuleDecl (roll-ModuleDecl it))

abbrev export : Decl → ℕ → ℕ → ModuleItem
export decl start end = item_ (ModuleDecl-F.ExportDecl decl (at start end))

abbrev exported : Decl → ℕ → ℕ → ModuleItem
exported decl start end = vItem.ModuleDecl (vModule.ExportDecl decl (at start end))

abbrev statement : Decl → ModuleItem
statement decl = roll-ModuleItem (ModuleItem-F.Stmt (roll-Stmt (Stmt-F.Decl decl)))

abbrev ident : Ident → Expr
ident id = roll-Expr (Expr-F.Expr::Ident id)

abbrev number : List ℕ → ℕ → ℕ → Expr
number raw start end = roll-Expr (Expr-F.Lit (vLit.Num (record { raw = raw; span = at start end })))

abbrev string : List ℕ → ℕ → ℕ → Expr
string raw start end =
    roll-Expr (Expr-F.Lit (vLit.Str (record { value = raw; lone = false; raw = Some raw; span = at start end })))

abbrev bound : Ident → Option TsPart → Pat
bound id ty = roll-Pat (Pat-F.Pat::Ident id ty id.span)

abbrev bound_typed : Ident → Option TsPart → ℕ → ℕ → Pat
bound_typed id ty start end = roll-Pat (Pat-F.Pat::Ident id ty (at start end))

abbrev declarator : Pat → Option Expr → ℕ → ℕ → VarDeclarator
declarator pat init start end =
    roll-VarDeclarator (record { name = pat; definite = false; init = init; span = at start end })

-- a name that was given a type
abbrev typed : Ident → TsType → ℕ → ℕ → VarDeclarator
typed id ty start end = declarator (vPat.Ident id (annotation ty) id.span) None start end

abbrev made_variable : Ident → TsType → VarDeclarator
made_variable id ty =
    roll-VarDeclarator (record
    { name = vPat.Ident id (annotation ty) nowhere; definite = false; init = None; span = nowhere })

abbrev const_ : Bool → List VarDeclarator → ℕ → ℕ → Decl
const_ declare decls start end = roll-Decl (Decl-F.Var declare vKind.Const decls (at start end))

abbrev declared_const : List VarDeclarator → ℕ → ℕ → Decl
declared_const decls start end = vDecl.Var true vKind.Const decls (at start end)

abbrev number_type : List ℕ → ℕ → ℕ → TsType
number_type raw start end = vType.Lit (vTsLit.Number false (record { raw = raw; span = at start end }) (at start end))

abbrev unmodified : Modifiers
unmodified = record {
  accessibility = vAccess.Absent;
  is_static = false;
  is_abstract = false;
  is_override = false;
  readonly = false;
  declare = false;
  accessor = false;
}

abbrev param_node : Pat → ℕ → ℕ → Whole Param-F
param_node pat start end = record { modifiers = unmodified; pat = pat; span = at start end }

abbrev param : Pat → ℕ → ℕ → Param
param pat start end = roll-Param (param_node pat start end)

abbrev function_node : Option Ident → List Param → Option TsPart → Option Stmt → ℕ → ℕ → Whole Function-F
function_node id params result body start end = record {
  ident = id;
  is_async = false;
  is_generator = false;
  type_params = None;
  params = params;
  return_type = result;
  body = body;
  span = at start end;
}

abbrev function : Option Ident → List Param → Option TsPart → Option Stmt → ℕ → ℕ → Function
function id params result body start end = roll-Function (function_node id params result body start end)

abbrev class_node : Ident → List ClassMember → ℕ → ℕ → Whole Class-F
class_node id members start end = record {
  ident = Some id;
  is_abstract = false;
  type_params = None;
  super_class = None;
  super_type_args = None;
  implements = None;
  body = members;
  span = at start end;
}

abbrev class_ : Ident → List ClassMember → ℕ → ℕ → Class
class_ id members start end = roll-Class (class_node id members start end)

abbrev enum_member : Expr → Option Expr → ℕ → ℕ → TsEnumMember
enum_member id init start end =
    roll-TsEnumMember (record { computed = false; id = id; init = init; span = at start end })

-- ---- what a program knows, and what is found
-- each name has the number 1
abbrev env : Env
env = record { number = λ r. 1; unresolved = 0; sets = no_sets; implements = λ r. false; name = λ n. codes "_dts_1" }

-- but the one that begins at this byte is declared nowhere
abbrev free_at : ℕ → Env
free_at start = record env { number = λ r. if r.start == start then 0 else 1 }

abbrev none : State
none = record { found = []; made = 0 }

abbrev found : FoundKind → ℕ → ℕ → Found
found kind start end = record { kind = kind; range = at start end }

abbrev found_only : List Found → State
found_only all = record { found = all; made = 0 }

-- ---- what nodes show, as it is asked of them
module _ (env : Env) where
  item : (it : Whole ModuleItem-F) (top : Bool) (s : State)
      → shown_item env (roll-ModuleItem it) top s ≡ in_module_item env (beside_item env it) top s
  item it top s = ap (λ f. f top s) (at_item env it)

  module_decl : (it : Whole ModuleDecl-F) (top : Bool) (s : State)
      → shown_module_decl env (roll-ModuleDecl it) top s ≡ in_module_decl env (beside_module_decl env it) top s
  module_decl it top s = ap (λ f. f top s) (at_module_decl env it)

  stmt : (it : Whole Stmt-F) (top : Bool) (s : State)
      → shown_stmt env (roll-Stmt it) top s ≡ in_stmt env (beside_stmt env it) top s
  stmt it top s = ap (λ f. f top s) (at_stmt env it)

  member : (it : Whole ClassMember-F) (s : State)
      → shown_member env (roll-ClassMember it) s ≡ in_class_member env (beside_member env it) s
  member it s = ap (λ f. f s) (at_member env it)

  prop : (it : Whole Prop-F) (c r : Bool) (s : State)
      → shown_prop env (roll-Prop it) c r s ≡ in_prop env (beside_prop env it) c r s
  prop it c r s = ap (λ f. f c r s) (at_prop env it)

  variable : (it : Whole VarDeclarator-F) (s : State)
      → shown_declarator env (roll-VarDeclarator it) s ≡ in_var_declarator env (beside_declarator env it) s
  variable it s = ap (λ f. f s) (at_declarator env it)

  declared_class : (it : Whole Class-F) (s : State)
      → (shown_class env (roll-Class it)).declared s ≡ (in_class env (beside_class env it)).declared s
  declared_class it s = ap (λ shown. shown.declared s) (at_class env it)

  bare_function : (it : Whole Function-F) (ruled setter : Bool) (s : State)
      → (shown_function env (roll-Function it)).bare ruled setter s
      ≡ (in_function env (beside_function env it)).bare ruled setter s
  bare_function it ruled setter s = ap (λ shown. shown.bare ruled setter s) (at_function env it)

  declared_param : (it : Whole Param-F) (s : State)
      → (shown_param env (roll-Param it)).declared s ≡ (in_param env (beside_param env it)).declared s
  declared_param it s = ap (λ shown. shown.declared s) (at_param env it)

item_head : (it : Whole ModuleItem-F)
    → (listed_item (roll-ModuleItem it)).head ≡ (ranges.in_module_item (of_listed_item it)).head
item_head it = ap (λ listed. listed.head) (at_listed_item it)

item_within : (it : Whole ModuleItem-F)
    → (listed_item (roll-ModuleItem it)).within ≡ (ranges.in_module_item (of_listed_item it)).within
item_within it = ap (λ listed. listed.within) (at_listed_item it)

stmt_head : (it : Whole Stmt-F) → (listed_stmt (roll-Stmt it)).head ≡ (ranges.in_stmt (of_listed_stmt it)).head
stmt_head it = ap (λ listed. listed.head) (at_listed_stmt it)

stmt_within : (it : Whole Stmt-F) → (listed_stmt (roll-Stmt it)).within ≡ (ranges.in_stmt (of_listed_stmt it)).within
stmt_within it = ap (λ listed. listed.within) (at_listed_stmt it)

decl_function : (it : Whole Decl-F) → (seen_decl (roll-Decl it)).function ≡ (ranges.in_decl (of_seen_decl it)).function
decl_function it = ap (λ seen. seen.function) (at_seen_decl it)

decl_span : (it : Whole Decl-F) → (seen_decl (roll-Decl it)).span ≡ (ranges.in_decl (of_seen_decl it)).span
decl_span it = ap (λ seen. seen.span) (at_seen_decl it)

decl_within : (it : Whole Decl-F) → (seen_decl (roll-Decl it)).within ≡ (ranges.in_decl (of_seen_decl it)).within
decl_within it = ap (λ seen. seen.within) (at_seen_decl it)

function_ident : (it : Whole Function-F)
    → (seen_function (roll-Function it)).ident ≡ (ranges.in_function (of_seen_function it)).ident
function_ident it = ap (λ seen. seen.ident) (at_seen_function it)

function_body : (it : Whole Function-F)
    → (seen_function (roll-Function it)).has_body ≡ (ranges.in_function (of_seen_function it)).has_body
function_body it = ap (λ seen. seen.has_body) (at_seen_function it)

function_within : (it : Whole Function-F)
    → (seen_function (roll-Function it)).within ≡ (ranges.in_function (of_seen_function it)).within
function_within it = ap (λ seen. seen.within) (at_seen_function it)

type_operator : (op : TsTypeOperatorOp) (ty : TsType) (r : Range)
    → out-TsType (vType.Operator op ty r) ≡ TsType-F.Operator op ty r
type_operator op ty r = ap out-TsType (sym (vType.rolls-Operator op ty r)) ∙ out-roll-TsType (TsType-F.Operator op ty r)

type_literal : (lit : TsLit) → out-TsType (vType.Lit lit) ≡ TsType-F.Lit lit
type_literal lit = ap out-TsType (sym (vType.rolls-Lit lit)) ∙ out-roll-TsType (TsType-F.Lit lit)

ruleset steps = (
  item,
  module_decl,
  variable,
  stmt,
  member,
  prop,
  at_decl,
  at_expr,
  at_pat,
  at_enum_member,
  out-roll-Decl,
  out-roll-Expr,
  out-roll-ModuleDecl,
  out-roll-ModuleItem,
  out-roll-Pat,
  out-roll-Stmt,
  out-roll-VarDeclarator,
  out-roll-Function,
  out-roll-Class,
  type_operator,
  type_literal,
)

ruleset overload_steps = (
  item_head,
  item_within,
  stmt_head,
  stmt_within,
  decl_function,
  decl_span,
  decl_within,
  function_ident,
  function_body,
  function_within,
)

-- `export const foo = [1, ,2] as const;`
hole :
    declared env (module_ ((export (const_ false ((declarator (bound (name (codes "foo") 13 16) None) (Some
    (roll-Expr (Expr-F.TsConstAssertion (roll-Expr (Expr-F.Expr::Array ((number (codes "1") 20 21) ∷ (roll-Expr
    (Expr-F.Expr::Hole (at 23 23))) ∷ (number (codes "2") 24 25) ∷ []) (at 19 26))) (at 19 35)))) 13 35) ∷ []) 7 36)
    0 36) ∷ []) 36) none
    ≡ (
      (module_ ((exported (declared_const ((typed (name (codes "foo") 13 16) (readonly_type (vType.Tuple (element
          false (number_type (codes "1") 20 21) ∷ element false any_type
          ∷ element false (number_type (codes "2") 24 25) ∷
          []) nowhere)) 13 35) ∷ []) 7 36) 0 36) ∷ []) 36),
      none,
    )
unfolding declared sets_of frozen
hole = simp steps refl

-- `function foo(a = 2, b): number { return 2; }`
-- A default gives its type, and the name gets `?`.
default_parameter :
    (shown_param env (param (roll-Pat (Pat-F.Pat::Assign (bound (name (codes "a") 13 14) None) (number (codes "2")
    17 18) (at 13 18))) 13 18)).declared none
    ≡ (
      (param (vPat.Ident (marked true (name (codes "a") 13 14)) (annotation (word keyword.Number)) (at 13 14)) 13
          18),
      none,
    )
default_parameter =
    declared_param env (param_node (roll-Pat (Pat-F.Pat::Assign (bound (name (codes "a") 13 14) None) (number (codes
    "2") 17 18) (at 13 18))) 13 18) none
    ∙ simp steps refl

-- `function foo(a = 2, b): number { return 2; }`
-- A name without a type is `any`.
plain_parameter :
    (shown_param env (param (bound (name (codes "b") 20 21) None) 20 21)).declared none
    ≡ (
      (param (vPat.Ident (name (codes "b") 20 21) (annotation any_type) (at 20 21)) 20 21),
      (found_only (found
          kind.UnableToInferTypeFallbackAny 20 21 ∷ [])),
    )
plain_parameter =
    declared_param env (param_node (bound (name (codes "b") 20 21) None) 20 21) none
    ∙ simp steps refl

-- `function foo(): number { return 2; }`
body :
    (shown_function env (function (Some (name (codes "foo") 9 12)) [] (Some (vPart.TypeAnn (vType.Keyword
    keyword.Number (at 16 22)))) (Some (roll-Stmt (Stmt-F.Block (roll-Stmt (Stmt-F.Return (Some (number (codes "2")
    32 33)) (at 25 34)) ∷ []) (at 23 36)))) 0 36)).bare true false none
    ≡ (
      (function (Some (name (codes "foo") 9 12)) [] (Some (vPart.TypeAnn (vType.Keyword keyword.Number (at 16
          22)))) None 0 36),
      none,
    )
body =
    bare_function env (function_node (Some (name (codes "foo") 9 12)) [] (Some (vPart.TypeAnn (vType.Keyword
    keyword.Number (at 16 22)))) (Some (roll-Stmt (Stmt-F.Block (roll-Stmt (Stmt-F.Return (Some (number (codes "2")
    32 33)) (at 25 34)) ∷ []) (at 23 36)))) 0 36) true false none

-- `export default 42;`
default_value :
    declared env (module_ ((item_ (ModuleDecl-F.ExportDefaultExpr (number (codes "42") 15 17) (at 0 18))) ∷ []) 18)
    none
    ≡ (
      (module_ ((vItem.Stmt (vStmt.Decl (vDecl.Var true vKind.Const (made_variable (made_name (codes "_dts_1"))
          (word keyword.Number) ∷ []) nowhere))) ∷ (vItem.ModuleDecl (vModule.ExportDefaultExpr (vExpr.Ident (made_name
          (codes "_dts_1"))) (at 0 18))) ∷ []) 18),
      record { found = []; made = 1 },
    )
unfolding declared sets_of frozen
default_value = simp steps refl

-- `export const nope = [...foo(), "a"] as const;`
-- The spread ends the array: the type falls back to `any`.
spread :
    declared env (module_ ((export (const_ false ((declarator (bound (name (codes "nope") 13 17) None) (Some
    (roll-Expr (Expr-F.TsConstAssertion (roll-Expr (Expr-F.Expr::Array ((roll-Expr (Expr-F.Expr::Spread (roll-Expr
    (Expr-F.Call (ident (name (codes "foo") 24 27)) false None [] (at 24 29))) (at 21 29))) ∷ (string (codes "a") 31
    34) ∷ []) (at 20 35))) (at 20 44)))) 13 44) ∷ []) 7 45) 0 45) ∷ []) 45) none
    ≡ (
      (module_ ((exported (declared_const ((typed (name (codes "nope") 13 17) any_type 13 44) ∷ []) 7 45) 0 45) ∷
          []) 45),
      (found_only (found kind.UnableToInferTypeFromSpread 21 29 ∷ found kind.UnableToInferTypeFallbackAny 13
          17 ∷ [])),
    )
unfolding declared sets_of frozen
spread = simp steps refl

-- `class Foo { a: number = 2; #b = 3; static { } c = "s"; [d] = e; [f()] = 1; }`
-- A field whose value has no type is `any`, and nothing is found.
fields :
    (shown_class env (class_ (name (codes "Foo") 6 9) ((roll-ClassMember (ClassMember-F.Prop unmodified false (ident
    (name (codes "a") 12 13)) false false (Some (vPart.TypeAnn (vType.Keyword keyword.Number (at 15 21)))) (Some
    (number (codes "2") 24 25)) (at 12 26))) ∷ (roll-ClassMember (ClassMember-F.Prop unmodified false (roll-Expr
    (Expr-F.PrivateName (name (codes "b") 27 29))) false false None (Some (number (codes "3") 32 33)) (at 27 34))) ∷
    (roll-ClassMember (ClassMember-F.StaticBlock [] (at 35 45))) ∷ (roll-ClassMember (ClassMember-F.Prop unmodified
    false (ident (name (codes "c") 46 47)) false false None (Some (string (codes "s") 50 53)) (at 46 54))) ∷
    (roll-ClassMember (ClassMember-F.Prop unmodified true (ident (name (codes "d") 56 57)) false false None (Some
    (ident (name (codes "e") 61 62))) (at 55 63))) ∷ (roll-ClassMember (ClassMember-F.Prop unmodified true
    (roll-Expr (Expr-F.Call (ident (name (codes "f") 65 66)) false None [] (at 65 68))) false false None (Some
    (number (codes "1") 72 73)) (at 64 74))) ∷ []) 0 76)).declared none
    ≡ (
      (class_ (name (codes "Foo") 6 9) ((vClassMember.Prop unmodified false (ident (name (codes "a") 12 13)) false
          false (Some (vPart.TypeAnn (vType.Keyword keyword.Number (at 15 21)))) None (at 12 26)) ∷ (vClassMember.Prop
          unmodified false (ident (name (codes "c") 46 47)) false false (annotation (word keyword.String)) None (at 46
          54)) ∷ (vClassMember.Prop unmodified true (vExpr.Ident (name (codes "d") 56 57)) false false (annotation
          any_type) None (at 55 63)) ∷ []) 0 76),
      none,
    )
fields =
    declared_class env (class_node (name (codes "Foo") 6 9) ((roll-ClassMember (ClassMember-F.Prop unmodified false
    (ident (name (codes "a") 12 13)) false false (Some (vPart.TypeAnn (vType.Keyword keyword.Number (at 15 21))))
    (Some (number (codes "2") 24 25)) (at 12 26))) ∷ (roll-ClassMember (ClassMember-F.Prop unmodified false
    (roll-Expr (Expr-F.PrivateName (name (codes "b") 27 29))) false false None (Some (number (codes "3") 32 33)) (at
    27 34))) ∷ (roll-ClassMember (ClassMember-F.StaticBlock [] (at 35 45))) ∷ (roll-ClassMember (ClassMember-F.Prop
    unmodified false (ident (name (codes "c") 46 47)) false false None (Some (string (codes "s") 50 53)) (at 46
    54))) ∷ (roll-ClassMember (ClassMember-F.Prop unmodified true (ident (name (codes "d") 56 57)) false false None
    (Some (ident (name (codes "e") 61 62))) (at 55 63))) ∷ (roll-ClassMember (ClassMember-F.Prop unmodified true
    (roll-Expr (Expr-F.Call (ident (name (codes "f") 65 66)) false None [] (at 65 68))) false false None (Some
    (number (codes "1") 72 73)) (at 64 74))) ∷ []) 0 76) none
    ∙ simp steps refl

-- `export const l = Object.freeze([1, 2]); export const n = [1, -2, 3.5] as const;`
frozen_array :
    declared (free_at 17) (module_ ((export (const_ false ((declarator (bound (name (codes "l") 13 14) None) (Some
    (roll-Expr (Expr-F.Call (roll-Expr (Expr-F.Member (ident (name (codes "Object") 17 23)) false false (name (codes
    "freeze") 24 30) (at 17 30))) false None ((roll-Expr (Expr-F.Expr::Array ((number (codes "1") 32 33) ∷ (number
    (codes "2") 35 36) ∷ []) (at 31 37))) ∷ []) (at 17 38)))) 13 38) ∷ []) 7 39) 0 39) ∷ (export (const_ false
    ((declarator (bound (name (codes "n") 53 54) None) (Some (roll-Expr (Expr-F.TsConstAssertion (roll-Expr
    (Expr-F.Expr::Array ((number (codes "1") 58 59) ∷ (roll-Expr (Expr-F.Unary vUnary.Minus (number (codes "2") 62
    63) (at 61 63))) ∷ (number (codes "3.5") 65 68) ∷ []) (at 57 69))) (at 57 78)))) 53 78) ∷ []) 47 79) 40 79) ∷
    []) 79) none
    ≡ (
      (module_ ((exported (declared_const ((typed (name (codes "l") 13 14) (readonly_type (vType.Tuple (element
          false (word keyword.Number) ∷ element false (word keyword.Number) ∷ []) nowhere)) 13 38) ∷ []) 7 39) 0 39) ∷
          (exported (declared_const ((typed (name (codes "n") 53 54) (readonly_type (vType.Tuple (element false
          (number_type (codes "1") 58 59) ∷ element false (vType.Lit (vTsLit.Number true (record {
            raw = codes "2";
            span =
                at 62 63;
          }) (at 61 63))) ∷ element false (number_type (codes "3.5") 65 68) ∷ []) nowhere)) 53 78) ∷ []) 47 79)
          40 79) ∷ []) 79),
      none,
    )
unfolding declared sets_of frozen
frozen_array = simp steps refl

-- `export const a: string = "s", o = { a, b: 1, c, [d.e]: 2, ...f };`
known_names :
    declared env (module_ ((export (const_ false ((declarator (bound_typed (name (codes "a") 13 14) (Some
    (vPart.TypeAnn (vType.Keyword keyword.String (at 16 22)))) 13 22) (Some (string (codes "s") 25 28)) 13 28) ∷
    (declarator (bound (name (codes "o") 30 31) None) (Some (roll-Expr (Expr-F.Expr::Object (roll-Prop
    (Prop-F.Shorthand (name (codes "a") 36 37)) ∷ roll-Prop (Prop-F.Prop::KeyValue false (ident (name (codes "b") 39
    40)) (number (codes "1") 42 43) (at 39 43)) ∷ roll-Prop (Prop-F.Shorthand (name (codes "c") 45 46)) ∷ roll-Prop
    (Prop-F.Prop::KeyValue true (roll-Expr (Expr-F.Member (ident (name (codes "d") 49 50)) false false (name (codes
    "e") 51 52) (at 49 52))) (number (codes "2") 55 56) (at 48 56)) ∷ roll-Prop (Prop-F.Prop::Spread (ident (name
    (codes "f") 61 62)) (at 58 62)) ∷ []) (at 34 64)))) 30 64) ∷ []) 7 65) 0 65) ∷ []) 65) none
    ≡ (
      (module_ ((exported (declared_const ((declarator (bound_typed (name (codes "a") 13 14) (Some (vPart.TypeAnn
          (vType.Keyword keyword.String (at 16 22)))) 13 22) None 13 28)
          ∷ (typed (name (codes "o") 30 31) (vType.TypeLit
          (vTsMember.PropertySignature true (vKey.Ident (marked false (name (codes "a") 36 37))) false
          (Some (typeof_name
          (name (codes "a") 36 37))) nowhere ∷ vTsMember.PropertySignature true (vKey.Ident (name (codes "b") 39 40))
          false (Some (word keyword.Number)) nowhere ∷ vTsMember.PropertySignature true (vKey.Entity (record {
            left =
                vThis.Ident (name (codes "d") 49 50);
            rest = ((name (codes "e") 51 52) ∷ []);
            span = at 49 52;
          }) nowhere) false
          (Some (word keyword.Number)) nowhere ∷ []) nowhere) 30 64) ∷ []) 7 65) 0 65) ∷ []) 65),
      (found_only (found
          kind.UnableToInferTypeFromProp 45 46 ∷ found kind.UnableToInferTypeFromSpread 58 62 ∷ [])),
    )
unfolding declared sets_of frozen
known_names = simp steps refl

-- `export declare namespace a.b { export let c: 1; let [d] = e; }`
-- The outer name stays, `declare` goes inside, and the pattern has no type.
namespace :
    declared env (module_ ((export (roll-Decl (Decl-F.TsNamespace true false (record {
      left = vThis.Ident (name
          (codes "a") 25 26);
      rest = ((name (codes "b") 27 28) ∷ []);
      span = at 25 28;
    }) ((export (roll-Decl (Decl-F.Var
    true vKind.Let ((declarator (bound_typed (name (codes "c") 42 43) (Some (vPart.TypeAnn (number_type (codes "1")
    45 46))) 42 46) None 42 46) ∷ []) (at 38 47))) 31 47) ∷ (statement (roll-Decl (Decl-F.Var false vKind.Let
    ((declarator (roll-Pat (Pat-F.Pat::Array ((bound (name (codes "d") 53 54) None) ∷ []) false None (at 52 55)))
    (Some (ident (name (codes "e") 58 59))) 52 59) ∷ []) (at 48 60)))) ∷ []) (at 7 62))) 0 62) ∷ []) 62) none
    ≡ (
      (module_ ((exported (vDecl.TsNamespace true false (record {
        left = vThis.Ident (name (codes "a") 25 26);
        rest
            = [];
        span = at 25 26;
      }) ((exported (vDecl.Var false vKind.Let ((declarator (bound_typed (name (codes "c") 42
          43) (Some (vPart.TypeAnn (number_type (codes "1") 45 46))) 42 46) None 42 46) ∷ []) (at 38 47)) 31 47) ∷
          (vItem.Stmt (vStmt.Decl
          (vDecl.Var false vKind.Let ((declarator (roll-Pat (Pat-F.Pat::Array ((bound (name (codes
          "d") 53 54) None) ∷ []) false None (at 52 55))) None 52 59) ∷ []) (at 48 60)))) ∷ []) (at 7 62)) 0 62) ∷ [])
          62),
      (found_only (found kind.UnableToInferType 52 59 ∷ [])),
    )
unfolding declared sets_of frozen
namespace = simp steps refl

-- `enum E { A = 1 + 2, B = -1, C = f() as 3 }`
-- A sign is none of the operators that stay.
enum_values :
    declared env (module_ ((statement (roll-Decl (Decl-F.TsEnum false false (name (codes "E") 5 6) ((enum_member
    (ident (name (codes "A") 9 10)) (Some (roll-Expr (Expr-F.Bin vBinary.Add (number (codes "1") 13 14) (number
    (codes "2") 17 18) (at 13 18)))) 9 18) ∷ (enum_member (ident (name (codes "B") 20 21)) (Some (roll-Expr
    (Expr-F.Unary vUnary.Minus (number (codes "1") 25 26) (at 24 26)))) 20 26) ∷ (enum_member (ident (name (codes
    "C") 28 29)) (Some (roll-Expr (Expr-F.TsAs (roll-Expr (Expr-F.Call (ident (name (codes "f") 32 33)) false None
    [] (at 32 35))) (Some (vPart.TypeAnn (number_type (codes "3") 39 40))) (at 32 40)))) 28 40) ∷ []) (at 0 42)))) ∷
    []) 42) none
    ≡ (
      (module_ ((vItem.Stmt (vStmt.Decl (vDecl.TsEnum true false (name (codes "E") 5 6) ((enum_member (ident (name
          (codes "A") 9 10)) (Some (roll-Expr (Expr-F.Bin vBinary.Add (number (codes "1") 13 14) (number (codes "2") 17
          18) (at 13 18)))) 9 18) ∷ (enum_member (ident (name (codes "B") 20 21)) None 20 26)
          ∷ (enum_member (ident (name
          (codes "C") 28 29)) (Some
          (roll-Expr (Expr-F.TsAs (roll-Expr (Expr-F.Call (ident (name (codes "f") 32 33)) false
          None [] (at 32 35))) (Some (vPart.TypeAnn (number_type (codes "3") 39 40))) (at 32 40)))) 28 40) ∷ []) (at 0
          42)))) ∷ []) 42),
      none,
    )
unfolding declared sets_of frozen
enum_values = simp steps refl

-- `const a: A = b; const c = { a }; c;`
-- A script has no known names, and what is no declaration goes.
in_a_script :
    declared env (script ((roll-Stmt (Stmt-F.Decl (const_ false ((declarator (bound_typed (name (codes "a") 6 7)
    (Some (vPart.TypeAnn (named_type (name (codes "A") 9 10)))) 6 10) (Some (ident (name (codes "b") 13 14))) 6 14)
    ∷ []) 0 15))) ∷ (roll-Stmt (Stmt-F.Decl (const_ false ((declarator (bound (name (codes "c") 22 23) None) (Some
    (roll-Expr (Expr-F.Expr::Object (roll-Prop (Prop-F.Shorthand (name (codes "a") 28 29)) ∷ []) (at 26 31)))) 22
    31) ∷ []) 16 32))) ∷ (roll-Stmt (Stmt-F.Stmt::Expr (ident (name (codes "c") 33 34)) (at 33 35))) ∷ []) 35) none
    ≡ (
      (script ((vStmt.Decl (declared_const ((declarator (bound_typed (name (codes "a") 6 7) (Some (vPart.TypeAnn
          (named_type (name (codes "A") 9 10)))) 6 10) None 6 14) ∷ []) 0 15))
          ∷ (vStmt.Decl (declared_const ((typed (name
          (codes "c") 22 23) (vType.TypeLit [] nowhere) 22 31) ∷ []) 16 32)) ∷ []) 35),
      (found_only (found
          kind.UnableToInferTypeFromProp 28 29 ∷ [])),
    )
unfolding declared sets_of frozen
in_a_script = simp steps refl

-- `export using a = b;`
exported_using :
    declared env (module_ ((export (roll-Decl (Decl-F.Var false vKind.Using ((declarator (bound (name (codes "a") 13
    14) None) (Some (ident (name (codes "b") 17 18))) 13 18) ∷ []) (at 7 19))) 0 19) ∷ []) 19) none
    ≡ ((module_ [] 19), (found_only (found kind.UnsupportedUsing 7 19 ∷ found kind.UnableToInferType 0 19 ∷ [])))
unfolding declared sets_of frozen
exported_using = simp steps refl

-- `function f(): void; function f() {}`
overloaded :
    overloads (module_ ((statement (roll-Decl (Decl-F.Decl::Fn false (function (Some (name (codes "f") 9 10)) []
    (Some (vPart.TypeAnn (vType.Keyword keyword.Void (at 14 18)))) None 0 19) (at 0 19)))) ∷ (statement (roll-Decl
    (Decl-F.Decl::Fn false (function (Some (name (codes "f") 29 30)) [] None (Some (roll-Stmt (Stmt-F.Block [] (at
    33 35)))) 20 35) (at 20 35)))) ∷ []) 35)
    ≡ ((at 20 35) ∷ [])
unfolding overloads
overloaded = simp overload_steps refl
