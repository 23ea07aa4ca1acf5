-- When the sites of a part of a tree cut their literals, and the forms that have a site of their own.
use Rattle.std.specs.Prelude.{Bool, List, [], ◌∷◌, ◌++◌, Option, Some, None}
use Rattle.std.specs.List.{flat_map}
use Rattle.std.proofs.Common.{◌≡◌, ℕ, sym, ap, ◌∙◌, subst}
use Rattle.base.specs.declared.range.Range.{Range}
use Rattle.es_ast.specs.declared.ts.leaf.Str.{Str}
use Rattle.es_ast.specs.declared.leaf.Lit.{Lit}
use Rattle.es_ast.specs.declared.leaf.Lit.TheVariants as vLit
use Rattle.es_ast.specs.declared.leaf.ImportDecl.{ImportDecl}
use Rattle.es_ast.specs.declared.leaf.ImportPhase.{ImportPhase}
use Rattle.es_ast.specs.declared.leaf.NamedExport.{NamedExport}
use Rattle.es_ast.specs.declared.leaf.ExportAll.{ExportAll}
use Rattle.es_ast.specs.declared.leaf.TsImportEqualsDecl.{TsImportEqualsDecl}
use Rattle.es_ast.specs.declared.leaf.TsModuleRef.{TsModuleRef}
use Rattle.es_ast.specs.declared.leaf.TsModuleRef.TheVariants.{TsEntityName, TsExternalModuleRef}
use Rattle.es_ast.specs.declared.ast.ClassMember.{ClassMember}
use Rattle.es_ast.specs.declared.ast.Decl.{Decl}
use Rattle.es_ast.specs.declared.ast.Expr.{Expr, roll-Expr, out-Expr, out-roll-Expr}
use Rattle.es_ast.specs.declared.ast.Expr.TheVariants as vExpr
use Rattle.es_ast.specs.declared.ast.ModuleDecl.{ModuleDecl}
use Rattle.es_ast.specs.declared.ast.ModuleDecl.TheVariants as vModuleDecl
use Rattle.es_ast.specs.declared.ast.ModuleItem.{ModuleItem}
use Rattle.es_ast.specs.declared.ast.ObjectPatProp.{ObjectPatProp}
use Rattle.es_ast.specs.declared.ast.Pat.{Pat}
use Rattle.es_ast.specs.declared.ast.Prop.{Prop}
use Rattle.es_ast.specs.declared.ast.Stmt.{Stmt}
use Rattle.es_ast.specs.declared.ast.Class.{Class, roll-Class, out-Class, out-roll-Class}
use Rattle.es_ast.specs.declared.ast.Function.{Function, roll-Function, out-Function, out-roll-Function}
use Rattle.es_ast.specs.declared.ast.Param.{Param, roll-Param, out-roll-Param}
use Rattle.es_ast.specs.declared.ast.SwitchCase.{SwitchCase, roll-SwitchCase, out-SwitchCase, out-roll-SwitchCase}
use Rattle.es_ast.specs.declared.ast.TsEnumMember.{TsEnumMember, roll-TsEnumMember, out-TsEnumMember, out-roll-TsEnumMember}
use Rattle.es_ast.specs.declared.ast.VarDeclarator.{VarDeclarator, roll-VarDeclarator, out-VarDeclarator, out-roll-VarDeclarator}
use Rattle.es_ast.specs.declared.ast.ClassMember.TheOpen.{Expr-F, Class-F, Function-F, Param-F, SwitchCase-F, TsEnumMember-F, VarDeclarator-F}
use Rattle.es_site.specs.Parts.{Whole, ExprParts}
use Rattle.es_site.specs.declared.site.Site.{Site}
use Rattle.es_site.specs.Sites.{Found, if_some, CutsLiteral, export_site, module_ref_sites, first_argument, call_sites}
use Rattle.es_site.specs.Sites.{sites_of_class_member, sites_of_decl, sites_of_expr, sites_of_module_decl, sites_of_module_item, sites_of_object_pat_prop, sites_of_pat, sites_of_prop, sites_of_stmt, sites_of_class, sites_of_function, sites_of_param, sites_of_switch_case, sites_of_ts_enum_member, sites_of_var_declarator}
use Rattle.es_site.proofs.Equations.{expr_Lit, expr_ImportCall, module_decl_Import, module_decl_ExportNamed, module_decl_ExportAll, module_decl_TsImportEquals, class_parts, function_parts, param_parts, switch_case_parts, ts_enum_member_parts, var_declarator_parts}

-- the claim holds of each item
abbrev pub Each : {A : Type 0} → (A → Type 0) → List A → Type 0
Each P [] = Unit {0}
Each P (a ∷ items) = P a × Each P items

-- the claim holds of what is there
abbrev pub Opt : {A : Type 0} → (A → Type 0) → Option A → Type 0
Opt P (Some a) = P a
Opt P None = Unit {0}

-- the sites cut their literals
abbrev pub Cut : List ℕ → List Site → Type 0
Cut x sites = Each (λ (site : Site). CutsLiteral x site.range site.value) sites

-- a string literal is cut
abbrev pub StrCuts : List ℕ → Str → Type 0
StrCuts x s = CutsLiteral x s.span s.value

abbrev pub LitCuts : List ℕ → Lit → Type 0
LitCuts x (vLit.Str s) = StrCuts x s
LitCuts x _ = Unit {0}

-- an expression that is a string literal is cut
abbrev pub LayerCuts : List ℕ → ExprParts → Type 0
LayerCuts x (Expr-F.Lit it) = LitCuts x it
LayerCuts x _ = Unit {0}

abbrev pub ExprCuts : List ℕ → Expr → Type 0
ExprCuts x e = Cut x (sites_of_expr e) × LayerCuts x (out-Expr e)

abbrev pub MemberCuts : List ℕ → ClassMember → Type 0
MemberCuts x it = Cut x (sites_of_class_member it)

abbrev pub DeclCuts : List ℕ → Decl → Type 0
DeclCuts x it = Cut x (sites_of_decl it)

abbrev pub ModuleDeclCuts : List ℕ → ModuleDecl → Type 0
ModuleDeclCuts x it = Cut x (sites_of_module_decl it)

abbrev pub ItemCuts : List ℕ → ModuleItem → Type 0
ItemCuts x it = Cut x (sites_of_module_item it)

abbrev pub PatPropCuts : List ℕ → ObjectPatProp → Type 0
PatPropCuts x it = Cut x (sites_of_object_pat_prop it)

abbrev pub PatCuts : List ℕ → Pat → Type 0
PatCuts x it = Cut x (sites_of_pat it)

abbrev pub PropCuts : List ℕ → Prop → Type 0
PropCuts x it = Cut x (sites_of_prop it)

abbrev pub StmtCuts : List ℕ → Stmt → Type 0
StmtCuts x it = Cut x (sites_of_stmt it)

abbrev pub ClassCuts : List ℕ → Class → Type 0
ClassCuts x it = Cut x (sites_of_class it)

abbrev pub FunctionCuts : List ℕ → Function → Type 0
FunctionCuts x it = Cut x (sites_of_function it)

abbrev pub ParamCuts : List ℕ → Param → Type 0
ParamCuts x it = Cut x (sites_of_param it)

abbrev pub CaseCuts : List ℕ → SwitchCase → Type 0
CaseCuts x it = Cut x (sites_of_switch_case it)

abbrev pub DeclaratorCuts : List ℕ → VarDeclarator → Type 0
DeclaratorCuts x it = Cut x (sites_of_var_declarator it)

abbrev pub EnumMemberCuts : List ℕ → TsEnumMember → Type 0
EnumMemberCuts x it = Cut x (sites_of_ts_enum_member it)

-- ---- lists of sites
pub cut_both : (x : List ℕ) (a b : List Site) → Cut x a → Cut x b → Cut x (a ++ b)
cut_both x [] b f g = g
cut_both x (s ∷ a) b f g = (f.0, cut_both x a b f.1 g)

pub cut_at : (x : List ℕ) (a b : List Site) → a ≡ b → Cut x b → Cut x a
cut_at x a b e f = let P : List Site → Type 0 = λ s. Cut x s in subst P (sym e) f

pub all_cut : {A : Type 0} (x : List ℕ) (sites : A → Found) (items : List A) → Each (λ a. Cut x (sites a)) items
    → Cut x (flat_map sites items)
all_cut x sites [] f = tt
all_cut x sites (a ∷ items) f = cut_both x (sites a) (flat_map sites items) f.0 (all_cut x sites items f.1)

pub exprs_cut : (x : List ℕ) (es : List Expr) → Each (ExprCuts x) es → Cut x (flat_map sites_of_expr es)
exprs_cut x [] f = tt
exprs_cut x (e ∷ es) f = cut_both x (sites_of_expr e) (flat_map sites_of_expr es) f.0.0 (exprs_cut x es f.1)

pub if_cut : {A : Type 0} (x : List ℕ) (sites : A → Found) (o : Option A) → Opt (λ a. Cut x (sites a)) o
    → Cut x (if_some sites o)
if_cut x sites (Some a) f = f
if_cut x sites None f = tt

pub expr_if_cut : (x : List ℕ) (o : Option Expr) → Opt (ExprCuts x) o → Cut x (if_some sites_of_expr o)
expr_if_cut x (Some e) f = f.0
expr_if_cut x None f = tt

-- ---- expressions, and literals
pub expr_by : (x : List ℕ) (e : Expr) (it : ExprParts) (found : List Site) → roll-Expr it ≡ e → sites_of_expr e ≡ found
    → Cut x found → LayerCuts x it → ExprCuts x e
expr_by x e it found rolls is cut lit = (
  cut_at x (sites_of_expr e) found is cut,
  (let P : ExprParts → Type 0 = λ w. LayerCuts x w in subst P (sym (out-roll-Expr it) ∙ ap out-Expr rolls) lit),
)

pub expr_Lit_cuts : (x : List ℕ) (it : Lit) → LitCuts x it → ExprCuts x (vExpr.Lit it)
expr_Lit_cuts x it f = expr_by x (vExpr.Lit it) (Expr-F.Lit it) _ (vExpr.rolls-Lit it) (expr_Lit [] it) tt f

-- ---- forms that have a site of their own
argument_cut : (x : List ℕ) (p : ImportPhase) (it : ExprParts) (rest : List Expr) → LayerCuts x it
    → Cut x (first_argument p it rest)
argument_cut x p (Expr-F.Lit (vLit.Str src)) rest f = (f, tt)
argument_cut x p _ rest f = tt

call_cut : (x : List ℕ) (p : ImportPhase) (args : List Expr) → Each (ExprCuts x) args → Cut x (call_sites p args)
call_cut x p [] f = tt
call_cut x p (first ∷ rest) f = argument_cut x p (out-Expr first) rest f.0.1

pub expr_ImportCall_cuts : (x : List ℕ) (phase : ImportPhase) (args : List Expr) (span : Range) → Each (ExprCuts x) args
    → ExprCuts x (vExpr.ImportCall phase args span)
expr_ImportCall_cuts x phase args span f =
    expr_by x (vExpr.ImportCall phase args span) (Expr-F.ImportCall phase args span) _
    (vExpr.rolls-ImportCall phase args span) (expr_ImportCall [] phase args span)
    (cut_both x (call_sites phase args) (flat_map sites_of_expr args) (call_cut x phase args f) (exprs_cut x args f)) tt

pub module_decl_Import_cuts : (x : List ℕ) (it : ImportDecl) → StrCuts x it.src
    → ModuleDeclCuts x (vModuleDecl.Import it)
module_decl_Import_cuts x it f =
    cut_at x (sites_of_module_decl (vModuleDecl.Import it)) _ (module_decl_Import [] it) (f, tt)

pub module_decl_ExportAll_cuts : (x : List ℕ) (it : ExportAll) → StrCuts x it.src
    → ModuleDeclCuts x (vModuleDecl.ExportAll it)
module_decl_ExportAll_cuts x it f =
    cut_at x (sites_of_module_decl (vModuleDecl.ExportAll it)) _ (module_decl_ExportAll [] it) (f, tt)

export_cut : (x : List ℕ) (type_only : Bool) (attribute : _) (src : Option Str) → Opt (StrCuts x) src
    → Cut x (export_site type_only attribute src)
export_cut x type_only attribute (Some src) f = (f, tt)
export_cut x type_only attribute None f = tt

pub module_decl_ExportNamed_cuts : (x : List ℕ) (it : NamedExport) → Opt (StrCuts x) it.src
    → ModuleDeclCuts x (vModuleDecl.ExportNamed it)
module_decl_ExportNamed_cuts x it f =
    cut_at x (sites_of_module_decl (vModuleDecl.ExportNamed it)) _ (module_decl_ExportNamed [] it)
    (export_cut x it.type_only _ it.src f)

abbrev pub RefCuts : List ℕ → TsModuleRef → Type 0
RefCuts x (TsExternalModuleRef src span) = StrCuts x src
RefCuts x (TsEntityName name) = Unit {0}

ref_cut : (x : List ℕ) (type_only : Bool) (ref : TsModuleRef) → RefCuts x ref → Cut x (module_ref_sites type_only ref)
ref_cut x type_only (TsExternalModuleRef src span) f = (f, tt)
ref_cut x type_only (TsEntityName name) f = tt

pub module_decl_TsImportEquals_cuts : (x : List ℕ) (it : TsImportEqualsDecl) → RefCuts x it.module_ref
    → ModuleDeclCuts x (vModuleDecl.TsImportEquals it)
module_decl_TsImportEquals_cuts x it f =
    cut_at x (sites_of_module_decl (vModuleDecl.TsImportEquals it)) _ (module_decl_TsImportEquals [] it)
    (ref_cut x it.type_only it.module_ref f)

-- ---- records
pub class_cuts : (x : List ℕ) (r : Whole Class-F) → Opt (ExprCuts x) r.super_class → Each (MemberCuts x) r.body
    → ClassCuts x (roll-Class r)
class_cuts x r f g =
    let P : Whole Class-F → Type 0 = λ w. Opt (ExprCuts x) w.super_class × Each (MemberCuts x) w.body in
    let h = subst P (sym (out-roll-Class r)) (f, g) in
    let it = roll-Class r in
    cut_at x (sites_of_class it) _ (class_parts [] it)
    (cut_both x (if_some sites_of_expr (out-Class it).super_class) (flat_map sites_of_class_member (out-Class it).body)
    (expr_if_cut x (out-Class it).super_class h.0) (all_cut x sites_of_class_member (out-Class it).body h.1))

pub function_cuts : (x : List ℕ) (r : Whole Function-F) → Each (ParamCuts x) r.params → Opt (StmtCuts x) r.body
    → FunctionCuts x (roll-Function r)
function_cuts x r f g =
    let P : Whole Function-F → Type 0 = λ w. Each (ParamCuts x) w.params × Opt (StmtCuts x) w.body in
    let h = subst P (sym (out-roll-Function r)) (f, g) in
    let it = roll-Function r in
    cut_at x (sites_of_function it) _ (function_parts [] it)
    (cut_both x (flat_map sites_of_param (out-Function it).params) (if_some sites_of_stmt (out-Function it).body)
    (all_cut x sites_of_param (out-Function it).params h.0) (if_cut x sites_of_stmt (out-Function it).body h.1))

pub param_cuts : (x : List ℕ) (r : Whole Param-F) → PatCuts x r.pat → ParamCuts x (roll-Param r)
param_cuts x r f =
    let P : Whole Param-F → Type 0 = λ w. PatCuts x w.pat in
    cut_at x (sites_of_param (roll-Param r)) _ (param_parts [] (roll-Param r)) (subst P (sym (out-roll-Param r)) f)

pub switch_case_cuts : (x : List ℕ) (r : Whole SwitchCase-F) → Opt (ExprCuts x) r.test → Each (StmtCuts x) r.cons
    → CaseCuts x (roll-SwitchCase r)
switch_case_cuts x r f g =
    let P : Whole SwitchCase-F → Type 0 = λ w. Opt (ExprCuts x) w.test × Each (StmtCuts x) w.cons in
    let h = subst P (sym (out-roll-SwitchCase r)) (f, g) in
    let it = roll-SwitchCase r in
    cut_at x (sites_of_switch_case it) _ (switch_case_parts [] it)
    (cut_both x (if_some sites_of_expr (out-SwitchCase it).test) (flat_map sites_of_stmt (out-SwitchCase it).cons)
    (expr_if_cut x (out-SwitchCase it).test h.0) (all_cut x sites_of_stmt (out-SwitchCase it).cons h.1))

pub var_declarator_cuts : (x : List ℕ) (r : Whole VarDeclarator-F) → PatCuts x r.name → Opt (ExprCuts x) r.init
    → DeclaratorCuts x (roll-VarDeclarator r)
var_declarator_cuts x r f g =
    let P : Whole VarDeclarator-F → Type 0 = λ w. PatCuts x w.name × Opt (ExprCuts x) w.init in
    let h = subst P (sym (out-roll-VarDeclarator r)) (f, g) in
    let it = roll-VarDeclarator r in
    cut_at x (sites_of_var_declarator it) _ (var_declarator_parts [] it)
    (cut_both x (sites_of_pat (out-VarDeclarator it).name) (if_some sites_of_expr (out-VarDeclarator it).init) h.0
    (expr_if_cut x (out-VarDeclarator it).init h.1))

pub ts_enum_member_cuts : (x : List ℕ) (r : Whole TsEnumMember-F) → ExprCuts x r.id → Opt (ExprCuts x) r.init
    → EnumMemberCuts x (roll-TsEnumMember r)
ts_enum_member_cuts x r f g =
    let P : Whole TsEnumMember-F → Type 0 = λ w. ExprCuts x w.id × Opt (ExprCuts x) w.init in
    let h = subst P (sym (out-roll-TsEnumMember r)) (f, g) in
    let it = roll-TsEnumMember r in
    cut_at x (sites_of_ts_enum_member it) _ (ts_enum_member_parts [] it)
    (cut_both x (sites_of_expr (out-TsEnumMember it).id) (if_some sites_of_expr (out-TsEnumMember it).init) h.0.0
    (expr_if_cut x (out-TsEnumMember it).init h.1))
