-- What the rules make of items, form by form.
use Rattle.std.specs.Prelude.{ℕ, ◌+◌, Bool, true, false, ◌&&◌, List, [], ◌∷◌, ◌++◌, Option, Some, None, option_map}
use Rattle.std.proofs.Common.{◌≡◌, refl, sym, ap, subst, ◌∙◌}
use Rattle.base.specs.declared.range.Range.{Range}
use Rattle.es_ast.specs.declared.ts.leaf.Ident.{Ident}
use Rattle.es_ast.specs.declared.ast.Decl.{Decl}
use Rattle.es_ast.specs.declared.ast.Expr.{Expr, out-Expr}
use Rattle.es_ast.specs.declared.ast.ModuleDecl.{ModuleDecl, roll-ModuleDecl}
use Rattle.es_ast.specs.declared.ast.ModuleDecl.TheVariants as vModule
use Rattle.es_ast.specs.declared.ast.ModuleItem.{ModuleItem}
use Rattle.es_ast.specs.declared.ast.ModuleItem.TheVariants as vItem
use Rattle.es_ast.specs.declared.ast.Stmt.{Stmt}
use Rattle.es_ast.specs.declared.ast.Stmt.TheVariants as vStmt
use Rattle.es_ast.specs.declared.ast.ClassMember.TheOpen.{Expr-F, ModuleDecl-F, ModuleItem-F, Stmt-F}
use Rattle.es_site.specs.Parts.{Whole}
use Rattle.es_lowering.specs.Value.{option_list}
use Rattle.dts_rules.specs.Made.{made_name}
use Rattle.dts_rules.specs.Rules.{Env, Run, Shown, ShownItem, ShownStmt, State, after, drawn, flat, in_turn, some}
use Rattle.dts_rules.specs.Programs as programs
use Rattle.dts_rules.specs.Programs.{in_module_decl, shown_decl, shown_expr, shown_item, shown_module_decl, shown_stmt}
use Rattle.dts_rules.proofs.Shown.{at_item, at_module_decl, at_stmt, beside_module_decl}
use Rattle.dts_items.specs.Items.{as_items}

-- statements in order, each with what may become of it, are lists in order
pub as_lists : {A B : Type 0} (f : A → Run (Option B)) (them : List A) (s : State)
    → after (λ (all : List (List B)). flat all) (in_turn (λ a s. after option_list (f a s)) them s)
    ≡ after (λ (all : List (Option B)). some all) (in_turn f them s)
as_lists f [] s = refl
as_lists {A} {B} f (a ∷ them) s =
    ap (λ (p : List B × State). (option_list (f a s).0 ++ p.0, p.1)) (as_lists f them (f a s).1)
    ∙ joined (f a s).0 (in_turn f them (f a s).1)
  where
    joined : (o : Option B) (p : List (Option B) × State)
        → ◌≡◌ {A = List B × State} (option_list o ++ some p.0, p.1) (some (o ∷ p.0), p.1)
    joined None p = refl
    joined (Some b) p = refl

module _ (env : Env) (top : Bool) (s : State) where
  pub item_of_stmt : (it : Stmt)
      → shown_item env (vItem.Stmt it) top s ≡ after as_items (shown_stmt env it top s)
  item_of_stmt it =
      ap (λ (i : ModuleItem). shown_item env i top s) (sym (vItem.rolls-Stmt it))
      ∙ (ap (λ (run : ShownItem). run top s) (at_item env (ModuleItem-F.Stmt it)) ∙ same (shown_stmt env it top s))
    where
      same : (p : Option Stmt × State) → after (programs.if_stmt env) p ≡ after as_items p
      same (None, s) = refl
      same (Some it, s) = refl

  pub item_of_module : (it : ModuleDecl)
      → shown_item env (vItem.ModuleDecl it) top s ≡ shown_module_decl env it top s
  item_of_module it =
      ap (λ (i : ModuleItem). shown_item env i top s) (sym (vItem.rolls-ModuleDecl it))
      ∙ ap (λ (run : ShownItem). run top s) (at_item env (ModuleItem-F.ModuleDecl it))

  pub stmt_of_decl : (d : Decl)
      → shown_stmt env (vStmt.Decl d) top s
      ≡ programs.stmt_decl env ((shown_decl env d).is_function && env.implements (shown_decl env d).span)
      (shown_decl env d).stays (d, shown_decl env d) top s
  stmt_of_decl d =
      ap (λ (it : Stmt). shown_stmt env it top s) (sym (vStmt.rolls-Decl d))
      ∙ ap (λ (run : ShownStmt). run top s) (at_stmt env (Stmt-F.Decl d))

  module_by : (it : ModuleDecl) (w : Whole ModuleDecl-F) → roll-ModuleDecl w ≡ it
      → shown_module_decl env it top s ≡ in_module_decl env (beside_module_decl env w) top s
  module_by it w rolls =
      ap (λ (it : ModuleDecl). shown_module_decl env it top s) (sym rolls)
      ∙ ap (λ (run : ShownItem). run top s) (at_module_decl env w)

  pub exported_is : (d : Decl) (r : Range)
      → shown_module_decl env (vModule.ExportDecl d r) top s
      ≡ programs.export_decl env ((shown_decl env d).is_function && env.implements r) (d, shown_decl env d) r top s
  exported_is d r = module_by _ (ModuleDecl-F.ExportDecl d r) (vModule.rolls-ExportDecl d r)

  pub defaulted_is : (d : Decl) (r : Range)
      → shown_module_decl env (vModule.ExportDefaultDecl d r) top s
      ≡ programs.export_default env ((shown_decl env d).is_function && env.implements r) (d, shown_decl env d) r s
  defaulted_is d r = module_by _ (ModuleDecl-F.ExportDefaultDecl d r) (vModule.rolls-ExportDefaultDecl d r)

  pub default_expr_is : (e : Expr) (r : Range)
      → shown_module_decl env (vModule.ExportDefaultExpr e r) top s
      ≡ programs.default_expr env (out-Expr e) (e, shown_expr env e) r s
  default_expr_is e r = module_by _ (ModuleDecl-F.ExportDefaultExpr e r) (vModule.rolls-ExportDefaultExpr e r)

-- ---- imports and exports that stay
module _ (env : Env) where
  abbrev pub Keeps : ModuleDecl → Type 0
  Keeps it = (top : Bool) (s : State) → shown_module_decl env it top s ≡ (vItem.ModuleDecl it ∷ [], s)

  pub keeps_by : (it : ModuleDecl) (w : Whole ModuleDecl-F) → roll-ModuleDecl w ≡ it
      → ((top : Bool) (s : State) → in_module_decl env (beside_module_decl env w) top s ≡ (vItem.ModuleDecl it ∷ [], s))
      → Keeps it
  keeps_by it w rolls e top s = module_by env top s it w rolls ∙ e top s

  -- ---- `export default` of an expression
  pub default_name : (w : Whole Expr-F) (id : Ident) (e : Expr × Shown) (r : Range) (s : State)
      → w ≡ Expr-F.Expr::Ident id
      → programs.default_expr env w e r s ≡ (vItem.ModuleDecl (vModule.ExportDefaultExpr e.0 r) ∷ [], s)
  default_name w id e r s is = ap (λ (w : Whole Expr-F). programs.default_expr env w e r s) is

  -- a name that is none
  abbrev pub IsNoName : Whole Expr-F → Type 0
  IsNoName w = (id : Ident) → w ≡ Expr-F.Expr::Ident id → ⊥

  pub default_other : (w : Whole Expr-F) (e : Expr × Shown) (r : Range) (s : State) → IsNoName w
      → programs.default_expr env w e r s
      ≡ programs.with_const env e.0 r (made_name (env.name (s.made + 1))) (e.1.rule false true (drawn s))
  default_other (Expr-F.Expr::Ident id) e r s none = absurd (none id refl)
  default_other (Expr-F.Expr::This at) e r s none = refl
  default_other (Expr-F.Super at) e r s none = refl
  default_other (Expr-F.PrivateName id) e r s none = refl
  default_other (Expr-F.Lit it) e r s none = refl
  default_other (Expr-F.Expr::Hole at) e r s none = refl
  default_other (Expr-F.Expr::Array elems at) e r s none = refl
  default_other (Expr-F.Expr::Spread inner at) e r s none = refl
  default_other (Expr-F.Expr::Object props at) e r s none = refl
  default_other (Expr-F.Expr::Fn it) e r s none = refl
  default_other (Expr-F.Expr::Class it) e r s none = refl
  default_other (Expr-F.Arrow it) e r s none = refl
  default_other (Expr-F.Paren inner at) e r s none = refl
  default_other (Expr-F.Unary op arg at) e r s none = refl
  default_other (Expr-F.Update op prefix arg at) e r s none = refl
  default_other (Expr-F.Await arg at) e r s none = refl
  default_other (Expr-F.Yield delegate arg at) e r s none = refl
  default_other (Expr-F.Bin op left right at) e r s none = refl
  default_other (Expr-F.Expr::Assign op left right at) e r s none = refl
  default_other (Expr-F.Cond test cons alt at) e r s none = refl
  default_other (Expr-F.Seq exprs at) e r s none = refl
  default_other (Expr-F.Member obj mark hidden prop at) e r s none = refl
  default_other (Expr-F.Index obj mark prop at) e r s none = refl
  default_other (Expr-F.Call callee mark type_args args at) e r s none = refl
  default_other (Expr-F.New callee type_args has_args args at) e r s none = refl
  default_other (Expr-F.ImportCall phase args at) e r s none = refl
  default_other (Expr-F.ImportMeta at) e r s none = refl
  default_other (Expr-F.NewTarget at) e r s none = refl
  default_other (Expr-F.Tpl quasis exprs at) e r s none = refl
  default_other (Expr-F.TaggedTpl tag type_args tpl at) e r s none = refl
  default_other (Expr-F.TsNonNull inner at) e r s none = refl
  default_other (Expr-F.TsAs inner ty at) e r s none = refl
  default_other (Expr-F.TsConstAssertion inner at) e r s none = refl
  default_other (Expr-F.TsSatisfies inner ty at) e r s none = refl
