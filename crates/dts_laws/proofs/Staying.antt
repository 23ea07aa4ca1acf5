-- What a module imports and exports from others stays.
use Rattle.std.proofs.Common.{◌≡◌, refl, sym, ◌∙◌, ap, ◌+◌, Bool, true, false, ◌&&◌, List, [], ◌∷◌, ◌++◌, Option, Some, None, if◌then◌else◌}
use Rattle.base.specs.declared.range.Range.{Range}
use Rattle.es_ast.specs.declared.ts.leaf.Ident.{Ident}
use Rattle.es_ast.specs.declared.ts.ts.TsType.{TsType}
use Rattle.es_ast.specs.declared.ast.Decl.{Decl}
use Rattle.es_ast.specs.declared.ast.Expr.{Expr, out-Expr}
use Rattle.es_ast.specs.declared.ast.Stmt.{Stmt}
use Rattle.es_ast.specs.declared.ast.Stmt.TheVariants as vStmt
use Rattle.es_ast.specs.declared.ast.ModuleDecl.{ModuleDecl, roll-ModuleDecl, out-ModuleDecl, out-roll-ModuleDecl, roll-out-ModuleDecl}
use Rattle.es_ast.specs.declared.ast.ModuleDecl.TheVariants as vModule
use Rattle.es_ast.specs.declared.ast.ModuleItem.{ModuleItem, roll-ModuleItem, out-ModuleItem, out-roll-ModuleItem, roll-out-ModuleItem}
use Rattle.es_ast.specs.declared.ast.ModuleItem.TheVariants as vItem
use Rattle.es_ast.specs.declared.ast.ClassMember.TheOpen.{Expr-F, ModuleDecl-F, ModuleItem-F}
use Rattle.es_site.specs.Parts.{Whole}
use Rattle.es_ast.specs.declared.ast.Decl.TheVariants as vDecl
use Rattle.es_ast.specs.declared.ast.Expr.TheVariants as vExpr
use Rattle.es_ast.specs.declared.ast.Pat.TheVariants as vPat
use Rattle.es_ast.specs.declared.ast.VarDeclarator.{roll-VarDeclarator}
use Rattle.es_ast.specs.declared.leaf.VarDeclKind.TheVariants as vKind
use Rattle.dts_rules.specs.Made.{made_name, nowhere, annotation}
use Rattle.dts_rules.specs.Rules.{Env, Shown, ShownDecl, State, drawn}
use Rattle.dts_rules.specs.Programs.{declared_items, default_expr, export_decl, export_default, exported, if_stmt, in_module_decl, in_module_item, one, shown_decl, shown_item, shown_module_decl, shown_stmt, with_const}
use Rattle.dts_rules.proofs.Shown.{at_item, at_module_decl, beside_item, beside_module_decl, with_decl, with_expr}
use Rattle.dts_laws.specs.Stays.{decl_stays, item_stays, item_stays_by, staying}

-- ---- lists
abbrev if_stays : ModuleItem → Bool → List ModuleItem → List ModuleItem
if_stays it b others = if b then it ∷ others else others

both_by : (b : Bool) (it : ModuleItem) (a c : List ModuleItem)
    → if b then it ∷ (staying a ++ staying c) else (staying a ++ staying c) ≡ (if b then it ∷ staying a else staying a)
    ++ staying c
both_by true it a c = refl
both_by false it a c = refl

staying_both : (a c : List ModuleItem) → staying (a ++ c) ≡ staying a ++ staying c
staying_both [] c = refl
staying_both (it ∷ a) c = ap (if_stays it (item_stays it)) (staying_both a c) ∙ both_by (item_stays it) it a c

-- ---- one item
out_item : (d : ModuleDecl) → out-ModuleItem (vItem.ModuleDecl d) ≡ ModuleItem-F.ModuleDecl d
out_item d = ap out-ModuleItem (sym (vItem.rolls-ModuleDecl d)) ∙ out-roll-ModuleItem (ModuleItem-F.ModuleDecl d)

out_stmt : (it : Stmt) → out-ModuleItem (vItem.Stmt it) ≡ ModuleItem-F.Stmt it
out_stmt it = ap out-ModuleItem (sym (vItem.rolls-Stmt it)) ∙ out-roll-ModuleItem (ModuleItem-F.Stmt it)

-- one that doesn't stay
off : (it : ModuleItem) (others : List ModuleItem) → item_stays it ≡ false → staying (it ∷ others) ≡ staying others
off it others e = ap (λ b. if b then it ∷ staying others else staying others) e

off_stmt : (it : Stmt) (others : List ModuleItem) → staying (vItem.Stmt it ∷ others) ≡ staying others
off_stmt it others = off (vItem.Stmt it) others (ap item_stays_by (out_stmt it))

off_decl : (d : ModuleDecl) → decl_stays (out-ModuleDecl d) ≡ false → staying (vItem.ModuleDecl d ∷ []) ≡ []
off_decl d e = off (vItem.ModuleDecl d) [] (ap item_stays_by (out_item d) ∙ e)

out_decl : (w : Whole ModuleDecl-F) → decl_stays (out-ModuleDecl (roll-ModuleDecl w)) ≡ decl_stays w
out_decl w = ap decl_stays (out-roll-ModuleDecl w)

out_export_decl : (d : Decl) (r : Range) → decl_stays (out-ModuleDecl (vModule.ExportDecl d r)) ≡ false
out_export_decl d r =
    ap (λ e. decl_stays (out-ModuleDecl e)) (sym (vModule.rolls-ExportDecl d r))
    ∙ out_decl (ModuleDecl-F.ExportDecl d r)

out_default_decl : (d : Decl) (r : Range) → decl_stays (out-ModuleDecl (vModule.ExportDefaultDecl d r)) ≡ false
out_default_decl d r =
    ap (λ e. decl_stays (out-ModuleDecl e)) (sym (vModule.rolls-ExportDefaultDecl d r))
    ∙ out_decl (ModuleDecl-F.ExportDefaultDecl d r)

out_default_expr : (e : Expr) (r : Range) → decl_stays (out-ModuleDecl (vModule.ExportDefaultExpr e r)) ≡ false
out_default_expr e r =
    ap (λ d. decl_stays (out-ModuleDecl d)) (sym (vModule.rolls-ExportDefaultExpr e r))
    ∙ out_decl (ModuleDecl-F.ExportDefaultExpr e r)

module _ (env : Env) where
  -- ---- what is made of each declaration of a module
  exported_none : (span : Range) (o : Option Decl) (s : State) → staying (exported env span (o, s)).0 ≡ []
  exported_none span (Some d) s = off_decl (vModule.ExportDecl d span) (out_export_decl d span)
  exported_none span None s = refl

  export_none : (goes : Bool) (it : Decl × ShownDecl) (span : Range) (s : State)
      → staying (export_decl env goes it span true s).0 ≡ []
  export_none true it span s = refl
  export_none false it span s = exported_none span (it.1.declared true s).0 (it.1.declared true s).1

  default_none : (goes : Bool) (it : Decl × ShownDecl) (span : Range) (s : State)
      → staying (export_default env goes it span s).0 ≡ []
  default_none true it span s = refl
  default_none false it span s =
      off_decl (vModule.ExportDefaultDecl (it.1.defaulted s).0 span) (out_default_decl (it.1.defaulted s).0 span)

  const_none : (e : Expr) (span : Range) (name : Ident) (o : Option TsType) (s : State)
      → staying (with_const env e span name (o, s)).0 ≡ []
  const_none e span name (Some ty) s =
      off_stmt (vStmt.Decl (vDecl.Var true vKind.Const (roll-VarDeclarator (record {
        name = vPat.Ident name (annotation ty) nowhere;
        definite = false;
        init = None;
        span = nowhere;
      }) ∷ []) nowhere)) (one env (vModule.ExportDefaultExpr (vExpr.Ident name) span))
      ∙ off_decl (vModule.ExportDefaultExpr (vExpr.Ident name) span) (out_default_expr (vExpr.Ident name) span)
  const_none e span name None s = off_decl (vModule.ExportDefaultExpr e span) (out_default_expr e span)

  expr_none : (it : Whole Expr-F) (u : Expr × Shown) (span : Range) (s : State)
      → staying (default_expr env it u span s).0 ≡ []
  expr_none (Expr-F.Expr::This span) u place s =
      const_none u.0 place (made_name (env.name (s.made + 1))) (u.1.rule false true (drawn s)).0
      (u.1.rule false true (drawn s)).1
  expr_none (Expr-F.Super span) u place s =
      const_none u.0 place (made_name (env.name (s.made + 1))) (u.1.rule false true (drawn s)).0
      (u.1.rule false true (drawn s)).1
  expr_none (Expr-F.Expr::Ident id) u place s =
      off_decl (vModule.ExportDefaultExpr u.0 place) (out_default_expr u.0 place)
  expr_none (Expr-F.PrivateName id) u place s =
      const_none u.0 place (made_name (env.name (s.made + 1))) (u.1.rule false true (drawn s)).0
      (u.1.rule false true (drawn s)).1
  expr_none (Expr-F.Lit it) u place s =
      const_none u.0 place (made_name (env.name (s.made + 1))) (u.1.rule false true (drawn s)).0
      (u.1.rule false true (drawn s)).1
  expr_none (Expr-F.Expr::Hole span) u place s =
      const_none u.0 place (made_name (env.name (s.made + 1))) (u.1.rule false true (drawn s)).0
      (u.1.rule false true (drawn s)).1
  expr_none (Expr-F.Expr::Array elems span) u place s =
      const_none u.0 place (made_name (env.name (s.made + 1))) (u.1.rule false true (drawn s)).0
      (u.1.rule false true (drawn s)).1
  expr_none (Expr-F.Expr::Spread expr span) u place s =
      const_none u.0 place (made_name (env.name (s.made + 1))) (u.1.rule false true (drawn s)).0
      (u.1.rule false true (drawn s)).1
  expr_none (Expr-F.Expr::Object props span) u place s =
      const_none u.0 place (made_name (env.name (s.made + 1))) (u.1.rule false true (drawn s)).0
      (u.1.rule false true (drawn s)).1
  expr_none (Expr-F.Expr::Fn it) u place s =
      const_none u.0 place (made_name (env.name (s.made + 1))) (u.1.rule false true (drawn s)).0
      (u.1.rule false true (drawn s)).1
  expr_none (Expr-F.Expr::Class it) u place s =
      const_none u.0 place (made_name (env.name (s.made + 1))) (u.1.rule false true (drawn s)).0
      (u.1.rule false true (drawn s)).1
  expr_none (Expr-F.Arrow it) u place s =
      const_none u.0 place (made_name (env.name (s.made + 1))) (u.1.rule false true (drawn s)).0
      (u.1.rule false true (drawn s)).1
  expr_none (Expr-F.Paren expr span) u place s =
      const_none u.0 place (made_name (env.name (s.made + 1))) (u.1.rule false true (drawn s)).0
      (u.1.rule false true (drawn s)).1
  expr_none (Expr-F.Unary op arg span) u place s =
      const_none u.0 place (made_name (env.name (s.made + 1))) (u.1.rule false true (drawn s)).0
      (u.1.rule false true (drawn s)).1
  expr_none (Expr-F.Update op prefix arg span) u place s =
      const_none u.0 place (made_name (env.name (s.made + 1))) (u.1.rule false true (drawn s)).0
      (u.1.rule false true (drawn s)).1
  expr_none (Expr-F.Await arg span) u place s =
      const_none u.0 place (made_name (env.name (s.made + 1))) (u.1.rule false true (drawn s)).0
      (u.1.rule false true (drawn s)).1
  expr_none (Expr-F.Yield delegate arg span) u place s =
      const_none u.0 place (made_name (env.name (s.made + 1))) (u.1.rule false true (drawn s)).0
      (u.1.rule false true (drawn s)).1
  expr_none (Expr-F.Bin op left right span) u place s =
      const_none u.0 place (made_name (env.name (s.made + 1))) (u.1.rule false true (drawn s)).0
      (u.1.rule false true (drawn s)).1
  expr_none (Expr-F.Expr::Assign op left right span) u place s =
      const_none u.0 place (made_name (env.name (s.made + 1))) (u.1.rule false true (drawn s)).0
      (u.1.rule false true (drawn s)).1
  expr_none (Expr-F.Cond test cons alt span) u place s =
      const_none u.0 place (made_name (env.name (s.made + 1))) (u.1.rule false true (drawn s)).0
      (u.1.rule false true (drawn s)).1
  expr_none (Expr-F.Seq exprs span) u place s =
      const_none u.0 place (made_name (env.name (s.made + 1))) (u.1.rule false true (drawn s)).0
      (u.1.rule false true (drawn s)).1
  expr_none (Expr-F.Member obj mark hidden prop span) u place s =
      const_none u.0 place (made_name (env.name (s.made + 1))) (u.1.rule false true (drawn s)).0
      (u.1.rule false true (drawn s)).1
  expr_none (Expr-F.Index obj mark prop span) u place s =
      const_none u.0 place (made_name (env.name (s.made + 1))) (u.1.rule false true (drawn s)).0
      (u.1.rule false true (drawn s)).1
  expr_none (Expr-F.Call callee mark type_args args span) u place s =
      const_none u.0 place (made_name (env.name (s.made + 1))) (u.1.rule false true (drawn s)).0
      (u.1.rule false true (drawn s)).1
  expr_none (Expr-F.New callee type_args has_args args span) u place s =
      const_none u.0 place (made_name (env.name (s.made + 1))) (u.1.rule false true (drawn s)).0
      (u.1.rule false true (drawn s)).1
  expr_none (Expr-F.ImportCall phase args span) u place s =
      const_none u.0 place (made_name (env.name (s.made + 1))) (u.1.rule false true (drawn s)).0
      (u.1.rule false true (drawn s)).1
  expr_none (Expr-F.ImportMeta span) u place s =
      const_none u.0 place (made_name (env.name (s.made + 1))) (u.1.rule false true (drawn s)).0
      (u.1.rule false true (drawn s)).1
  expr_none (Expr-F.NewTarget span) u place s =
      const_none u.0 place (made_name (env.name (s.made + 1))) (u.1.rule false true (drawn s)).0
      (u.1.rule false true (drawn s)).1
  expr_none (Expr-F.Tpl quasis exprs span) u place s =
      const_none u.0 place (made_name (env.name (s.made + 1))) (u.1.rule false true (drawn s)).0
      (u.1.rule false true (drawn s)).1
  expr_none (Expr-F.TaggedTpl tag type_args tpl span) u place s =
      const_none u.0 place (made_name (env.name (s.made + 1))) (u.1.rule false true (drawn s)).0
      (u.1.rule false true (drawn s)).1
  expr_none (Expr-F.TsNonNull expr span) u place s =
      const_none u.0 place (made_name (env.name (s.made + 1))) (u.1.rule false true (drawn s)).0
      (u.1.rule false true (drawn s)).1
  expr_none (Expr-F.TsAs expr ty span) u place s =
      const_none u.0 place (made_name (env.name (s.made + 1))) (u.1.rule false true (drawn s)).0
      (u.1.rule false true (drawn s)).1
  expr_none (Expr-F.TsConstAssertion expr span) u place s =
      const_none u.0 place (made_name (env.name (s.made + 1))) (u.1.rule false true (drawn s)).0
      (u.1.rule false true (drawn s)).1
  expr_none (Expr-F.TsSatisfies expr ty span) u place s =
      const_none u.0 place (made_name (env.name (s.made + 1))) (u.1.rule false true (drawn s)).0
      (u.1.rule false true (drawn s)).1

  same_decl : (d e : ModuleDecl) → e ≡ d → staying (vItem.ModuleDecl d ∷ []) ≡ staying (vItem.ModuleDecl e ∷ [])
  same_decl d e is = ap (λ d. staying (vItem.ModuleDecl d ∷ [])) (sym is)

  rolled_off : (w : Whole ModuleDecl-F) → decl_stays w ≡ false
      → [] ≡ staying (vItem.ModuleDecl (roll-ModuleDecl w) ∷ [])
  rolled_off w e = sym (off_decl (roll-ModuleDecl w) (out_decl w ∙ e))

  decl_staying : (w : Whole ModuleDecl-F) (s : State)
      → staying (in_module_decl env (beside_module_decl env w) true s).0
      ≡ staying (vItem.ModuleDecl (roll-ModuleDecl w) ∷ [])
  decl_staying (ModuleDecl-F.Import it) s = same_decl (vModule.Import it) _ (vModule.rolls-Import it)
  decl_staying (ModuleDecl-F.ExportDecl decl span) s =
      export_none ((shown_decl env decl).is_function && env.implements span) (with_decl env decl) span s
      ∙ rolled_off (ModuleDecl-F.ExportDecl decl span) refl
  decl_staying (ModuleDecl-F.ExportNamed it) s = same_decl (vModule.ExportNamed it) _ (vModule.rolls-ExportNamed it)
  decl_staying (ModuleDecl-F.ExportDefaultDecl decl span) s =
      default_none ((shown_decl env decl).is_function && env.implements span) (with_decl env decl) span s
      ∙ rolled_off (ModuleDecl-F.ExportDefaultDecl decl span) refl
  decl_staying (ModuleDecl-F.ExportDefaultExpr expr span) s =
      expr_none (out-Expr expr) (with_expr env expr) span s ∙ rolled_off (ModuleDecl-F.ExportDefaultExpr expr span) refl
  decl_staying (ModuleDecl-F.ExportAll it) s = same_decl (vModule.ExportAll it) _ (vModule.rolls-ExportAll it)
  decl_staying (ModuleDecl-F.TsImportEquals it) s =
      same_decl (vModule.TsImportEquals it) _ (vModule.rolls-TsImportEquals it)
  decl_staying (ModuleDecl-F.TsExportAssignment expr span) s =
      same_decl (vModule.TsExportAssignment expr span) _ (vModule.rolls-TsExportAssignment expr span)
  decl_staying (ModuleDecl-F.TsNamespaceExport it) s =
      same_decl (vModule.TsNamespaceExport it) _ (vModule.rolls-TsNamespaceExport it)

  module_staying : (d : ModuleDecl) (s : State)
      → staying (shown_module_decl env d true s).0 ≡ staying (vItem.ModuleDecl d ∷ [])
  module_staying d s =
      ap (λ d. staying (shown_module_decl env d true s).0) (sym (roll-out-ModuleDecl d))
      ∙ ap (λ f. staying (f true s).0) (at_module_decl env (out-ModuleDecl d))
      ∙ decl_staying (out-ModuleDecl d) s
      ∙ ap (λ d. staying (vItem.ModuleDecl d ∷ [])) (roll-out-ModuleDecl d)

  -- ---- and of each item
  stmt_none : (o : Option Stmt) → staying (if_stmt env o) ≡ []
  stmt_none (Some it) = off_stmt it []
  stmt_none None = refl

  item_by : (w : Whole ModuleItem-F) (s : State)
      → staying (in_module_item env (beside_item env w) true s).0 ≡ staying (roll-ModuleItem w ∷ [])
  item_by (ModuleItem-F.ModuleDecl it) s =
      module_staying it s ∙ ap (λ i. staying (i ∷ [])) (sym (vItem.rolls-ModuleDecl it))
  item_by (ModuleItem-F.Stmt it) s =
      stmt_none (shown_stmt env it true s).0 ∙ sym (off_stmt it [])
      ∙ ap (λ i. staying (i ∷ [])) (sym (vItem.rolls-Stmt it))

  item_staying : (it : ModuleItem) (s : State) → staying (shown_item env it true s).0 ≡ staying (it ∷ [])
  item_staying it s =
      ap (λ i. staying (shown_item env i true s).0) (sym (roll-out-ModuleItem it))
      ∙ ap (λ f. staying (f true s).0) (at_item env (out-ModuleItem it))
      ∙ item_by (out-ModuleItem it) s
      ∙ ap (λ i. staying (i ∷ [])) (roll-out-ModuleItem it)

  pub items_staying : (them : List ModuleItem) (s : State) → staying (declared_items env them s).0 ≡ staying them
  items_staying [] s = refl
  items_staying (it ∷ others) s =
      let made = shown_item env it true s in
      staying_both made.0 (declared_items env others made.1).0
      ∙ ap (λ l. l ++ staying (declared_items env others made.1).0) (item_staying it s)
      ∙ ap (λ l. staying (it ∷ []) ++ l) (items_staying others made.1)
      ∙ sym (staying_both (it ∷ []) others)
