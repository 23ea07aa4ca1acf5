-- What imports, exports and programs become, where the literals that name modules are cut.
use Rattle.std.specs.Prelude.{Bool, false, List, Option, Some, None, option_map}
use Rattle.std.proofs.Common.{ℕ, ◌+◌}
use Rattle.base.specs.declared.range.Range.{Range}
use Rattle.es_token.specs.declared.token.Token.{Token}
use Rattle.es_ast.specs.declared.ts.leaf.Str.{Str}
use Rattle.es_ast.specs.declared.leaf.ImportAttributes.{ImportAttributes}
use Rattle.es_ast.specs.declared.leaf.ImportPhase.{ImportPhase}
use Rattle.es_ast.specs.declared.leaf.ImportPhase.TheVariants as vPhase
use Rattle.es_ast.specs.declared.ast.Stmt.{Stmt}
use Rattle.es_ast.specs.declared.ast.ModuleDecl.{ModuleDecl}
use Rattle.es_ast.specs.declared.ast.ModuleItem.TheVariants as vItem
use Rattle.es_site.specs.Sites.{sites_of_module_item, sites_of_stmt}
use Rattle.es_lowering.specs.Value.{Value, absent, nil, more, token, node, group, optional, is_there, turns, expr_at, stmt_at, decl_at, item_at, clause_at, export_specifier_at, attributes_at, entity_at}
use Rattle.es_lowering.specs.Texts.{ident_at, str_at, name_at, shebang_at}
use Rattle.es_lowering.specs.Modules.{bare_import, from_import, phase_import, require_import, entity_import, export_all, source_with, with_of, export_names, export_namespace, export_default_decl, export_default_expression, export_declaration, module_, script}
use Rattle.es_lowering.specs.Lowering.{item_by}
use Rattle.es_law_sites.proofs.ranges.Cuts.{Each, Opt, StrCuts, ExprCuts, DeclCuts, StmtCuts, ItemCuts, ModuleDeclCuts, all_cut, module_decl_Import_cuts, module_decl_ExportAll_cuts, module_decl_ExportNamed_cuts, module_decl_TsImportEquals_cuts}
use Rattle.es_law_sites.proofs.ranges.Forms.{module_decl_ExportDecl_cuts, module_decl_ExportDefaultDecl_cuts, module_decl_ExportDefaultExpr_cuts, module_decl_TsNamespaceExport_cuts, module_item_ModuleDecl_cuts, module_item_Stmt_cuts}
use Rattle.es_law_sites.proofs.ranges.Fine.{ProgramCuts, Fine, given_fine, given_any, map_fine, map_any, group_fine, turns_fine, expr_fine, stmt_fine, decl_fine, item_fine}

some_back : {A : Type 0} (P : A → Type 0) (o : Option A) → Opt (Opt P) (option_map Some o) → Opt P o
some_back P (Some a) f = f
some_back P None f = tt

-- the literal behind `from`
abbrev pub SourceCuts : List ℕ → Str × Option ImportAttributes → Type 0
SourceCuts x source = StrCuts x source.0

module _ (x : List ℕ) (ts : List Token) where
  -- ---- imports
  pub bare_import_cuts : (r : Range) (p : Value) → Opt (StrCuts x) (str_at x ts p 0)
      → Opt (ModuleDeclCuts x) (bare_import x ts r p)
  unfolding bare_import
  bare_import_cuts r p there =
      given_fine (StrCuts x) (ModuleDeclCuts x) (str_at x ts p 0) _ there (λ src f.
      given_any (ModuleDeclCuts x) (optional attributes_at (group p 1)) _ (λ with.
      module_decl_Import_cuts x (record {
        type_only = false;
        phase = vPhase.Evaluation;
        clause = None;
        src = src;
        with = with;
        span = r;
      }) f))

  pub from_import_cuts : (r : Range) (p : Value) → Opt (StrCuts x) (str_at x ts p 2)
      → Opt (ModuleDeclCuts x) (from_import x ts r p)
  unfolding from_import
  from_import_cuts r p there =
      given_any (ModuleDeclCuts x) (clause_at p 1) _ (λ clause.
      given_fine (StrCuts x) (ModuleDeclCuts x) (str_at x ts p 2) _ there (λ src f.
      given_any (ModuleDeclCuts x) (optional attributes_at (group p 3)) _ (λ with.
      module_decl_Import_cuts x (record {
        type_only = is_there (group p 0);
        phase = vPhase.Evaluation;
        clause = Some clause;
        src = src;
        with = with;
        span = r;
      }) f)))

  pub phase_import_cuts : (phase : ImportPhase) (r : Range) (p : Value) → Opt (StrCuts x) (str_at x ts p 1)
      → Opt (ModuleDeclCuts x) (phase_import x ts phase r p)
  unfolding phase_import
  phase_import_cuts phase r p there =
      given_any (ModuleDeclCuts x) (ident_at x ts p 0) _ (λ local.
      given_fine (StrCuts x) (ModuleDeclCuts x) (str_at x ts p 1) _ there (λ src f.
      given_any (ModuleDeclCuts x) (optional attributes_at (group p 2)) _ (λ with.
      module_decl_Import_cuts x _ f)))

  pub require_import_cuts : (is_export : Bool) (r : Range) (p : Value) → Opt (StrCuts x) (str_at x ts p 2)
      → Opt (ModuleDeclCuts x) (require_import x ts is_export r p)
  unfolding require_import
  require_import_cuts is_export r p there =
      given_any (ModuleDeclCuts x) (ident_at x ts p 1) _ (λ id.
      given_fine (StrCuts x) (ModuleDeclCuts x) (str_at x ts p 2) _ there (λ src f.
      module_decl_TsImportEquals_cuts x _ f))

  pub entity_import_cuts : (is_export : Bool) (r : Range) (p : Value)
      → Opt (ModuleDeclCuts x) (entity_import x ts is_export r p)
  unfolding entity_import
  entity_import_cuts is_export r p =
      given_any (ModuleDeclCuts x) (ident_at x ts p 1) _ (λ id.
      given_any (ModuleDeclCuts x) (entity_at p 2) _ (λ name. module_decl_TsImportEquals_cuts x _ tt))

  -- ---- exports
  pub export_all_cuts : (r : Range) (p : Value) → Opt (StrCuts x) (str_at x ts p 2)
      → Opt (ModuleDeclCuts x) (export_all x ts r p)
  unfolding export_all
  export_all_cuts r p there =
      given_any (ModuleDeclCuts x) (optional (λ g n. name_at x ts (group g n) 0) (group p 1)) _ (λ exported.
      given_fine (StrCuts x) (ModuleDeclCuts x) (str_at x ts p 2) _ there (λ src f.
      given_any (ModuleDeclCuts x) (optional attributes_at (group p 3)) _ (λ with.
      module_decl_ExportAll_cuts x (record {
        type_only = is_there (group p 0);
        exported = exported;
        src = src;
        with = with;
        span = r;
      }) f)))

  source_cuts : (v : Value) → Opt (Opt (StrCuts x)) (optional (str_at x ts) v)
      → Opt (Opt (SourceCuts x)) (optional (source_with x ts) v)
  source_cuts (more v vs) there =
      map_fine (SourceCuts x) (Opt (SourceCuts x)) (source_with x ts (more v vs) 0) Some
      (given_fine (StrCuts x) (SourceCuts x) (str_at x ts (more v vs) 0) _
      (some_back (StrCuts x) (str_at x ts (more v vs) 0) there) (λ src f.
      given_any (SourceCuts x) (optional attributes_at (group (more v vs) (0 + 1))) _ (λ with. f))) (λ source f. f)
  source_cuts absent there = tt
  source_cuts nil there = tt
  source_cuts (token n) there = tt
  source_cuts (node from to m) there = tt

  first_cuts : (source : Option (Str × Option ImportAttributes)) → Opt (SourceCuts x) source
      → Opt (StrCuts x) (option_map (λ source. source.0) source)
  first_cuts (Some source) f = f
  first_cuts None f = tt

  pub export_names_cuts : (r : Range) (p : Value) → Opt (Opt (StrCuts x)) (optional (str_at x ts) (group p 2))
      → Opt (ModuleDeclCuts x) (export_names x ts r p)
  unfolding export_names
  export_names_cuts r p there =
      given_any (ModuleDeclCuts x) (turns (λ turn. export_specifier_at turn 0) (group p 1)) _ (λ specifiers.
      given_fine (Opt (SourceCuts x)) (ModuleDeclCuts x) (optional (source_with x ts) (group p 2)) _
      (source_cuts (group p 2) there) (λ source f.
      module_decl_ExportNamed_cuts x (record {
        type_only = is_there (group p 0);
        specifiers = specifiers;
        src = option_map (λ source. source.0) source;
        with = with_of source;
        span = r;
      }) (first_cuts source f)))

  pub export_namespace_cuts : (r : Range) (p : Value) → Opt (ModuleDeclCuts x) (export_namespace x ts r p)
  unfolding export_namespace
  export_namespace_cuts r p =
      map_any (ModuleDeclCuts x) (ident_at x ts p 0) _ (λ id.
      module_decl_TsNamespaceExport_cuts x (record { id = id; span = r }))

  pub export_default_decl_cuts : (r : Range) (p : Value) → Fine x p → Opt (ModuleDeclCuts x) (export_default_decl r p)
  unfolding export_default_decl
  export_default_decl_cuts r p fine =
      map_fine (DeclCuts x) (ModuleDeclCuts x) (decl_at p 0) _ (decl_fine x p 0 fine) (λ decl f.
      module_decl_ExportDefaultDecl_cuts x decl r f)

  pub export_default_expression_cuts : (r : Range) (p : Value) → Fine x p
      → Opt (ModuleDeclCuts x) (export_default_expression r p)
  unfolding export_default_expression
  export_default_expression_cuts r p fine =
      map_fine (ExprCuts x) (ModuleDeclCuts x) (expr_at p 0) _ (expr_fine x p 0 fine) (λ expr f.
      module_decl_ExportDefaultExpr_cuts x expr r f)

  pub export_declaration_cuts : (r : Range) (p : Value) → Fine x p → Opt (ModuleDeclCuts x) (export_declaration r p)
  unfolding export_declaration
  export_declaration_cuts r p fine =
      map_fine (DeclCuts x) (ModuleDeclCuts x) (decl_at p 0) _ (decl_fine x p 0 fine) (λ decl f.
      module_decl_ExportDecl_cuts x decl r f)

  -- ---- items and programs
  pub item_by_cuts : (decl : Option ModuleDecl) (stmt : Option Stmt) → Opt (ModuleDeclCuts x) decl
      → Opt (StmtCuts x) stmt → Opt (ItemCuts x) (item_by x ts decl stmt)
  item_by_cuts (Some decl) stmt f g = module_item_ModuleDecl_cuts x decl f
  item_by_cuts None stmt f g = map_fine (StmtCuts x) (ItemCuts x) stmt vItem.Stmt g (module_item_Stmt_cuts x)

  pub module_cuts : (r : Range) (p : Value) → Fine x p → Opt (ProgramCuts x) (module_ x ts r p)
  unfolding module_
  module_cuts r p fine =
      given_any (ProgramCuts x) (optional (shebang_at x ts) (group p 0)) _ (λ shebang.
      given_fine (Each (ItemCuts x)) (ProgramCuts x) (turns (λ turn. item_at turn 0) (group p 1)) _
      (turns_fine x (ItemCuts x) (λ turn. item_at turn 0) (λ turn here. item_fine x turn 0 here) (group p 1)
      (group_fine x p 1 fine)) (λ body f. all_cut x sites_of_module_item body f))

  pub script_cuts : (r : Range) (p : Value) → Fine x p → Opt (ProgramCuts x) (script x ts r p)
  unfolding script
  script_cuts r p fine =
      given_any (ProgramCuts x) (optional (shebang_at x ts) (group p 0)) _ (λ shebang.
      given_fine (Each (StmtCuts x)) (ProgramCuts x) (turns (λ turn. stmt_at turn 0) (group p 1)) _
      (turns_fine x (StmtCuts x) (λ turn. stmt_at turn 0) (λ turn here. stmt_fine x turn 0 here) (group p 1)
      (group_fine x p 1 fine)) (λ body f. all_cut x sites_of_stmt body f))
