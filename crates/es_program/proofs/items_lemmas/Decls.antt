-- Where imports and exports stand, and what they tell.
use Rattle.std.specs.Prelude.{Bool, true, false, Option, Some, None, option_map}
use Rattle.std.proofs.Common.{◌≡◌, ℕ, List, refl, sym, ap, ◌∙◌}
use Rattle.base.specs.declared.range.Range.{Range}
use Rattle.es_token.specs.declared.token.Token.{Token}
use Rattle.es_ast.specs.declared.leaf.ImportPhase.{ImportPhase}
use Rattle.es_ast.specs.declared.leaf.ImportPhase.TheVariants as vPhase
use Rattle.es_ast.specs.declared.ast.ModuleDecl.{ModuleDecl, roll-ModuleDecl, out-ModuleDecl, out-roll-ModuleDecl}
use Rattle.es_ast.specs.declared.ast.ModuleDecl.TheVariants as vModuleDecl
use Rattle.es_ast.specs.declared.ast.ClassMember.TheOpen.{ModuleDecl-F}
use Rattle.es_site.specs.Parts.{Whole}
use Rattle.es_grammar.specs.declared.rows.NodeKind.{NodeKind}
use Rattle.es_grammar.specs.declared.rows.NodeKind.TheVariants as l
use Rattle.es_lowering.specs.Value.{Value, group}
use Rattle.es_lowering.specs.Value as v
use Rattle.es_lowering.specs.Texts as texts
use Rattle.es_lowering.specs.Modules as d
use Rattle.es_lowering.specs.TypedStatements as t
use Rattle.es_lowering.specs.Lowering.{module_decl_of, decl_of, declarable_of, stmt_of, same_label}
use Rattle.es_syntax.specs.Views.{is_one_of}
use Rattle.es_program.specs.items.Spans.{span_of_module_decl}
use Rattle.es_program.specs.items.Told.{told_by_decl}
use Rattle.es_program.specs.items.Items.{decl_labels, told_of}
use Rattle.es_program.proofs.items_lemmas.Given.{Opt, given_any, map_any, if_at, if_one, if_none}

-- it stands over this range, and tells what this does
pub record DeclIs (r : Range) (tells : Option Bool) (it : ModuleDecl) : Type 0 where
  pub span : span_of_module_decl (out-ModuleDecl it) ≡ r
  pub told : told_by_decl (out-ModuleDecl it) ≡ tells

decl_is : (r : Range) (told : Option Bool) (it : ModuleDecl) (w : Whole ModuleDecl-F) → roll-ModuleDecl w ≡ it
    → span_of_module_decl w ≡ r → told_by_decl w ≡ told → DeclIs r told it
decl_is r told it w rolls span tells =
    let is : out-ModuleDecl it ≡ w = sym (ap out-ModuleDecl rolls) ∙ out-roll-ModuleDecl w in
    record { span = ap span_of_module_decl is ∙ span; told = ap told_by_decl is ∙ tells }

module _ (x : List ℕ) (ts : List Token) (r : Range) (p : Value) where
  bare_is : Opt (DeclIs r (Some false)) (d.bare_import x ts r p)
  unfolding d.bare_import
  bare_is =
      given_any (DeclIs r (Some false)) (texts.str_at x ts p 0) _
      (λ src. given_any (DeclIs r (Some false)) (v.optional v.attributes_at (group p 1)) _ (λ with.
      decl_is r _ _ (ModuleDecl-F.Import _) (vModuleDecl.rolls-Import _) refl refl))

  from_is : Opt (DeclIs r (Some false)) (d.from_import x ts r p)
  unfolding d.from_import
  from_is =
      given_any (DeclIs r (Some false)) (v.clause_at p 1) _
      (λ clause. given_any (DeclIs r (Some false)) (texts.str_at x ts p 2) _ (λ src.
      given_any (DeclIs r (Some false)) (v.optional v.attributes_at (group p 3)) _
      (λ with. decl_is r _ _ (ModuleDecl-F.Import _) (vModuleDecl.rolls-Import _) refl refl)))

  phase_is : (phase : ImportPhase) → Opt (DeclIs r (Some false)) (d.phase_import x ts phase r p)
  unfolding d.phase_import
  phase_is phase =
      given_any (DeclIs r (Some false)) (texts.ident_at x ts p 0) _
      (λ local. given_any (DeclIs r (Some false)) (texts.str_at x ts p 1) _ (λ src.
      given_any (DeclIs r (Some false)) (v.optional v.attributes_at (group p 2)) _
      (λ with. decl_is r _ _ (ModuleDecl-F.Import _) (vModuleDecl.rolls-Import _) refl refl)))

  require_is : (is_export : Bool) → Opt (DeclIs r (Some true)) (d.require_import x ts is_export r p)
  unfolding d.require_import
  require_is is_export =
      given_any (DeclIs r (Some true)) (texts.ident_at x ts p 1) _
      (λ id. given_any (DeclIs r (Some true)) (texts.str_at x ts p 2) _ (λ src.
      decl_is r _ _ (ModuleDecl-F.TsImportEquals _) (vModuleDecl.rolls-TsImportEquals _) refl refl))

  entity_is : (is_export : Bool) → Opt (DeclIs r (Some true)) (d.entity_import x ts is_export r p)
  unfolding d.entity_import
  entity_is is_export =
      given_any (DeclIs r (Some true)) (texts.ident_at x ts p 1) _
      (λ id. given_any (DeclIs r (Some true)) (v.entity_at p 2) _ (λ name.
      decl_is r _ _ (ModuleDecl-F.TsImportEquals _) (vModuleDecl.rolls-TsImportEquals _) refl refl))

  all_is : Opt (DeclIs r (Some false)) (d.export_all x ts r p)
  unfolding d.export_all
  all_is =
      given_any (DeclIs r (Some false)) (v.optional (λ g n. texts.name_at x ts (group g n) 0) (group p 1)) _
      (λ exported. given_any (DeclIs r (Some false)) (texts.str_at x ts p 2) _ (λ src.
      given_any (DeclIs r (Some false)) (v.optional v.attributes_at (group p 3)) _
      (λ with. decl_is r _ _ (ModuleDecl-F.ExportAll _) (vModuleDecl.rolls-ExportAll _) refl refl)))

  names_is : Opt (DeclIs r (Some false)) (d.export_names x ts r p)
  unfolding d.export_names
  names_is =
      given_any (DeclIs r (Some false)) (v.turns (λ turn. v.export_specifier_at turn 0) (group p 1)) _
      (λ specifiers. given_any (DeclIs r (Some false)) (v.optional (d.source_with x ts) (group p 2)) _ (λ source.
      decl_is r _ _ (ModuleDecl-F.ExportNamed _) (vModuleDecl.rolls-ExportNamed _) refl refl))

  namespace_is : Opt (DeclIs r (None)) (d.export_namespace x ts r p)
  unfolding d.export_namespace
  namespace_is =
      map_any (DeclIs r (None)) _ _
      (λ id. decl_is r _ _ (ModuleDecl-F.TsNamespaceExport _) (vModuleDecl.rolls-TsNamespaceExport _) refl refl)

  default_decl_is : Opt (DeclIs r (Some false)) (d.export_default_decl r p)
  unfolding d.export_default_decl
  default_decl_is =
      map_any (DeclIs r (Some false)) _ _
      (λ it. decl_is r _ _ (ModuleDecl-F.ExportDefaultDecl it r) (vModuleDecl.rolls-ExportDefaultDecl it r) refl
      refl)

  default_expression_is : Opt (DeclIs r (Some false)) (d.export_default_expression r p)
  unfolding d.export_default_expression
  default_expression_is =
      map_any (DeclIs r (Some false)) _ _
      (λ it. decl_is r _ _ (ModuleDecl-F.ExportDefaultExpr it r) (vModuleDecl.rolls-ExportDefaultExpr it r) refl
      refl)

  declaration_is : Opt (DeclIs r (Some false)) (d.export_declaration r p)
  unfolding d.export_declaration
  declaration_is =
      map_any (DeclIs r (Some false)) _ _
      (λ it. decl_is r _ _ (ModuleDecl-F.ExportDecl it r) (vModuleDecl.rolls-ExportDecl it r) refl refl)

  assignment_is : Opt (DeclIs r (Some true)) (t.export_assignment r p)
  unfolding t.export_assignment
  assignment_is =
      map_any (DeclIs r (Some true)) _ _
      (λ it. decl_is r _ _ (ModuleDecl-F.TsExportAssignment it r) (vModuleDecl.rolls-TsExportAssignment it r) refl
      refl)

  abbrev At : NodeKind → ModuleDecl → Type 0
  At label it = DeclIs r (told_of label) it

  pub decl_at : (label : NodeKind) → Opt (At label) (module_decl_of x ts label r p)
  unfolding module_decl_of
  decl_at label =
      if_at At label l.BareImport _ _ bare_is
      (if_at At label l.FromImport _ _ from_is
      (if_at At label l.SourceImport _ _ (phase_is vPhase.Source)
      (if_at At label l.DeferImport _ _ (phase_is vPhase.Defer)
      (if_at At label l.RequireImport _ _ (require_is false)
      (if_at At label l.EntityImport _ _ (entity_is false)
      (if_at At label l.ExportedRequireImport _ _ (require_is true)
      (if_at At label l.ExportedEntityImport _ _ (entity_is true)
      (if_at At label l.ExportAll _ _ all_is
      (if_at At label l.ExportNames _ _ names_is
      (if_at At label l.ExportNamespace _ _ namespace_is
      (if_at At label l.ExportDefaultFunction _ _ default_decl_is
      (if_at At label l.ExportDefaultClass _ _ default_decl_is
      (if_at At label l.ExportDefaultExpression _ _ default_expression_is
      (if_at At label l.ExportDeclaration _ _ declaration_is
      (if_at At label l.ExportDefaultInterface _ _ default_decl_is
      (if_at At label l.ExportAssignment _ _ assignment_is tt))))))))))))))))

  -- no other alternative is an import or an export
  pub no_decl : (label : NodeKind) → is_one_of decl_labels label ≡ false → module_decl_of x ts label r p ≡ None
  unfolding module_decl_of
  no_decl label =
      if_none (same_label label l.BareImport) _ _ _
      (if_none (same_label label l.FromImport) _ _ _
      (if_none (same_label label l.SourceImport) _ _ _
      (if_none (same_label label l.DeferImport) _ _ _
      (if_none (same_label label l.RequireImport) _ _ _
      (if_none (same_label label l.EntityImport) _ _ _
      (if_none (same_label label l.ExportedRequireImport) _ _ _
      (if_none (same_label label l.ExportedEntityImport) _ _ _
      (if_none (same_label label l.ExportAll) _ _ _
      (if_none (same_label label l.ExportNames) _ _ _
      (if_none (same_label label l.ExportNamespace) _ _ _
      (if_none (same_label label l.ExportDefaultFunction) _ _ _
      (if_none (same_label label l.ExportDefaultClass) _ _ _
      (if_none (same_label label l.ExportDefaultExpression) _ _ _
      (if_none (same_label label l.ExportDeclaration) _ _ _
      (if_none (same_label label l.ExportDefaultInterface) _ _ _
      (if_none (same_label label l.ExportAssignment) _ _ _ (λ e. refl)))))))))))))))))

  abbrev NoStmt : NodeKind → Type 0
  NoStmt label = stmt_of x ts label r p ≡ None

  -- and no import or export is a statement
  pub no_stmt : (label : NodeKind) → is_one_of decl_labels label ≡ true → stmt_of x ts label r p ≡ None
  unfolding stmt_of decl_of declarable_of
  no_stmt label =
      if_one NoStmt label l.BareImport _ refl
      (if_one NoStmt label l.FromImport _ refl
      (if_one NoStmt label l.SourceImport _ refl
      (if_one NoStmt label l.DeferImport _ refl
      (if_one NoStmt label l.RequireImport _ refl
      (if_one NoStmt label l.EntityImport _ refl
      (if_one NoStmt label l.ExportedRequireImport _ refl
      (if_one NoStmt label l.ExportedEntityImport _ refl
      (if_one NoStmt label l.ExportAll _ refl
      (if_one NoStmt label l.ExportNames _ refl
      (if_one NoStmt label l.ExportNamespace _ refl
      (if_one NoStmt label l.ExportDefaultFunction _ refl
      (if_one NoStmt label l.ExportDefaultClass _ refl
      (if_one NoStmt label l.ExportDefaultExpression _ refl
      (if_one NoStmt label l.ExportDeclaration _ refl
      (if_one NoStmt label l.ExportDefaultInterface _ refl
      (if_one NoStmt label l.ExportAssignment _ refl (λ e. let bad : ⊥ = cc in absurd bad)))))))))))))))))
