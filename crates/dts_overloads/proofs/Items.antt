-- What declarations of TypeScript, items of modules and programs tell.
use Rattle.std.specs.Prelude.{ℕ, Bool, true, List, [], ◌∷◌, Option, Some, None, option_map}
use Rattle.std.proofs.Common.{◌≡◌, refl, sym, ap, ◌∙◌}
use Rattle.base.specs.declared.range.Range.{Range}
use Rattle.es_token.specs.declared.token.Token.{Token}
use Rattle.es_token.specs.declared.token.TokenKind.TheVariants as k
use Rattle.grammar_theory.specs.Key.{same_kind}
use Rattle.es_ast.specs.declared.ts.ts.TsPart.TheVariants as vPart
use Rattle.es_ast.specs.declared.leaf.ImportPhase.{ImportPhase}
use Rattle.es_ast.specs.declared.ast.ClassMember.TheVariants as vMember
use Rattle.es_ast.specs.declared.ast.Decl.{Decl}
use Rattle.es_ast.specs.declared.ast.Decl.TheVariants as vDecl
use Rattle.es_ast.specs.declared.ast.ModuleDecl.{ModuleDecl}
use Rattle.es_ast.specs.declared.ast.ModuleDecl.TheVariants as vModuleDecl
use Rattle.es_ast.specs.declared.ast.ModuleItem.{ModuleItem}
use Rattle.es_ast.specs.declared.ast.ModuleItem.TheVariants as vItem
use Rattle.es_ast.specs.declared.ast.Program.TheVariants as vProgram
use Rattle.es_ast.specs.declared.ast.Stmt.{Stmt}
use Rattle.es_ast.specs.declared.ast.TsEnumMember.{roll-TsEnumMember}
use Rattle.es_ast.specs.declared.ast.ClassMember.TheOpen.{TsEnumMember-F}
use Rattle.es_site.specs.Parts.{Whole}
use Rattle.es_lowering.specs.Value.{Value, part, as_group, group, optional, is_there, turns, behind, expr_at, stmt_at, decl_at, item_at, key_at, type_at, type_member_at, clause_at, attributes_at, export_specifier_at, entity_at, declarable_at}
use Rattle.es_lowering.specs.Texts.{kind_at, ident_at, str_at, name_at, shebang_at}
use Rattle.es_lowering.specs.Operators.{is_kind_at}
use Rattle.es_lowering.specs.Lowering.{item_by}
use Rattle.es_lowering.specs.Modules.{equals_of, source_with, with_of, phase_clause}
use Rattle.es_lowering.specs.Modules as low
use Rattle.es_lowering.specs.Functions.{plain}
use Rattle.es_lowering.specs.TypedFunctions as typed_functions
use Rattle.es_lowering.specs.TypedParts.{annotation_at, modifiers_in, params_part_at, heritage_in}
use Rattle.es_lowering.specs.TypedStatements.{enum_member, items_of}
use Rattle.es_lowering.specs.TypedStatements as typed
use Rattle.dts_rules.specs.Ranges.{overloads}
use Rattle.dts_overloads.specs.Among.{none, ◌∪◌, all_of, Among, if_some, of_program, of_class_member, of_decl, of_expr, of_module_decl, of_module_item, of_stmt, of_ts_enum_member, of_stmts, of_items, own_stmts, own_items}
use Rattle.dts_overloads.proofs.Equations as laws
use Rattle.dts_overloads.specs.declared.shapes.Group.TheVariants as gr
use Rattle.dts_overloads.specs.declared.shapes.Shape.TheVariants as sh
use Rattle.dts_overloads.specs.Met.{Told, both, Met, rows, met}
use Rattle.dts_overloads.specs.Own.{stmts_told, items_told}
use Rattle.dts_overloads.proofs.Laws.{stmts_law, items_law}
use Rattle.dts_overloads.proofs.Seen.{Sees, both_none, moved, ends, alone, past, also, single, mapped, quiet, unseen, skipped, list_ends, list_mapped}
use Rattle.dts_overloads.proofs.Agrees.{Agree, nth, read, parts_in, rows_are, in_list}
use Rattle.dts_overloads.proofs.Roles.{AgreeRow, inside, expr, decl, key, declarable, maybe_expr, items, stmts}

-- ---- members of enumerations
member_among : (w : Whole TsEnumMember-F)
    → of_ts_enum_member (roll-TsEnumMember w) ≡ of_expr w.id ∪ if_some of_expr w.init
member_among w = laws.ts_enum_member_roll w

module _ (ts : List Token) where
  member_form : (p : Value) (q : Met) → AgreeRow p q
      → Sees of_ts_enum_member (enum_member ts p) (read q (sh.Node ∷ sh.In gr.First ∷ []))
  member_form p q a =
      alone _ (also (key_at p 0) _ (key p q a 0) (λ key.
      also (optional expr_at (group p 1)) _ (maybe_expr p q a 1) (λ value. ends _ (member_among _))))

  member_sees : (u : Value) (w : Met) → Agree u w
      → Sees of_ts_enum_member (enum_member ts (as_group u)) (met w (rows (sh.Node ∷ sh.In gr.First ∷ [])))
  member_sees u w a =
      moved of_ts_enum_member _ _ _ (rows_are (sh.Node ∷ sh.In gr.First ∷ []) refl w)
      (member_form (as_group u) w (parts_in u w a))

module _ (x : List ℕ) (ts : List Token) (p : Value) (q : Met) (a : AgreeRow p q) (declare : Bool) (r : Range) where
  abbrev decl_among : (Bool → Range → Decl) → Among
  decl_among decl = of_decl (decl declare r)

  pub interface_form : Sees decl_among (typed.interface x ts p) (Some none)
  unfolding typed.interface
  interface_form =
      skipped (ident_at x ts p 0) _ (λ id. skipped (params_part_at p 1) _ (λ types.
      skipped (heritage_in ts (group p 2)) _ (λ extends.
      unseen (λ body declare r. vDecl.TsInterface declare id types extends (Some body) r)
      (λ body. laws.decl_TsInterface declare id types extends (Some body) r)
      (option_map vPart.Members (turns (λ turn. type_member_at turn 0) (group p 3))))))

  pub alias_form : Sees decl_among (typed.alias x ts p) (Some none)
  unfolding typed.alias
  alias_form =
      skipped (ident_at x ts p 0) _ (λ id. skipped (params_part_at p 1) _ (λ types.
      unseen (λ ty declare r. vDecl.TsTypeAlias declare id types (Some ty) r)
      (λ ty. laws.decl_TsTypeAlias declare id types (Some ty) r) (option_map vPart.TypeAnn (type_at p 2))))

  pub enum_form : Sees decl_among (typed.enum_ x ts p) (read q (sh.Skip ∷ sh.Skip ∷ sh.Each gr.EnumMember ∷ []))
  unfolding typed.enum_
  enum_form =
      alone _ (past (ident_at x ts p 1) _ (λ id.
      also (turns (enum_member ts) (group p 2)) _
      (in_list of_ts_enum_member (enum_member ts) (sh.Node ∷ sh.In gr.First ∷ []) (member_sees ts) (part p 2)
      (nth q 2)
      (a 2)) (λ members.
      ends (λ declare r. vDecl.TsEnum declare (is_there (group p 0)) id members r)
      (laws.decl_TsEnum declare (is_there (group p 0)) id members r))))

  pub namespace_form : Sees decl_among (typed.namespace ts p)
      (both (items_told (group p 2)) (read q (sh.Skip ∷ sh.Skip ∷ sh.Each gr.First ∷ [])))
  unfolding typed.namespace
  namespace_form =
      skipped (kind_at ts p 0) _ (λ kind. skipped (entity_at p 1) _ (λ id.
      list_ends own_items (λ body declare r. vDecl.TsNamespace declare (same_kind kind k.ModuleWord) id body r)
      (λ body. laws.decl_TsNamespace declare (same_kind kind k.ModuleWord) id body r ∙ items_law body)
      (items_of (group p 2)) (single _ _ (items p q a 2))))

  pub module_form : Sees decl_among (typed.module_namespace x ts p)
      (both (items_told (group (group p 1) 0)) (read q (sh.Skip ∷ sh.In gr.List ∷ [])))
  unfolding typed.module_namespace
  module_form =
      moved decl_among _ _ _
      (ap (λ (z : Told). both (items_told (group (group p 1) 0)) (both z (Some none)))
      (rows_are (sh.Each gr.First ∷ []) refl (nth q 1) ∙ both_none _))
      (skipped (str_at x ts p 0) _ (λ id.
      list_ends own_items (λ body declare r. vDecl.TsModule declare id (is_kind_at ts k.OpenBrace (behind (part p 0))) body r)
      (λ body. laws.decl_TsModule declare id (is_kind_at ts k.OpenBrace (behind (part p 0))) body r ∙ items_law body)
      (items_of (group (group p 1) 0)) (single _ _ (items (group p 1) (nth q 1) (inside p q a 1) 0))))

  pub global_form : Sees decl_among (typed.global p)
      (both (items_told (group p 0)) (read q (sh.Each gr.First ∷ [])))
  unfolding typed.global
  global_form =
      list_mapped own_items (λ body declare r. vDecl.TsGlobal declare body r)
      (λ body. laws.decl_TsGlobal declare body r ∙ items_law body)
      (items_of (group p 0)) (single _ _ (items p q a 0))

module _ (p : Value) (q : Met) (a : AgreeRow p q) (r : Range) where
  pub declared_form : Sees of_decl (typed.declared r p) (read q (sh.Node ∷ []))
  unfolding typed.declared
  declared_form = single _ _
      (mapped (λ decl. decl true r) (λ decl. refl) (declarable_at p 0) (declarable p q a 0 true r))

  -- ---- exports that hold what has ranges
  pub export_default_decl : Sees of_module_decl (low.export_default_decl r p) (read q (sh.Node ∷ []))
  unfolding low.export_default_decl
  export_default_decl =
      single _ _ (mapped (λ decl. vModuleDecl.ExportDefaultDecl decl r)
      (λ decl. laws.module_decl_ExportDefaultDecl decl r) (decl_at p 0) (decl p q a 0))

  pub export_default_expression : Sees of_module_decl (low.export_default_expression r p) (read q (sh.Node ∷ []))
  unfolding low.export_default_expression
  export_default_expression =
      single _ _ (mapped (λ expr. vModuleDecl.ExportDefaultExpr expr r)
      (λ expr. laws.module_decl_ExportDefaultExpr expr r) (expr_at p 0) (expr p q a 0))

  pub export_declaration : Sees of_module_decl (low.export_declaration r p) (read q (sh.Node ∷ []))
  unfolding low.export_declaration
  export_declaration =
      single _ _ (mapped (λ decl. vModuleDecl.ExportDecl decl r) (λ decl. laws.module_decl_ExportDecl decl r)
      (decl_at p 0) (decl p q a 0))

  pub export_assignment : Sees of_module_decl (typed.export_assignment r p) (read q (sh.Node ∷ []))
  unfolding typed.export_assignment
  export_assignment =
      single _ _ (mapped (λ e. vModuleDecl.TsExportAssignment e r) (λ e. laws.module_decl_TsExportAssignment e r)
      (expr_at p 0) (expr p q a 0))

-- ---- imports, and exports of names
module _ (x : List ℕ) (ts : List Token) (r : Range) (p : Value) where
  pub bare_import : Sees of_module_decl (low.bare_import x ts r p) (Some none)
  unfolding low.bare_import
  bare_import =
      skipped (str_at x ts p 0) _ (λ src.
      unseen _ (λ with. laws.module_decl_Import _) (optional attributes_at (group p 1)))

  pub from_import : Sees of_module_decl (low.from_import x ts r p) (Some none)
  unfolding low.from_import
  from_import =
      skipped (clause_at p 1) _ (λ clause. skipped (str_at x ts p 2) _ (λ src.
      unseen _ (λ with. laws.module_decl_Import _) (optional attributes_at (group p 3))))

  pub phase_import : (phase : ImportPhase) → Sees of_module_decl (low.phase_import x ts phase r p) (Some none)
  unfolding low.phase_import
  phase_import phase =
      skipped (ident_at x ts p 0) _ (λ local. skipped (str_at x ts p 1) _ (λ src.
      unseen _ (λ with. laws.module_decl_Import _) (optional attributes_at (group p 2))))

  pub require_import : (is_export : Bool) → Sees of_module_decl (low.require_import x ts is_export r p) (Some none)
  unfolding low.require_import
  require_import is_export =
      skipped (ident_at x ts p 1) _ (λ id.
      unseen _ (λ src. laws.module_decl_TsImportEquals _) (str_at x ts p 2))

  pub entity_import : (is_export : Bool) → Sees of_module_decl (low.entity_import x ts is_export r p) (Some none)
  unfolding low.entity_import
  entity_import is_export =
      skipped (ident_at x ts p 1) _ (λ id.
      unseen _ (λ name. laws.module_decl_TsImportEquals _) (entity_at p 2))

  pub export_all : Sees of_module_decl (low.export_all x ts r p) (Some none)
  unfolding low.export_all
  export_all =
      skipped (optional (λ g n. name_at x ts (group g n) 0) (group p 1)) _ (λ exported.
      skipped (str_at x ts p 2) _ (λ src.
      unseen _ (λ with. laws.module_decl_ExportAll _) (optional attributes_at (group p 3))))

  pub export_names : Sees of_module_decl (low.export_names x ts r p) (Some none)
  unfolding low.export_names
  export_names =
      skipped (turns (λ turn. export_specifier_at turn 0) (group p 1)) _ (λ specifiers.
      unseen _ (λ source. laws.module_decl_ExportNamed _) (optional (source_with x ts) (group p 2)))

  pub export_namespace : Sees of_module_decl (low.export_namespace x ts r p) (Some none)
  unfolding low.export_namespace
  export_namespace = quiet _ (λ id. laws.module_decl_TsNamespaceExport _) (ident_at x ts p 0)

  pub index_member : Sees of_class_member (typed_functions.index_member x ts r p) (Some none)
  unfolding typed_functions.index_member
  index_member =
      skipped (modifiers_in ts plain (group p 0)) _ (λ modifiers. skipped (ident_at x ts p 1) _ (λ name.
      skipped (option_map vPart.TypeAnn (type_at p 2)) _ (λ of.
      unseen (λ ty. vMember.TsIndexSignature modifiers name (Some of) ty r)
      (λ ty. laws.class_member_TsIndexSignature modifiers name (Some of) ty r) (annotation_at p 3))))

-- ---- items
pub item_sees : (x : List ℕ) (ts : List Token) (decl : Option ModuleDecl) (stmt : Option Stmt) (m : Told)
    → Sees of_module_decl decl m → Sees of_stmt stmt m
    → Sees of_module_item (item_by x ts decl stmt) m
item_sees x ts (Some decl) stmt m s t = record {
  sees = s.sees ∙ ap Some (sym (laws.module_item_ModuleDecl decl));
}
item_sees x ts None stmt m s t = mapped vItem.Stmt (λ stmt. laws.module_item_Stmt stmt) stmt t

-- ---- programs
module _ (x : List ℕ) (ts : List Token) (p : Value) (q : Met) (a : AgreeRow p q) (r : Range) where
  module_law : (shebang : Option (List ℕ)) (body : List ModuleItem)
      → of_program (vProgram.Module (record { shebang = shebang; body = body; span = r })) ≡ of_items body
  unfolding of_program of_items overloads
  module_law shebang body = refl

  script_law : (shebang : Option (List ℕ)) (body : List Stmt)
      → of_program (vProgram.Script (record { shebang = shebang; body = body; span = r })) ≡ of_stmts body
  unfolding of_program of_stmts overloads
  script_law shebang body = refl

  pub module_program : Sees of_program (low.module_ x ts r p)
      (both (items_told (group p 1)) (read q (sh.Skip ∷ sh.Each gr.First ∷ [])))
  unfolding low.module_
  module_program =
      skipped (optional (shebang_at x ts) (group p 0)) _ (λ shebang.
      list_ends own_items (λ body. vProgram.Module (record { shebang = shebang; body = body; span = r }))
      (λ body. module_law shebang body ∙ items_law body) (turns (λ turn. item_at turn 0) (group p 1))
      (single _ _ (items p q a 1)))

  pub script_program : Sees of_program (low.script x ts r p)
      (both (stmts_told (group p 1)) (read q (sh.Skip ∷ sh.Each gr.First ∷ [])))
  unfolding low.script
  script_program =
      skipped (optional (shebang_at x ts) (group p 0)) _ (λ shebang.
      list_ends own_stmts (λ body. vProgram.Script (record { shebang = shebang; body = body; span = r }))
      (λ body. script_law shebang body ∙ stmts_law body) (turns (λ turn. stmt_at turn 0) (group p 1))
      (single _ _ (stmts p q a 1)))
