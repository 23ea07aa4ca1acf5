-- What an item adds: an export its names, any other none.
use Rattle.std.specs.Prelude.{ℕ, Bool, true, false, List, [], ◌∷◌, ◌++◌, Option, Some, None, option_map, IfSome, if◌then◌else◌}
use Rattle.std.specs.List.{flat_map}
use Rattle.std.proofs.Common.{◌≡◌, refl, sym, ap, subst, ◌∙◌}
use Rattle.std.proofs.lemmas.List.{append-nil}
use Rattle.base.specs.declared.range.Range.{Range}
use Rattle.es_token.specs.declared.token.Token.{Token}
use Rattle.es_grammar.specs.declared.rows.NodeKind.{NodeKind}
use Rattle.es_grammar.specs.declared.rows.NodeKind.TheVariants as l
use Rattle.es_ast.specs.declared.leaf.ImportPhase.{ImportPhase}
use Rattle.es_ast.specs.declared.leaf.ImportPhase.TheVariants as vPhase
use Rattle.es_ast.specs.declared.leaf.ImportDecl.{ImportDecl}
use Rattle.es_ast.specs.declared.leaf.TsImportEqualsDecl.{TsImportEqualsDecl}
use Rattle.es_ast.specs.declared.ast.Expr.{Expr}
use Rattle.es_ast.specs.declared.ast.Module.{Module}
use Rattle.es_ast.specs.declared.ast.ModuleDecl.{ModuleDecl, roll-ModuleDecl, out-ModuleDecl, out-roll-ModuleDecl}
use Rattle.es_ast.specs.declared.ast.ModuleDecl.TheVariants as vModuleDecl
use Rattle.es_ast.specs.declared.ast.ModuleItem.{ModuleItem, roll-ModuleItem, out-ModuleItem, out-roll-ModuleItem}
use Rattle.es_ast.specs.declared.ast.ModuleItem.TheVariants as vItem
use Rattle.es_ast.specs.declared.ast.Stmt.{Stmt}
use Rattle.es_ast.specs.declared.ast.ClassMember.TheOpen.{ModuleDecl-F, ModuleItem-F}
use Rattle.es_site.specs.Parts.{Whole}
use Rattle.es_lowering.specs.Value as v
use Rattle.es_lowering.specs.Value.{Value, given, group}
use Rattle.es_lowering.specs.Texts as texts
use Rattle.es_lowering.specs.Texts.{span_of}
use Rattle.es_lowering.specs.Modules as d
use Rattle.es_lowering.specs.Lowering.{build, item_by, module_decl_of, stmt_of, decl_of, declarable_of, same_label}
use Rattle.es_syntax.specs.declared.entry.Entry.{Entry}
use Rattle.es_syntax.specs.declared.entry.Lean.{Lean}
use Rattle.es_syntax.specs.declared.entry.Lean.TheVariants as vLean
use Rattle.es_syntax.specs.declared.entry.What.{What}
use Rattle.es_syntax.specs.declared.entry.What.TheVariants as vWhat
use Rattle.es_syntax.specs.declared.cursor.Item.{Item}
use Rattle.es_syntax.specs.Held.{held, made, parts_of, valued, label_of}
use Rattle.es_syntax.specs.Roles.{item_in}
use Rattle.es_syntax.specs.Views.{IsNone, is_one_of}
use Rattle.es_syntax.proofs.Others.{in_held, in_role, in_leant}
use Rattle.es_view_modules.specs.items.Export.{exports}
use Rattle.es_bound_names.specs.Names.{Names}
use Rattle.es_bound_names.specs.Adds.{Adds}
use Rattle.es_bound_names.proofs.Heads.{nothing}
use Rattle.es_exports.specs.Exports.{names_by, again_by, in_item, exported_by, reexported_by}
use Rattle.es_exports.specs.Parts.{decl_exports, decl_reexports}

-- ---- a whole module
pub whole_module : {A : Type 0} (f : A → Names) (o : Option (List A)) (found : Names) (body : List A)
    → Adds (flat_map f) [] found o → o ≡ Some body → found ≡ flat_map f body
whole_module f o found body a is =
    let b : Adds (flat_map f) [] found (Some body) =
    subst (λ (p : Option (List _)). Adds (flat_map f) [] found p) is a in
    b.added

-- ---- the names of an item are those of its import or export
decl_names : (names : Whole ModuleDecl-F → Names) (it : ModuleDecl)
    → in_item names (out-ModuleItem (vItem.ModuleDecl it)) ≡ names (out-ModuleDecl it)
decl_names names it =
    ap (in_item names)
    (sym (ap out-ModuleItem (vItem.rolls-ModuleDecl it)) ∙ out-roll-ModuleItem (ModuleItem-F.ModuleDecl it))

stmt_names : (names : Whole ModuleDecl-F → Names) (it : Stmt)
    → in_item names (out-ModuleItem (vItem.Stmt it)) ≡ []
stmt_names names it =
    ap (in_item names) (sym (ap out-ModuleItem (vItem.rolls-Stmt it)) ∙ out-roll-ModuleItem (ModuleItem-F.Stmt it))

-- an import or export with these names, as an item
module _ (x : List ℕ) (ts : List Token) where
  pub adds_export : (o : Option ModuleDecl) (old new : Names) → Adds decl_exports old new o
      → Adds exported_by old new (item_by x ts o None)
  unfolding exported_by
  adds_export None old new a = record { added = tt }
  adds_export (Some it) old new a = record { added = a.added ∙ ap (λ m. old ++ m) (sym (decl_names names_by it)) }

  pub adds_reexport : (o : Option ModuleDecl) (old new : Names) → Adds decl_reexports old new o
      → Adds reexported_by old new (item_by x ts o None)
  unfolding reexported_by
  adds_reexport None old new a = record { added = tt }
  adds_reexport (Some it) old new a = record { added = a.added ∙ ap (λ m. old ++ m) (sym (decl_names again_by it)) }

-- ---- any other item has none
not_first : (b others : Bool) → (if b then true else others) ≡ false → b ≡ false
not_first true others e = let bad : ⊥ = cc in absurd bad
not_first false others e = refl

not_rest : (b others : Bool) → (if b then true else others) ≡ false → others ≡ false
not_rest true others e = let bad : ⊥ = cc in absurd bad
not_rest false others e = e

module _ (names : Whole ModuleDecl-F → Names) (imports : (it : ImportDecl) → names (ModuleDecl-F.Import it) ≡ [])
    (equals : (it : TsImportEqualsDecl) → names (ModuleDecl-F.TsImportEquals it) ≡ []) where
  abbrev Quiet : Option ModuleDecl → Type 0
  Quiet o = IfSome o (λ it. names (out-ModuleDecl it) ≡ [])

  decl_is : (it : ModuleDecl) (w : Whole ModuleDecl-F) → names w ≡ [] → roll-ModuleDecl w ≡ it
      → names (out-ModuleDecl it) ≡ []
  decl_is it w e rolls = ap names (sym (ap out-ModuleDecl rolls) ∙ out-roll-ModuleDecl w) ∙ e

  given_quiet : {A : Type 0} (o : Option A) (make : A → Option ModuleDecl) → ((it : A) → Quiet (make it))
      → Quiet (given o make)
  given_quiet None make a = tt
  given_quiet (Some it) make a = a it

  quiet_if : (b : Bool) (o others : Option ModuleDecl) → Quiet o → Quiet others → Quiet (if b then o else others)
  quiet_if true o others a c = a
  quiet_if false o others a c = c

  quiet_skip : (b : Bool) (o others : Option ModuleDecl) → b ≡ false → Quiet others
      → Quiet (if b then o else others)
  quiet_skip true o others e c = let bad : ⊥ = cc in absurd bad
  quiet_skip false o others e c = c

  module _ (x : List ℕ) (ts : List Token) where
    module _ (r : Range) (p : Value) where
      bare_quiet : Quiet (d.bare_import x ts r p)
      unfolding d.bare_import
      bare_quiet =
          given_quiet (texts.str_at x ts p 0) _ (λ src.
          given_quiet (v.optional v.attributes_at (group p 1)) _ (λ with.
          decl_is _ (ModuleDecl-F.Import _) (imports _) (vModuleDecl.rolls-Import _)))

      from_quiet : Quiet (d.from_import x ts r p)
      unfolding d.from_import
      from_quiet =
          given_quiet (v.clause_at p 1) _ (λ clause.
          given_quiet (texts.str_at x ts p 2) _ (λ src.
          given_quiet (v.optional v.attributes_at (group p 3)) _ (λ with.
          decl_is _ (ModuleDecl-F.Import _) (imports _) (vModuleDecl.rolls-Import _))))

      phase_quiet : (phase : ImportPhase) → Quiet (d.phase_import x ts phase r p)
      unfolding d.phase_import
      phase_quiet phase =
          given_quiet (texts.ident_at x ts p 0) _ (λ local.
          given_quiet (texts.str_at x ts p 1) _ (λ src.
          given_quiet (v.optional v.attributes_at (group p 2)) _ (λ with.
          decl_is _ (ModuleDecl-F.Import _) (imports _) (vModuleDecl.rolls-Import _))))

      require_quiet : (is_export : Bool) → Quiet (d.require_import x ts is_export r p)
      unfolding d.require_import
      require_quiet is_export =
          given_quiet (texts.ident_at x ts p 1) _ (λ id.
          given_quiet (texts.str_at x ts p 2) _ (λ src.
          decl_is _ (ModuleDecl-F.TsImportEquals _) (equals _) (vModuleDecl.rolls-TsImportEquals _)))

      entity_quiet : (is_export : Bool) → Quiet (d.entity_import x ts is_export r p)
      unfolding d.entity_import
      entity_quiet is_export =
          given_quiet (texts.ident_at x ts p 1) _ (λ id.
          given_quiet (v.entity_at p 2) _ (λ name.
          decl_is _ (ModuleDecl-F.TsImportEquals _) (equals _) (vModuleDecl.rolls-TsImportEquals _)))

      label_quiet : (label : NodeKind) → is_one_of exports label ≡ false → Quiet (module_decl_of x ts label r p)
      unfolding module_decl_of
      label_quiet label e =
          let e1 = not_rest (same_label label l.ExportAll) _ e in
          let e2 = not_rest (same_label label l.ExportNames) _ e1 in
          let e3 = not_rest (same_label label l.ExportNamespace) _ e2 in
          let e4 = not_rest (same_label label l.ExportDefaultFunction) _ e3 in
          let e5 = not_rest (same_label label l.ExportDefaultClass) _ e4 in
          let e6 = not_rest (same_label label l.ExportDefaultInterface) _ e5 in
          let e7 = not_rest (same_label label l.ExportDefaultExpression) _ e6 in
          let e8 = not_rest (same_label label l.ExportDeclaration) _ e7 in
          quiet_if (same_label label l.BareImport) _ _ bare_quiet
          (quiet_if (same_label label l.FromImport) _ _ from_quiet
          (quiet_if (same_label label l.SourceImport) _ _ (phase_quiet vPhase.Source)
          (quiet_if (same_label label l.DeferImport) _ _ (phase_quiet vPhase.Defer)
          (quiet_if (same_label label l.RequireImport) _ _ (require_quiet false)
          (quiet_if (same_label label l.EntityImport) _ _ (entity_quiet false)
          (quiet_if (same_label label l.ExportedRequireImport) _ _ (require_quiet true)
          (quiet_if (same_label label l.ExportedEntityImport) _ _ (entity_quiet true)
          (quiet_skip (same_label label l.ExportAll) _ _ (not_first (same_label label l.ExportAll) _ e)
          (quiet_skip (same_label label l.ExportNames) _ _ (not_first (same_label label l.ExportNames) _ e1)
          (quiet_skip (same_label label l.ExportNamespace) _ _ (not_first (same_label label l.ExportNamespace) _ e2)
          (quiet_skip (same_label label l.ExportDefaultFunction) _ _
          (not_first (same_label label l.ExportDefaultFunction) _ e3)
          (quiet_skip (same_label label l.ExportDefaultClass) _ _
          (not_first (same_label label l.ExportDefaultClass) _ e4)
          (quiet_skip (same_label label l.ExportDefaultExpression) _ _
          (not_first (same_label label l.ExportDefaultExpression) _ e6)
          (quiet_skip (same_label label l.ExportDeclaration) _ _ (not_first (same_label label l.ExportDeclaration) _ e7)
          (quiet_skip (same_label label l.ExportDefaultInterface) _ _
          (not_first (same_label label l.ExportDefaultInterface) _ e5)
          (quiet_skip (same_label label l.ExportAssignment) _ _ (not_first (same_label label l.ExportAssignment) _ e8)
          tt))))))))))))))))

    -- what an item adds whose names these are
    abbrev Names_in : ModuleItem → Names
    Names_in item = in_item names (out-ModuleItem item)

    quiet_adds : (o : Option ModuleDecl) (s : Option Stmt) (old : Names) → Quiet o
        → Adds Names_in old old (item_by x ts o s)
    quiet_adds None None old a = record { added = tt }
    quiet_adds None (Some s) old a = record { added = nothing old ∙ ap (λ m. old ++ m) (sym (stmt_names names s)) }
    quiet_adds (Some it) s old a = record { added = nothing old ∙ ap (λ m. old ++ m) (sym (decl_names names it ∙ a)) }

    none_adds : (o : Option ModuleItem) (old : Names) → o ≡ None → Adds Names_in old old o
    none_adds o old e = subst (λ (p : Option ModuleItem). Adds Names_in old old p) (sym e) (record { added = tt })

    lean_none : (lean : Lean) (from : ℕ) (r : Range) (p : Value) → (build x ts (label_of lean) from r p).item ≡ None
    unfolding build module_decl_of stmt_of decl_of declarable_of
    lean_none vLean.Binary from r p = refl
    lean_none vLean.TypedBinary from r p = refl

    other_here : (w : What) (from to : ℕ) (es : List Entry) (old : Names) → IsNone exports w
        → Adds Names_in old old (item_in (made x ts w from to (held x ts es) (parts_of x ts es)))
    unfolding build
    other_here vWhat.Leaf from to es old e = record { added = tt }
    other_here (vWhat.Node label) from to es old e =
        quiet_adds (module_decl_of x ts label (span_of ts from to) (held x ts es))
        (stmt_of x ts label (span_of ts from to) (held x ts es)) old
        (label_quiet (span_of ts from to) (held x ts es) label e)
    other_here (vWhat.Role label) from to es old e =
        none_adds _ old (in_role x ts (λ m. m.item) (λ e. refl) (v.part (held x ts es) 0))
    other_here vWhat.Parts from to es old e = none_adds _ old (in_held x ts (λ m. m.item) es)
    other_here (vWhat.Lean lean) from to es old e =
        none_adds _ old (in_leant x ts (λ m. m.item) lean_none lean from (parts_of x ts es))

module _ (x : List ℕ) (ts : List Token) where
  pub adds_other : (i : Item) (old : Names) → IsNone exports i.what
      → Adds exported_by old old (item_in (valued x ts i))
  unfolding exported_by
  adds_other i old e =
      other_here names_by (λ it. refl) (λ it. refl) x ts i.what i.from i.to i.parts.entries.now old e

  pub adds_no_reexport : (i : Item) (old : Names) → IsNone exports i.what
      → Adds reexported_by old old (item_in (valued x ts i))
  unfolding reexported_by
  adds_no_reexport i old e =
      other_here again_by (λ it. refl) (λ it. refl) x ts i.what i.from i.to i.parts.entries.now old e
