-- What is written of imports and exports.
use Rattle.std.specs.Prelude.{ℕ, ◌+◌, Bool, true, false, ◌&&◌, List, [], ◌∷◌, ◌++◌, length, map, Option, Some, None, option_map, slice_get}
use Rattle.std.proofs.Common.{◌≡◌, refl, sym, ap, subst, ◌∙◌}
use Rattle.base.specs.declared.range.Range.{Range}
use Rattle.es_token.specs.declared.token.Token.{Token}
use Rattle.es_grammar.specs.declared.rows.NodeKind.{NodeKind}
use Rattle.es_grammar.specs.declared.rows.NodeKind.TheVariants as l
use Rattle.es_ast.specs.declared.ts.leaf.TsEntityName.{TsEntityName}
use Rattle.es_ast.specs.declared.leaf.ExportAll.{ExportAll}
use Rattle.es_ast.specs.declared.leaf.ImportClause.{ImportClause}
use Rattle.es_ast.specs.declared.leaf.ImportDecl.{ImportDecl}
use Rattle.es_ast.specs.declared.leaf.ImportPhase.{ImportPhase}
use Rattle.es_ast.specs.declared.leaf.NamedExport.{NamedExport}
use Rattle.es_ast.specs.declared.leaf.TsImportEqualsDecl.{TsImportEqualsDecl}
use Rattle.es_ast.specs.declared.leaf.TsNamespaceExportDecl.{TsNamespaceExportDecl}
use Rattle.es_ast.specs.declared.ast.Decl.{Decl}
use Rattle.es_ast.specs.declared.ast.Expr.{Expr}
use Rattle.es_ast.specs.declared.ast.ModuleDecl.{ModuleDecl}
use Rattle.es_ast.specs.declared.ast.ModuleDecl.TheVariants as vModule
use Rattle.es_ast.specs.declared.ast.ModuleItem.{ModuleItem}
use Rattle.es_ast.specs.declared.ast.ModuleItem.TheVariants as vItem
use Rattle.es_ast.specs.declared.ast.Stmt.{Stmt}
use Rattle.es_ast.specs.declared.ast.ClassMember.TheOpen.{ModuleDecl-F}
use Rattle.es_lowering.specs.Value.{Value, as_group, given, group, optional, part, turns, attributes_at, export_specifier_at}
use Rattle.es_lowering.specs.Texts.{span_of, ident_of, str_of, name_at, token_of}
use Rattle.es_lowering.specs.Modules as modules
use Rattle.es_lowering.specs.Modules.{source_with}
use Rattle.es_lowering.specs.Lowering.{packed, build, item_by, module_decl_of, stmt_of}
use Rattle.es_syntax.specs.declared.entry.What.TheVariants as vWhat
use Rattle.es_syntax.specs.declared.cursor.Item.{Item}
use Rattle.es_syntax.specs.Held.{node_of, valued}
use Rattle.es_syntax.specs.Roles.{decl_in, item_in}
use Rattle.es_changed.specs.declared.entry.Change.TheVariants as change
use Rattle.es_changed.specs.declared.entry.ChangedEntry.{ChangedEntry}
use Rattle.es_changed.specs.Shape.{closed, opened, Writes}
use Rattle.es_changed.proofs.Written.{node_written}
use Rattle.es_view_modules.specs.items.Export as export
use Rattle.es_view_modules.specs.items.Import as import
use Rattle.es_view_modules.specs.declared.items.import.Import.{Import}
use Rattle.es_view_modules.specs.declared.items.import.Import.TheVariants as view
use Rattle.dts_names.specs.declared.env.Env.{Env}
use Rattle.dts_rules.specs.declared.found.FoundKind.TheVariants as kind
use Rattle.dts_rules.specs.Rules as rules
use Rattle.dts_rules.specs.Rules.{State, note}
use Rattle.dts_rules.specs.Ranges.{has_range}
use Rattle.dts_rules.specs.Programs as programs
use Rattle.dts_rules.specs.Programs.{shown_decl, shown_module_decl}
use Rattle.dts_draft.specs.declared.draft.Draft.{Draft}
use Rattle.dts_draft.specs.Drafts.{state_of}
use Rattle.dts_draft.specs.Written.{IfThere, PutsAll}
use Rattle.dts_draft.proofs.There.{one, none, made, given_any}
use Rattle.dts_items.specs.declared.sorts.Sort.TheVariants as sort
use Rattle.dts_items.specs.Sorts.{Sorted}
use Rattle.dts_items.specs.Decls.{DeclPuts, DefaultPuts}
use Rattle.dts_items.specs.Items.{item_turn, InTurn, ItemPuts, ModuleDeclPuts}
use Rattle.dts_items.specs.Exports.{DefaultTurn, ExportTurn, NoUsing}
use Rattle.dts_items.proofs.RuleLemmas.{defaulted_is, exported_is, keeps_by, Keeps}
use Rattle.dts_items.proofs.TurnLemmas.{kept_item, module_as_item, module_by, no_items, turn_item}

-- ---- what stays
module _ (by : rules.Env) where
  import_keeps : (it : ImportDecl) → Keeps by (vModule.Import it)
  import_keeps it = keeps_by by _ (ModuleDecl-F.Import it) (vModule.rolls-Import it) (λ top s. refl)

  equals_keeps : (it : TsImportEqualsDecl) → Keeps by (vModule.TsImportEquals it)
  equals_keeps it = keeps_by by _ (ModuleDecl-F.TsImportEquals it) (vModule.rolls-TsImportEquals it) (λ top s. refl)

  all_keeps : (it : ExportAll) → Keeps by (vModule.ExportAll it)
  all_keeps it = keeps_by by _ (ModuleDecl-F.ExportAll it) (vModule.rolls-ExportAll it) (λ top s. refl)

  named_keeps : (it : NamedExport) → Keeps by (vModule.ExportNamed it)
  named_keeps it = keeps_by by _ (ModuleDecl-F.ExportNamed it) (vModule.rolls-ExportNamed it) (λ top s. refl)

  namespace_keeps : (it : TsNamespaceExportDecl) → Keeps by (vModule.TsNamespaceExport it)
  namespace_keeps it =
      keeps_by by _ (ModuleDecl-F.TsNamespaceExport it) (vModule.rolls-TsNamespaceExport it) (λ top s. refl)

  assignment_keeps : (e : Expr) (r : Range) → Keeps by (vModule.TsExportAssignment e r)
  assignment_keeps e r =
      keeps_by by _ (ModuleDecl-F.TsExportAssignment e r) (vModule.rolls-TsExportAssignment e r) (λ top s. refl)

  -- ---- exports by their views
  module _ (x : List ℕ) (ts : List Token) (r : Range) where
    abbrev Kept : Option ModuleDecl → Type 0
    Kept o = IfThere (Keeps by) o

    pub all_view : (type_only : Bool) (exported : Value) (source : Option Token) (attributes : Value)
        → Kept (export.all x ts r type_only exported source attributes)
    unfolding export.all
    all_view type_only exported source attributes =
        given_any (Keeps by) (optional (λ g n. name_at x ts (group g n) 0) exported) _ (λ e.
        given_any (Keeps by) (option_map (str_of x) source) _ (λ src.
        given_any (Keeps by) (optional attributes_at attributes) _ (λ with_. one (Keeps by) (all_keeps _))))

    pub names_view : (type_only : Bool) (specifiers source : Value)
        → Kept (export.names x ts r type_only specifiers source)
    unfolding export.names
    names_view type_only specifiers source =
        given_any (Keeps by) (turns (λ turn. export_specifier_at turn 0) specifiers) _ (λ ss.
        given_any (Keeps by) (optional (source_with x ts) source) _ (λ src. one (Keeps by) (named_keeps _)))

    pub namespace_view : (name : Option Token) → Kept (export.namespace x r name)
    unfolding export.namespace
    namespace_view name =
        made (Keeps by) (λ id. vModule.TsNamespaceExport (record { id = id; span = r })) (option_map (ident_of x) name)
        (λ id. namespace_keeps _)

    pub assignment_view : (o : Option Expr) → Kept (export.assignment r o)
    unfolding export.assignment
    assignment_view o =
        made (Keeps by) (λ e. vModule.TsExportAssignment e r) o (λ e. assignment_keeps e r)

    -- ---- imports by theirs
    pub bare_view : (source : Option Token) (attributes : Value) → Kept (import.bare x r source attributes)
    unfolding import.bare
    bare_view source attributes =
        given_any (Keeps by) (option_map (str_of x) source) _ (λ src.
        given_any (Keeps by) (optional attributes_at attributes) _ (λ with_. one (Keeps by) (import_keeps _)))

    pub from_view : (type_only : Bool) (clause : Option ImportClause) (source : Option Token) (attributes : Value)
        → Kept (import.from_of x r type_only clause source attributes)
    unfolding import.from_of
    from_view type_only clause source attributes =
        given_any (Keeps by) clause _ (λ clause.
        given_any (Keeps by) (option_map (str_of x) source) _ (λ src.
        given_any (Keeps by) (optional attributes_at attributes) _ (λ with_. one (Keeps by) (import_keeps _))))

    pub phased_view : (phase : ImportPhase) (name : Value) (source : Option Token) (attributes : Value)
        → Kept (import.phased x ts r phase name source attributes)
    unfolding import.phased
    phased_view phase name source attributes =
        given_any (Keeps by) (option_map (ident_of x) (token_of ts name)) _ (λ local.
        given_any (Keeps by) (option_map (str_of x) source) _ (λ src.
        given_any (Keeps by) (optional attributes_at attributes) _ (λ with_. one (Keeps by) (import_keeps _))))

    pub require_view : (is_export type_only : Bool) (name : Option Token) (source : Value)
        → Kept (import.require x ts r is_export type_only name source)
    unfolding import.require
    require_view is_export type_only name source =
        given_any (Keeps by) (option_map (ident_of x) name) _ (λ id.
        given_any (Keeps by) (option_map (str_of x) (token_of ts source)) _ (λ src.
        one (Keeps by) (equals_keeps _)))

    pub aliased_view : (is_export type_only : Bool) (name : Option Token) (entity : Option TsEntityName)
        → Kept (import.aliased x r is_export type_only name entity)
    unfolding import.aliased
    aliased_view is_export type_only name entity =
        given_any (Keeps by) (option_map (ident_of x) name) _ (λ id.
        given_any (Keeps by) entity _ (λ name. one (Keeps by) (equals_keeps _)))

    pub import_views : (it : Import) → Kept (import.the_import x ts r it)
    import_views (view.Bare source attributes) = bare_view _ _
    import_views (view.From type_only clause source attributes) = from_view type_only _ _ _
    import_views (view.Phased phase name source attributes) = phased_view phase _ _ _
    import_views (view.Require is_export type_only name source) = require_view is_export type_only _ _
    import_views (view.Entity is_export type_only name entity) = aliased_view is_export type_only _ _
    import_views view.Broken = none (Keeps by)

-- two diagnostics, and nothing written
pub noted_twice : (it : Env) (old one_ two new : Draft) (inner span p q : Range) → p ≡ inner → q ≡ span
    → one_.row ≡ old.row → state_of one_ ≡ note kind.UnsupportedUsing p (state_of old) → two.row ≡ one_.row
    → state_of two ≡ note kind.UnableToInferType q (state_of one_)
    → Writes it.text.now it.tokens.now two.row new.row [] → state_of new ≡ state_of two
    → NoUsing it old new inner span
noted_twice it old one_ two new inner span p q ep eq r1 s1 r2 s2 w sn = record {
  state = sn ∙ (s2 ∙ (ap (note kind.UnableToInferType q) s1
      ∙ (ap (λ (q : Range). note kind.UnableToInferType q (note kind.UnsupportedUsing p (state_of old))) eq
      ∙ ap (λ (p : Range). note kind.UnableToInferType span (note kind.UnsupportedUsing p (state_of old))) ep)));
  writes = subst (λ (row : List ChangedEntry). Writes it.text.now it.tokens.now row new.row []) (r2 ∙ r1) w;
}

module _ (x : List ℕ) (ts : List Token) (by : rules.Env) (top : Bool) where
  -- the turn of an import or export that stays
  kept_at : (turn it : Item) (old new : Draft) (d : ModuleDecl) → InTurn turn it
      → Writes x ts old.row new.row (valued x ts turn ∷ []) → state_of new ≡ state_of old
      → item_in (valued x ts it) ≡ Some (vItem.ModuleDecl d) → Keeps by d → ModuleDeclPuts x ts by top old new d
  kept_at turn it old new d t w sn e k =
      module_by x ts by top old new d (vItem.ModuleDecl d ∷ [])
      (k top (state_of old) ∙ ap (λ (s : State). (vItem.ModuleDecl d ∷ [], s)) (sym sn))
      (kept_item x ts turn it (vItem.ModuleDecl d) old.row new.row t w e)

  pub kept_turn : (turn it : Item) (old new : Draft) (o : Option ModuleDecl) → InTurn turn it
      → Writes x ts old.row new.row (valued x ts turn ∷ []) → state_of new ≡ state_of old
      → item_in (valued x ts it) ≡ item_by x ts o None → IfThere (Keeps by) o
      → IfThere (ModuleDeclPuts x ts by top old new) o
  kept_turn turn it old new None t w sn e k = record { is = tt }
  kept_turn turn it old new (Some d) t w sn e k = record { is = kept_at turn it old new d t w sn e k.is }

  pub kept_module_item : (turn it : Item) (old new : Draft) (o : Option ModuleDecl) → InTurn turn it
      → Writes x ts old.row new.row (valued x ts turn ∷ []) → state_of new ≡ state_of old
      → item_in (valued x ts it) ≡ item_by x ts o None → IfThere (Keeps by) o
      → IfThere (ItemPuts x ts by top old new) (item_in (valued x ts it))
  kept_module_item turn it old new o t w sn e k =
      module_as_item x ts by top old new o (item_in (valued x ts it)) e (kept_turn turn it old new o t w sn e k)

  -- ---- exported declarations
  abbrev Moved : Draft → Draft → Range → Decl → Type 0
  Moved old new r d = (shown_decl by d).stays ≡ false → ExportTurn x ts by top old new r d

  -- a node in a turn
  in_turn_of : (label : NodeKind) (v : Value) (d : ModuleDecl) (spot place from to : ℕ)
      (old outer inner mid closed_ new : List ChangedEntry) → outer ≡ old ++ opened → spot ≡ length old
      → inner ≡ outer ++ opened → place ≡ length outer → Writes x ts inner mid (v ∷ [])
      → closed_ ≡ closed (change.Old (vWhat.Node label)) from to place mid
      → new ≡ closed (change.Old vWhat.Parts) 0 0 spot closed_
      → module_decl_of x ts label (span_of ts from to) (packed (v ∷ [])) ≡ Some d
      → PutsAll x ts item_turn old new (vItem.ModuleDecl d ∷ [])
  unfolding build
  in_turn_of label v d spot place from to old outer inner mid closed_ new eo es ei ep w ec en is =
      turn_item x ts (node_of x ts label from to (packed (v ∷ []))) (vItem.ModuleDecl d) spot old outer closed_ new eo
      es (node_written x ts label from to place outer inner mid closed_ (v ∷ []) ei ep w ec) en
      (ap (λ (o : Option ModuleDecl). item_by x ts o (stmt_of x ts label (span_of ts from to) (packed (v ∷ [])))) is)

  export_is : (v : Value) (d : Decl) (r : Range) → decl_in v ≡ Some d
      → module_decl_of x ts l.ExportDeclaration r (packed (v ∷ [])) ≡ Some (vModule.ExportDecl d r)
  unfolding module_decl_of modules.export_declaration
  export_is v d r e = ap (option_map (λ (decl : Decl). vModule.ExportDecl decl r)) e

  pub exported : (old outer inner mid closed_ new : Draft) (spot place from to : ℕ) (o : Option Decl)
      → outer.row ≡ old.row ++ opened → spot ≡ length old.row → inner.row ≡ outer.row ++ opened
      → place ≡ length outer.row → state_of inner ≡ state_of old
      → IfThere (λ d. (shown_decl by d).stays ≡ false → DeclPuts x ts by top inner mid d) o
      → closed_.row ≡ closed (change.Old (vWhat.Node l.ExportDeclaration)) from to place mid.row
      → new.row ≡ closed (change.Old vWhat.Parts) 0 0 spot closed_.row → state_of new ≡ state_of mid
      → IfThere (Moved old new (span_of ts from to)) o
  exported old outer inner mid closed_ new spot place from to None eo es ei ep sb h ec en sn = record { is = tt }
  exported old outer inner mid closed_ new spot place from to (Some d) eo es ei ep sb h ec en sn =
      record { is = λ stays. go (h.is stays) }
    where
      go : DeclPuts x ts by top inner mid d → ExportTurn x ts by top old new (span_of ts from to) d
      go p = record {
        it = p.it;
        declared = ap (λ (s : State). (shown_decl by d).declared top s) (sym sb)
            ∙ (p.declared ∙ ap (λ (s : State). (Some p.it, s)) (sym sn));
        puts = in_turn_of l.ExportDeclaration p.value (vModule.ExportDecl p.it (span_of ts from to)) spot place from to
            old.row outer.row inner.row mid.row closed_.row new.row eo es ei ep p.writes ec en
            (export_is p.value p.it (span_of ts from to) p.decl);
      }

  -- by whether it is the body of overloads
  decl_by : (s : State) (d : Decl) (r : Range) (b : Bool) → ((shown_decl by d).is_function && by.implements r) ≡ b
      → shown_module_decl by (vModule.ExportDecl d r) top s
      ≡ programs.export_decl by b (d, shown_decl by d) r top s
  decl_by s d r b e =
      exported_is by top s d r ∙ ap (λ (b : Bool). programs.export_decl by b (d, shown_decl by d) r top s) e

  no_function : (d : Decl) (r : Range) → (shown_decl by d).is_function ≡ false
      → ((shown_decl by d).is_function && by.implements r) ≡ false
  no_function d r e = ap (λ (b : Bool). b && by.implements r) e

  listed_is : (ranges : List Range) (r : Range) (d : Decl) (b : Bool)
      → ((r : Range) → by.implements r ≡ has_range ranges r) → has_range ranges r ≡ b
      → (shown_decl by d).is_function ≡ true → ((shown_decl by d).is_function && by.implements r) ≡ b
  listed_is ranges r d b over e f = ap (λ (b : Bool). b && by.implements r) f ∙ (over r ∙ e)

  moved_at : (old new : Draft) (d : Decl) (r : Range) → ((shown_decl by d).is_function && by.implements r) ≡ false
      → ExportTurn x ts by top old new r d → ModuleDeclPuts x ts by top old new (vModule.ExportDecl d r)
  moved_at old new d r e t =
      module_by x ts by top old new (vModule.ExportDecl d r) (vItem.ModuleDecl (vModule.ExportDecl t.it r) ∷ [])
      (decl_by (state_of old) d r false e
      ∙ ap (λ (p : Option Decl × State). programs.exported by r p) t.declared)
      t.puts

  abbrev Functioned : Draft → Draft → Range → Decl → Type 0
  Functioned old new r d =
      (shown_decl by d).is_function ≡ true → (shown_decl by d).stays ≡ false
      → ModuleDeclPuts x ts by top old new (vModule.ExportDecl d r)

  pub function_dropped : (old new : Draft) (ranges : List Range) (r : Range) (o : Option Decl)
      → ((r : Range) → by.implements r ≡ has_range ranges r) → has_range ranges r ≡ true
      → Writes x ts old.row new.row [] → state_of new ≡ state_of old → IfThere (Functioned old new r) o
  function_dropped old new ranges r None over e w sn = record { is = tt }
  function_dropped old new ranges r (Some d) over e w sn = record {
    is = λ f stays. module_by x ts by top old new (vModule.ExportDecl d r) []
        (decl_by (state_of old) d r true (listed_is ranges r d true over e f)
        ∙ ap (λ (s : State). ([], s)) (sym sn)) (no_items x ts old.row new.row w);
  }

  pub function_moved : (old new : Draft) (ranges : List Range) (r : Range) (o : Option Decl)
      → ((r : Range) → by.implements r ≡ has_range ranges r) → has_range ranges r ≡ false
      → IfThere (Moved old new r) o → IfThere (Functioned old new r) o
  function_moved old new ranges r None over e h = record { is = tt }
  function_moved old new ranges r (Some d) over e h = record {
    is = λ f stays. moved_at old new d r (listed_is ranges r d false over e f) (h.is stays);
  }

  -- ---- an exported declaration, by what it is
  pub function_export : (old new : Draft) (r span : Range) (o : Option Decl) → IfThere (Sorted sort.Function span) o
      → IfThere (Functioned old new r) o → IfThere (ModuleDeclPuts x ts by top old new) (export.declaration r o)
  unfolding export.declaration
  function_export old new r span None known h = record { is = tt }
  function_export old new r span (Some d) known h =
      let s = known.is.shows by in record { is = h.is s.0 s.1 }

  pub other_export : (old new : Draft) (r span : Range) (o : Option Decl) → IfThere (Sorted sort.Other span) o
      → IfThere (Moved old new r) o → IfThere (ModuleDeclPuts x ts by top old new) (export.declaration r o)
  unfolding export.declaration
  other_export old new r span None known h = record { is = tt }
  other_export old new r span (Some d) known h =
      let s = known.is.shows by in record { is = moved_at old new d r (no_function d r s.0) (h.is s.1) }

  pub type_export : (turn it : Item) (old new : Draft) (r span : Range) (o : Option Decl) → InTurn turn it
      → Writes x ts old.row new.row (valued x ts turn ∷ []) → state_of new ≡ state_of old
      → item_in (valued x ts it) ≡ item_by x ts (export.declaration r o) None → IfThere (Sorted sort.Type span) o
      → IfThere (ModuleDeclPuts x ts by top old new) (export.declaration r o)
  unfolding export.declaration
  type_export turn it old new r span None t w sn e known = record { is = tt }
  type_export turn it old new r span (Some d) t w sn e known =
      let s = known.is.shows by in
      record {
        is = module_by x ts by top old new (vModule.ExportDecl d r) (vItem.ModuleDecl (vModule.ExportDecl d r) ∷ [])
            (decl_by (state_of old) d r false (no_function d r s.0)
            ∙ (ap (λ (p : Option Decl × State). programs.exported by r p) (s.2 top (state_of old))
            ∙ ap (λ (s : State). (vItem.ModuleDecl (vModule.ExportDecl d r) ∷ [], s)) (sym sn)))
            (kept_item x ts turn it (vItem.ModuleDecl (vModule.ExportDecl d r)) old.row new.row t w e);
      }

  pub using_export : (old new : Draft) (r span : Range) (o : Option Decl)
      → state_of new ≡ note kind.UnableToInferType r (note kind.UnsupportedUsing span (state_of old))
      → Writes x ts old.row new.row [] → IfThere (Sorted sort.Using span) o
      → IfThere (ModuleDeclPuts x ts by top old new) (export.declaration r o)
  unfolding export.declaration
  using_export old new r span None sn w known = record { is = tt }
  using_export old new r span (Some d) sn w known =
      let s = known.is.shows by in
      record {
        is = module_by x ts by top old new (vModule.ExportDecl d r) []
            (decl_by (state_of old) d r false (no_function d r s.0)
            ∙ (ap (λ (p : Option Decl × State). programs.exported by r p) (s.2 top (state_of old))
            ∙ ap (λ (s : State). ([], s)) (sym sn)))
            (no_items x ts old.row new.row w);
      }

  -- ---- a declaration after `export default`
  pub defaulted : (label : NodeKind) (old outer inner mid closed_ new : Draft) (spot place from to : ℕ)
      (o : Option Decl)
      → ((p : Value) → module_decl_of x ts label (span_of ts from to) p
      ≡ modules.export_default_decl (span_of ts from to) p)
      → outer.row ≡ old.row ++ opened → spot ≡ length old.row → inner.row ≡ outer.row ++ opened
      → place ≡ length outer.row → state_of inner ≡ state_of old → IfThere (DefaultPuts x ts by inner mid) o
      → closed_.row ≡ closed (change.Old (vWhat.Node label)) from to place mid.row
      → new.row ≡ closed (change.Old vWhat.Parts) 0 0 spot closed_.row → state_of new ≡ state_of mid
      → IfThere (DefaultTurn x ts by old new (span_of ts from to)) o
  unfolding modules.export_default_decl
  defaulted label old outer inner mid closed_ new spot place from to None is eo es ei ep sb h ec en sn =
      record { is = tt }
  defaulted label old outer inner mid closed_ new spot place from to (Some d) is eo es ei ep sb h ec en sn = record {
    is = record {
      it = h.is.it;
      defaulted = ap (λ (s : State). (shown_decl by d).defaulted s) (sym sb)
          ∙ (h.is.defaulted ∙ ap (λ (s : State). (h.is.it, s)) (sym sn));
      puts = in_turn_of label h.is.value (vModule.ExportDefaultDecl h.is.it (span_of ts from to)) spot place from to
          old.row outer.row inner.row mid.row closed_.row new.row eo es ei ep h.is.writes ec en
          (is (packed (h.is.value ∷ []))
          ∙ ap (option_map (λ (decl : Decl). vModule.ExportDefaultDecl decl (span_of ts from to))) h.is.decl);
    };
  }

  default_by : (s : State) (d : Decl) (r : Range) (b : Bool) → ((shown_decl by d).is_function && by.implements r) ≡ b
      → shown_module_decl by (vModule.ExportDefaultDecl d r) top s
      ≡ programs.export_default by b (d, shown_decl by d) r s
  default_by s d r b e =
      defaulted_is by top s d r ∙ ap (λ (b : Bool). programs.export_default by b (d, shown_decl by d) r s) e

  default_at : (old new : Draft) (d : Decl) (r : Range) → ((shown_decl by d).is_function && by.implements r) ≡ false
      → DefaultTurn x ts by old new r d → ModuleDeclPuts x ts by top old new (vModule.ExportDefaultDecl d r)
  default_at old new d r e t =
      module_by x ts by top old new (vModule.ExportDefaultDecl d r)
      (vItem.ModuleDecl (vModule.ExportDefaultDecl t.it r) ∷ [])
      (default_by (state_of old) d r false e
      ∙ ap (λ (p : Decl × State). rules.after (λ (d : Decl). programs.one by (vModule.ExportDefaultDecl d r)) p)
      t.defaulted)
      t.puts

  abbrev Defaulted : Draft → Draft → Range → Decl → Type 0
  Defaulted old new r d =
      (shown_decl by d).is_function ≡ true → ModuleDeclPuts x ts by top old new (vModule.ExportDefaultDecl d r)

  pub default_dropped : (old new : Draft) (ranges : List Range) (r : Range) (o : Option Decl)
      → ((r : Range) → by.implements r ≡ has_range ranges r) → has_range ranges r ≡ true
      → Writes x ts old.row new.row [] → state_of new ≡ state_of old → IfThere (Defaulted old new r) o
  default_dropped old new ranges r None over e w sn = record { is = tt }
  default_dropped old new ranges r (Some d) over e w sn = record {
    is = λ f. module_by x ts by top old new (vModule.ExportDefaultDecl d r) []
        (default_by (state_of old) d r true (listed_is ranges r d true over e f)
        ∙ ap (λ (s : State). ([], s)) (sym sn)) (no_items x ts old.row new.row w);
  }

  pub default_kept : (old new : Draft) (ranges : List Range) (r : Range) (o : Option Decl)
      → ((r : Range) → by.implements r ≡ has_range ranges r) → has_range ranges r ≡ false
      → IfThere (DefaultTurn x ts by old new r) o → IfThere (Defaulted old new r) o
  default_kept old new ranges r None over e h = record { is = tt }
  default_kept old new ranges r (Some d) over e h = record {
    is = λ f. default_at old new d r (listed_is ranges r d false over e f) h.is;
  }

  pub function_default : (old new : Draft) (r span : Range) (o : Option Decl) → IfThere (Sorted sort.Function span) o
      → IfThere (Defaulted old new r) o → IfThere (ModuleDeclPuts x ts by top old new) (export.default_decl r o)
  unfolding export.default_decl
  function_default old new r span None known h = record { is = tt }
  function_default old new r span (Some d) known h = record { is = h.is (known.is.shows by).0 }

  -- one that is no function
  abbrev Quiet : Decl → Type 0
  Quiet d = (shown_decl by d).is_function ≡ false

  quiet_default : (old new : Draft) (r : Range) (o : Option Decl) → IfThere Quiet o
      → IfThere (DefaultTurn x ts by old new r) o
      → IfThere (ModuleDeclPuts x ts by top old new) (export.default_decl r o)
  unfolding export.default_decl
  quiet_default old new r None known h = record { is = tt }
  quiet_default old new r (Some d) known h = record { is = default_at old new d r (no_function d r known.is) h.is }

  pub type_default : (old new : Draft) (r span : Range) (o : Option Decl) → IfThere (Sorted sort.Type span) o
      → IfThere (DefaultTurn x ts by old new r) o
      → IfThere (ModuleDeclPuts x ts by top old new) (export.default_decl r o)
  type_default old new r span o known h = quiet_default old new r o (go o known) h
    where
      go : (o : Option Decl) → IfThere (Sorted sort.Type span) o → IfThere Quiet o
      go None known = record { is = tt }
      go (Some d) known = record { is = (known.is.shows by).0 }

  pub using_default : (old new : Draft) (r span : Range) (o : Option Decl) → IfThere (Sorted sort.Using span) o
      → IfThere (DefaultTurn x ts by old new r) o
      → IfThere (ModuleDeclPuts x ts by top old new) (export.default_decl r o)
  using_default old new r span o known h = quiet_default old new r o (go o known) h
    where
      go : (o : Option Decl) → IfThere (Sorted sort.Using span) o → IfThere Quiet o
      go None known = record { is = tt }
      go (Some d) known = record { is = (known.is.shows by).0 }

  pub other_default : (old new : Draft) (r span : Range) (o : Option Decl) → IfThere (Sorted sort.Other span) o
      → IfThere (DefaultTurn x ts by old new r) o
      → IfThere (ModuleDeclPuts x ts by top old new) (export.default_decl r o)
  other_default old new r span o known h = quiet_default old new r o (go o known) h
    where
      go : (o : Option Decl) → IfThere (Sorted sort.Other span) o → IfThere Quiet o
      go None known = record { is = tt }
      go (Some d) known = record { is = (known.is.shows by).0 }

-- ---- of whatever place
module _ (x : List ℕ) (ts : List Token) (by : rules.Env) where
  abbrev AllDefaulted : Draft → Draft → Range → Decl → Type 0
  AllDefaulted old new r d =
      (shown_decl by d).is_function ≡ true → (top : Bool)
      → ModuleDeclPuts x ts by top old new (vModule.ExportDefaultDecl d r)

  each_top : (old new : Draft) (r : Range) (o : Option Decl)
      → ((top : Bool) → IfThere (Defaulted x ts by top old new r) o)
      → IfThere (AllDefaulted old new r) o
  each_top old new r None each = record { is = tt }
  each_top old new r (Some d) each = record { is = λ f top. (each top).is f }

  pub functions_dropped : (old new : Draft) (ranges : List Range) (r : Range) (o : Option Decl)
      → ((r : Range) → by.implements r ≡ has_range ranges r) → has_range ranges r ≡ true
      → Writes x ts old.row new.row [] → state_of new ≡ state_of old → IfThere (AllDefaulted old new r) o
  functions_dropped old new ranges r o over e w sn =
      each_top old new r o (λ top. default_dropped x ts by top old new ranges r o over e w sn)

  pub functions_kept : (old new : Draft) (ranges : List Range) (r : Range) (o : Option Decl)
      → ((r : Range) → by.implements r ≡ has_range ranges r) → has_range ranges r ≡ false
      → IfThere (DefaultTurn x ts by old new r) o → IfThere (AllDefaulted old new r) o
  functions_kept old new ranges r o over e h =
      each_top old new r o (λ top. default_kept x ts by top old new ranges r o over e h)

  pub functions_default : (top : Bool) (old new : Draft) (r span : Range) (o : Option Decl)
      → IfThere (Sorted sort.Function span) o → IfThere (AllDefaulted old new r) o
      → IfThere (ModuleDeclPuts x ts by top old new) (export.default_decl r o)
  functions_default top old new r span o known h = function_default x ts by top old new r span o known (go o h)
    where
      go : (o : Option Decl) → IfThere (AllDefaulted old new r) o → IfThere (Defaulted x ts by top old new r) o
      go None h = record { is = tt }
      go (Some d) h = record { is = λ f. h.is f top }
