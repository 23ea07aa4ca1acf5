-- What exports add: what their declaration does, or nothing.
use Rattle.std.specs.Prelude.{ℕ, Bool, List, Option, Some, None, option_map}
use Rattle.std.proofs.Common.{◌≡◌, refl, sym, ap, subst, ◌∙◌}
use Rattle.base.specs.declared.range.Range.{Range}
use Rattle.es_token.specs.declared.token.Token.{Token}
use Rattle.es_ast.specs.declared.ts.leaf.Ident.{Ident}
use Rattle.es_ast.specs.declared.leaf.ExportAll.{ExportAll}
use Rattle.es_ast.specs.declared.leaf.NamedExport.{NamedExport}
use Rattle.es_ast.specs.declared.ast.Decl.{Decl}
use Rattle.es_ast.specs.declared.ast.Expr.{Expr}
use Rattle.es_ast.specs.declared.ast.ModuleDecl.{ModuleDecl, roll-ModuleDecl, out-ModuleDecl, out-roll-ModuleDecl}
use Rattle.es_ast.specs.declared.ast.ModuleDecl.TheVariants as vModule
use Rattle.es_ast.specs.declared.ast.ModuleItem.{ModuleItem, out-ModuleItem, out-roll-ModuleItem}
use Rattle.es_ast.specs.declared.ast.ModuleItem.TheVariants as vItem
use Rattle.es_ast.specs.declared.ast.ClassMember.TheOpen.{ModuleDecl-F, ModuleItem-F}
use Rattle.es_site.specs.Parts.{Whole}
use Rattle.es_lowering.specs.Value.{Value, group, optional, turns, attributes_at, export_specifier_at}
use Rattle.es_lowering.specs.Texts.{ident_of, str_of, name_at}
use Rattle.es_lowering.specs.Modules.{source_with}
use Rattle.es_lowering.specs.Lowering.{item_by}
use Rattle.es_view_modules.specs.items.Export as export
use Rattle.dts_rules.specs.Sets.{Numbers, Sets, no_sets, decl_sets, export_by, item_by as item_sets_by}
use Rattle.dts_sets.specs.declared.known.Known.{Known}
use Rattle.dts_sets.specs.Known.{Adds, export_sets, item_sets}
use Rattle.dts_sets.proofs.Grown.{grown_none, grown_by, given_any}

module _ (number : Numbers) where
  export_is : (it : ModuleDecl) (w : Whole ModuleDecl-F) (s : Sets) → roll-ModuleDecl w ≡ it → export_by number w ≡ s
      → export_sets number it ≡ s
  export_is it w s rolls e =
      ap (λ it. export_by number (out-ModuleDecl it)) (sym rolls) ∙ ap (export_by number) (out-roll-ModuleDecl w) ∙ e

  nothing : (it : ModuleDecl) (w : Whole ModuleDecl-F) (known : Known) → roll-ModuleDecl w ≡ it
      → export_by number w ≡ no_sets
      → Adds (export_sets number) known known (Some it)
  nothing it w known rolls e = record {
    added = grown_by known known no_sets (export_sets number it) (sym (export_is it w no_sets rolls e))
        (grown_none known);
  }

  -- ---- nothing
  all_is : (it : ExportAll) (known : Known) → Adds (export_sets number) known known (Some (vModule.ExportAll it))
  all_is it known = nothing _ (ModuleDecl-F.ExportAll it) known (vModule.rolls-ExportAll it) refl

  names_are : (it : NamedExport) (known : Known) → Adds (export_sets number) known known (Some (vModule.ExportNamed it))
  names_are it known = nothing _ (ModuleDecl-F.ExportNamed it) known (vModule.rolls-ExportNamed it) refl

  pub adds_all : (x : List ℕ) (ts : List Token) (r : Range) (type_only : Bool) (exported : Value)
      (source : Option Token)
      (attributes : Value) (known : Known)
      → Adds (export_sets number) known known (export.all x ts r type_only exported source attributes)
  unfolding export.all
  adds_all x ts r type_only exported source attributes known =
      given_any (export_sets number) (optional (λ g n. name_at x ts (group g n) 0) exported) (λ e.
      given_any (export_sets number) (option_map (str_of x) source) (λ src.
      given_any (export_sets number) (optional attributes_at attributes) (λ with_. all_is _ known)))

  pub adds_names : (x : List ℕ) (ts : List Token) (r : Range) (type_only : Bool) (specifiers source : Value)
      (known : Known)
      → Adds (export_sets number) known known (export.names x ts r type_only specifiers source)
  unfolding export.names
  adds_names x ts r type_only specifiers source known =
      given_any (export_sets number) (turns (λ turn. export_specifier_at turn 0) specifiers) (λ ss.
      given_any (export_sets number) (optional (source_with x ts) source) (λ src. names_are _ known))

  pub adds_namespace : (x : List ℕ) (r : Range) (name : Option Token) (known : Known)
      → Adds (export_sets number) known known (export.namespace x r name)
  unfolding export.namespace
  adds_namespace x r name known = go (option_map (ident_of x) name)
    where
      go : (o : Option Ident) → Adds (export_sets number) known known
          (option_map (λ id. vModule.TsNamespaceExport (record { id = id; span = r })) o)
      go None = record { added = tt }
      go (Some id) =
          nothing _ (ModuleDecl-F.TsNamespaceExport (record { id = id; span = r })) known
          (vModule.rolls-TsNamespaceExport (record { id = id; span = r })) refl

  pub adds_default_expr : (r : Range) (o : Option Expr) (known : Known)
      → Adds (export_sets number) known known (export.default_expr r o)
  unfolding export.default_expr
  adds_default_expr r None known = record { added = tt }
  adds_default_expr r (Some e) known =
      nothing _ (ModuleDecl-F.ExportDefaultExpr e r) known (vModule.rolls-ExportDefaultExpr e r) refl

  pub adds_assignment : (r : Range) (o : Option Expr) (known : Known)
      → Adds (export_sets number) known known (export.assignment r o)
  unfolding export.assignment
  adds_assignment r None known = record { added = tt }
  adds_assignment r (Some e) known =
      nothing _ (ModuleDecl-F.TsExportAssignment e r) known (vModule.rolls-TsExportAssignment e r) refl

  -- ---- what the declaration adds
  pub adds_decl : (r : Range) (o : Option Decl) (old new : Known) → Adds (decl_sets number) old new o
      → Adds (export_sets number) old new (export.declaration r o)
  unfolding export.declaration
  adds_decl r None old new a = record { added = tt }
  adds_decl r (Some d) old new a = record {
    added = grown_by old new (decl_sets number d) (export_sets number (vModule.ExportDecl d r))
        (sym (export_is _ (ModuleDecl-F.ExportDecl d r) (decl_sets number d) (vModule.rolls-ExportDecl d r) refl))
        a.added;
  }

  pub adds_default_decl : (r : Range) (o : Option Decl) (old new : Known) → Adds (decl_sets number) old new o
      → Adds (export_sets number) old new (export.default_decl r o)
  unfolding export.default_decl
  adds_default_decl r None old new a = record { added = tt }
  adds_default_decl r (Some d) old new a = record {
    added = grown_by old new (decl_sets number d) (export_sets number (vModule.ExportDefaultDecl d r))
        (sym (export_is _ (ModuleDecl-F.ExportDefaultDecl d r) (decl_sets number d)
        (vModule.rolls-ExportDefaultDecl d r) refl)) a.added;
  }

  -- ---- an export as an item
  of_item : (x : List ℕ) (ts : List Token) (o : Option ModuleDecl) (old new : Known)
      → Adds (export_sets number) old new o
      → Adds (item_sets number) old new (item_by x ts o None)
  of_item x ts None old new a = record { added = tt }
  of_item x ts (Some it) old new a = record {
    added = grown_by old new (export_sets number it) (item_sets number (vItem.ModuleDecl it))
        (sym (ap (λ it. item_sets_by number (out-ModuleItem it)) (sym (vItem.rolls-ModuleDecl it))
        ∙ ap (item_sets_by number) (out-roll-ModuleItem (ModuleItem-F.ModuleDecl it)))) a.added;
  }

  pub adds_export_item : (x : List ℕ) (ts : List Token) (item : Option ModuleItem) (o : Option ModuleDecl)
      (old new : Known)
      → item ≡ item_by x ts o None → Adds (export_sets number) old new o → Adds (item_sets number) old new item
  adds_export_item x ts item o old new e a =
      let P : Option ModuleItem → Type 0 = λ i. Adds (item_sets number) old new i in
      subst P (sym e) (of_item x ts o old new a)
