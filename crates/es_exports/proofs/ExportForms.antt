-- What an export adds, from what its parts add.
use Rattle.std.specs.Prelude.{ℕ, Bool, List, [], ◌∷◌, ◌++◌, Option, Some, None, codes}
use Rattle.std.specs.Option.{option_map}
use Rattle.std.specs.List.{flat_map}
use Rattle.std.proofs.Common.{◌≡◌, refl, sym, ap, subst, ◌∙◌}
use Rattle.std.proofs.lemmas.List.{append-nil}
use Rattle.base.specs.declared.range.Range.{Range}
use Rattle.es_token.specs.declared.token.Token.{Token}
use Rattle.es_ast.specs.declared.leaf.ExportSpecifier.{ExportSpecifier}
use Rattle.es_ast.specs.declared.leaf.ModuleExportName.{ModuleExportName}
use Rattle.es_ast.specs.declared.ast.Decl.{Decl}
use Rattle.es_ast.specs.declared.ast.Expr.{Expr}
use Rattle.es_ast.specs.declared.ast.ModuleDecl.{ModuleDecl, roll-ModuleDecl, out-ModuleDecl, out-roll-ModuleDecl}
use Rattle.es_ast.specs.declared.ast.ModuleDecl.TheVariants as vModuleDecl
use Rattle.es_ast.specs.declared.ast.ClassMember.TheOpen.{ModuleDecl-F}
use Rattle.es_site.specs.Parts.{Whole}
use Rattle.es_lowering.specs.Value.{Value, nil, more, as_group, given, group, optional, turns, attributes_at, export_specifier_at}
use Rattle.es_lowering.specs.Texts.{ident_of, str_of, name_of, name_at}
use Rattle.es_lowering.specs.Modules.{source_with, with_of}
use Rattle.es_view_modules.specs.items.Export as export
use Rattle.es_view_modules.specs.names.ExportSpecifier as specifier
use Rattle.es_bound_names.specs.Names.{Names, declared_names}
use Rattle.es_bound_names.specs.Adds.{Adds}
use Rattle.es_bound_names.proofs.Heads.{given_any, nothing}
use Rattle.es_exports.specs.Exports.{names_by, export_name, outer_name, all_as, default_name}
use Rattle.es_exports.specs.Parts.{decl_exports}
use Rattle.es_exports.specs.Named.{named_as}

decl_is : (d : ModuleDecl) (w : Whole ModuleDecl-F) (old new : Names) → new ≡ old ++ names_by w
    → roll-ModuleDecl w ≡ d → Adds decl_exports old new (Some d)
decl_is d w old new e rolls = record {
  added = e ∙ ap (λ m. old ++ names_by m) (sym (sym (ap out-ModuleDecl rolls) ∙ out-roll-ModuleDecl w));
}

given_with : {A B : Type 0} (g : A → Names) (f : B → Names) {old new : Names} (o : Option A) {make : A → Option B}
    → Adds g old new o → ((it : A) → new ≡ old ++ g it → Adds f old new (make it)) → Adds f old new (given o make)
given_with g f None a b = record { added = tt }
given_with g f (Some it) a b = b it a.added

-- ---- all names of a module
pub adds_all : (x : List ℕ) (ts : List Token) (r : Range) (type_only : Bool) (exported : Value)
    (source : Option Token) (attributes : Value) (old new : Names) → Adds all_as old new (named_as x ts exported)
    → Adds decl_exports old new (export.all x ts r type_only exported source attributes)
unfolding export.all named_as
adds_all x ts r type_only exported source attributes old new a =
    given_with all_as decl_exports (optional (λ g n. name_at x ts (group g n) 0) exported) a (λ name e.
    given_any decl_exports (option_map (str_of x) source) (λ src.
    given_any decl_exports (optional attributes_at attributes) (λ with.
    decl_is _ (ModuleDecl-F.ExportAll _) old new e (vModuleDecl.rolls-ExportAll _))))

-- ---- names in braces
pub adds_names : (x : List ℕ) (ts : List Token) (r : Range) (type_only : Bool) (specifiers source : Value)
    (old new : Names)
    → Adds (flat_map outer_name) old new (turns (λ turn. export_specifier_at turn 0) specifiers)
    → Adds decl_exports old new (export.names x ts r type_only specifiers source)
unfolding export.names
adds_names x ts r type_only specifiers source old new a =
    given_with (flat_map outer_name) decl_exports (turns (λ turn. export_specifier_at turn 0) specifiers) a (λ all e.
    given_any decl_exports (optional (source_with x ts) source) (λ from.
    decl_is _ (ModuleDecl-F.ExportNamed _) old new e (vModuleDecl.rolls-ExportNamed _)))

module _ (x : List ℕ) (ts : List Token) (r : Range) (type_only : Bool) where
  pub adds_same : (o : Option Token) (exported : Value) (old new : Names) → exported ≡ nil
      → Adds export_name old new (option_map (name_of x) o)
      → Adds outer_name old new (specifier.exported_as x ts r type_only o exported)
  unfolding specifier.exported_as
  adds_same o exported old new is a =
      subst (λ (v : Value). Adds outer_name old new (specifier.exported_as x ts r type_only o v)) (sym is)
      (given_with export_name outer_name (option_map (name_of x) o) a (λ orig e. record { added = e }))

  some_outer : (orig : ModuleExportName) (o : Option ModuleExportName) (old new : Names)
      → Adds export_name old new o
      → Adds outer_name old new (given (option_map Some o) (λ exported.
      Some (record { type_only = type_only; orig = orig; exported = exported; span = r })))
  some_outer orig None old new a = record { added = tt }
  some_outer orig (Some name) old new a = record { added = a.added }

  pub adds_outer : (orig : Option Token) (exported u us : Value) (old new : Names) → exported ≡ more u us
      → Adds export_name old new (name_at x ts (as_group u) 0)
      → Adds outer_name old new (specifier.exported_as x ts r type_only orig exported)
  unfolding specifier.exported_as
  adds_outer orig exported u us old new is a =
      subst (λ (v : Value). Adds outer_name old new (specifier.exported_as x ts r type_only orig v)) (sym is)
      (given_any outer_name (option_map (name_of x) orig) (λ orig.
      some_outer orig (name_at x ts (as_group u) 0) old new a))

-- ---- the others
pub adds_namespace : (x : List ℕ) (r : Range) (o : Option Token) (old : Names)
    → Adds decl_exports old old (export.namespace x r o)
unfolding export.namespace
adds_namespace x r None old = record { added = tt }
adds_namespace x r (Some t) old =
    decl_is _ (ModuleDecl-F.TsNamespaceExport _) old old (nothing old) (vModuleDecl.rolls-TsNamespaceExport _)

pub adds_default_decl : (r : Range) (o : Option Decl) (old new : Names) → new ≡ old ++ codes "default" ∷ []
    → Adds decl_exports old new (export.default_decl r o)
unfolding export.default_decl
adds_default_decl r None old new e = record { added = tt }
adds_default_decl r (Some decl) old new e =
    decl_is _ (ModuleDecl-F.ExportDefaultDecl decl r) old new e (vModuleDecl.rolls-ExportDefaultDecl decl r)

pub adds_default_expr : (r : Range) (o : Option Expr) (old new : Names) → new ≡ old ++ codes "default" ∷ []
    → Adds decl_exports old new (export.default_expr r o)
unfolding export.default_expr
adds_default_expr r None old new e = record { added = tt }
adds_default_expr r (Some expr) old new e =
    decl_is _ (ModuleDecl-F.ExportDefaultExpr expr r) old new e (vModuleDecl.rolls-ExportDefaultExpr expr r)

pub adds_decl : (r : Range) (o : Option Decl) (old new : Names) → Adds declared_names old new o
    → Adds decl_exports old new (export.declaration r o)
unfolding export.declaration
adds_decl r None old new a = record { added = tt }
adds_decl r (Some decl) old new a =
    decl_is _ (ModuleDecl-F.ExportDecl decl r) old new a.added (vModuleDecl.rolls-ExportDecl decl r)

pub adds_assignment : (r : Range) (o : Option Expr) (old : Names) → Adds decl_exports old old (export.assignment r o)
unfolding export.assignment
adds_assignment r None old = record { added = tt }
adds_assignment r (Some expr) old =
    decl_is _ (ModuleDecl-F.TsExportAssignment expr r) old old (nothing old)
    (vModuleDecl.rolls-TsExportAssignment expr r)
