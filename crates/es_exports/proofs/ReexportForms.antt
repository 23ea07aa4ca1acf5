-- What an export adds of modules whose names are exported again.
use Rattle.std.specs.Prelude.{ℕ, Bool, List, [], ◌∷◌, ◌++◌, Option, Some, None, codes}
use Rattle.std.specs.Option.{option_map}
use Rattle.std.specs.List.{flat_map}
use Rattle.std.proofs.Common.{◌≡◌, refl, sym, ap, subst, ◌∙◌}
use Rattle.std.proofs.lemmas.List.{append-nil}
use Rattle.base.specs.declared.range.Range.{Range}
use Rattle.es_token.specs.declared.token.Token.{Token}
use Rattle.es_ast.specs.declared.leaf.ExportSpecifier.{ExportSpecifier}
use Rattle.es_ast.specs.declared.leaf.ModuleExportName.{ModuleExportName}
use Rattle.es_ast.specs.declared.ast.Decl.{Decl}
use Rattle.es_ast.specs.declared.ast.Expr.{Expr}
use Rattle.es_ast.specs.declared.ast.ModuleDecl.{ModuleDecl, roll-ModuleDecl, out-ModuleDecl, out-roll-ModuleDecl}
use Rattle.es_ast.specs.declared.ast.ModuleDecl.TheVariants as vModuleDecl
use Rattle.es_ast.specs.declared.ast.ClassMember.TheOpen.{ModuleDecl-F}
use Rattle.es_site.specs.Parts.{Whole}
use Rattle.es_lowering.specs.Value.{Value, nil, more, as_group, given, group, optional, turns, attributes_at, export_specifier_at}
use Rattle.es_lowering.specs.Texts.{ident_of, str_of, name_of, name_at, token_at}
use Rattle.es_lowering.specs.Modules.{source_with, with_of}
use Rattle.es_view_modules.specs.items.Export as export
use Rattle.es_bound_names.specs.Names.{Names}
use Rattle.es_bound_names.specs.Adds.{Adds}
use Rattle.es_bound_names.proofs.Heads.{given_any, nothing}
use Rattle.es_exports.specs.Exports.{again_by}
use Rattle.es_exports.specs.Parts.{str_names, decl_reexports}

decl_is : (d : ModuleDecl) (w : Whole ModuleDecl-F) (old new : Names) → new ≡ old ++ again_by w
    → roll-ModuleDecl w ≡ d → Adds decl_reexports old new (Some d)
decl_is d w old new e rolls = record {
  added = e ∙ ap (λ m. old ++ again_by m) (sym (sym (ap out-ModuleDecl rolls) ∙ out-roll-ModuleDecl w));
}

given_with : {A B : Type 0} (g : A → Names) (f : B → Names) {old new : Names} (o : Option A) {make : A → Option B}
    → Adds g old new o → ((it : A) → new ≡ old ++ g it → Adds f old new (make it)) → Adds f old new (given o make)
given_with g f None a b = record { added = tt }
given_with g f (Some it) a b = b it a.added

-- ---- all names of a module
module _ (x : List ℕ) (ts : List Token) (r : Range) (type_only : Bool) (exported : Value) (source : Option Token)
    (attributes : Value) where
  pub adds_all : (old new : Names) → exported ≡ nil → Adds str_names old new (option_map (str_of x) source)
      → Adds decl_reexports old new (export.all x ts r type_only exported source attributes)
  unfolding export.all
  adds_all old new is a =
      subst (λ (v : Value). Adds decl_reexports old new (export.all x ts r type_only v source attributes)) (sym is)
      (given_with str_names decl_reexports (option_map (str_of x) source) a (λ src e.
      given_any decl_reexports (optional attributes_at attributes) (λ with.
      decl_is _ (ModuleDecl-F.ExportAll _) old new e (vModuleDecl.rolls-ExportAll _))))

  pub adds_all_as : (u us : Value) (old : Names) → exported ≡ more u us
      → Adds decl_reexports old old (export.all x ts r type_only exported source attributes)
  unfolding export.all
  adds_all_as u us old is =
      subst (λ (v : Value). Adds decl_reexports old old (export.all x ts r type_only v source attributes)) (sym is)
      (go (name_at x ts (as_group u) 0))
    where
      go : (o : Option ModuleExportName) → Adds decl_reexports old old (given (option_map Some o) (λ exported.
          given (option_map (str_of x) source) (λ src.
          given (optional attributes_at attributes) (λ with.
          Some (vModuleDecl.ExportAll (record
          { type_only = type_only; exported = exported; src = src; with = with; span = r }))))))
      go None = record { added = tt }
      go (Some name) =
          given_any decl_reexports (option_map (str_of x) source) (λ src.
          given_any decl_reexports (optional attributes_at attributes) (λ with.
          decl_is _ (ModuleDecl-F.ExportAll _) old old (nothing old) (vModuleDecl.rolls-ExportAll _)))

-- ---- the others
pub adds_names : (x : List ℕ) (ts : List Token) (r : Range) (type_only : Bool) (specifiers source : Value)
    (old : Names) → Adds decl_reexports old old (export.names x ts r type_only specifiers source)
unfolding export.names
adds_names x ts r type_only specifiers source old =
    given_any decl_reexports (turns (λ turn. export_specifier_at turn 0) specifiers) (λ all.
    given_any decl_reexports (optional (source_with x ts) source) (λ from.
    decl_is _ (ModuleDecl-F.ExportNamed _) old old (nothing old) (vModuleDecl.rolls-ExportNamed _)))

pub adds_namespace : (x : List ℕ) (r : Range) (o : Option Token) (old : Names)
    → Adds decl_reexports old old (export.namespace x r o)
unfolding export.namespace
adds_namespace x r None old = record { added = tt }
adds_namespace x r (Some t) old =
    decl_is _ (ModuleDecl-F.TsNamespaceExport _) old old (nothing old) (vModuleDecl.rolls-TsNamespaceExport _)

pub adds_default_decl : (r : Range) (o : Option Decl) (old : Names)
    → Adds decl_reexports old old (export.default_decl r o)
unfolding export.default_decl
adds_default_decl r None old = record { added = tt }
adds_default_decl r (Some decl) old =
    decl_is _ (ModuleDecl-F.ExportDefaultDecl decl r) old old (nothing old) (vModuleDecl.rolls-ExportDefaultDecl decl r)

pub adds_default_expr : (r : Range) (o : Option Expr) (old : Names)
    → Adds decl_reexports old old (export.default_expr r o)
unfolding export.default_expr
adds_default_expr r None old = record { added = tt }
adds_default_expr r (Some expr) old =
    decl_is _ (ModuleDecl-F.ExportDefaultExpr expr r) old old (nothing old) (vModuleDecl.rolls-ExportDefaultExpr expr r)

pub adds_decl : (r : Range) (o : Option Decl) (old : Names)
    → Adds decl_reexports old old (export.declaration r o)
unfolding export.declaration
adds_decl r None old = record { added = tt }
adds_decl r (Some decl) old =
    decl_is _ (ModuleDecl-F.ExportDecl decl r) old old (nothing old) (vModuleDecl.rolls-ExportDecl decl r)

pub adds_assignment : (r : Range) (o : Option Expr) (old : Names) → Adds decl_reexports old old (export.assignment r o)
unfolding export.assignment
adds_assignment r None old = record { added = tt }
adds_assignment r (Some expr) old =
    decl_is _ (ModuleDecl-F.TsExportAssignment expr r) old old (nothing old)
    (vModuleDecl.rolls-TsExportAssignment expr r)
