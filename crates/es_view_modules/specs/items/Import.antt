-- What a view of an import tells.
use Rattle.std.specs.Prelude.{◌+◌, ◌-◌, ℕ, Bool, false, List, [], ◌∷◌, Option, Some, None, option_map, slice_get}
use Rattle.base.specs.declared.range.Range.{Range}
use Rattle.es_token.specs.declared.token.Token.{Token}
use Rattle.es_grammar.specs.declared.rows.NodeKind.{NodeKind}
use Rattle.es_grammar.specs.declared.rows.NodeKind.TheVariants as l
use Rattle.es_ast.specs.declared.ast.ModuleDecl.{ModuleDecl}
use Rattle.es_ast.specs.declared.ast.ModuleDecl.TheVariants as vModuleDecl
use Rattle.es_ast.specs.declared.leaf.ImportClause.{ImportClause}
use Rattle.es_ast.specs.declared.leaf.ImportPhase.{ImportPhase}
use Rattle.es_ast.specs.declared.leaf.ImportPhase.TheVariants as vPhase
use Rattle.es_ast.specs.declared.ts.leaf.TsEntityName.{TsEntityName}
use Rattle.es_lowering.specs.Value.{Value, given, optional, first_of, behind, attributes_at}
use Rattle.es_lowering.specs.Texts.{span_of, ident_of, str_of, token_of}
use Rattle.es_lowering.specs.Modules.{equals_of, phase_clause}
use Rattle.es_ast.specs.declared.leaf.TsModuleRef.TheVariants as vRef
use Rattle.es_syntax.specs.declared.cursor.Siblings.{Siblings}
use Rattle.es_syntax.specs.Held.{held, valued}
use Rattle.es_syntax.specs.Roles.{clause_in, entity_in}
use Rattle.es_syntax.specs.Views.{Under, Within}
use Rattle.es_view_modules.specs.declared.items.import.Import.{Import}
use Rattle.es_view_modules.specs.declared.items.import.Import.TheVariants as view

-- the alternatives
abbrev pub imports : List NodeKind
imports =
    l.BareImport ∷ l.FromImport ∷ l.SourceImport ∷ l.DeferImport ∷ l.RequireImport ∷ l.ExportedRequireImport
    ∷ l.EntityImport ∷ l.ExportedEntityImport ∷ []

-- ---- each form, of what its parts are
unfoldable pub bare : List ℕ → Range → Option Token → Value → Option ModuleDecl
bare x r source attributes =
    given (option_map (str_of x) source) (λ src.
    given (optional attributes_at attributes) (λ with.
    Some (vModuleDecl.Import (record
    { type_only = false; phase = vPhase.Evaluation; clause = None; src = src; with = with; span = r }))))

unfoldable pub from_of : List ℕ → Range → Bool → Option ImportClause → Option Token → Value → Option ModuleDecl
from_of x r type_only clause source attributes =
    given clause (λ clause.
    given (option_map (str_of x) source) (λ src.
    given (optional attributes_at attributes) (λ with.
    Some (vModuleDecl.Import (record
    { type_only = type_only; phase = vPhase.Evaluation; clause = Some clause; src = src; with = with; span = r })))))

unfoldable pub phased : List ℕ → List Token → Range → ImportPhase → Value → Option Token → Value → Option ModuleDecl
phased x ts r phase name source attributes =
    given (option_map (ident_of x) (token_of ts name)) (λ local.
    given (option_map (str_of x) source) (λ src.
    given (optional attributes_at attributes) (λ with.
    Some (vModuleDecl.Import (record {
      type_only = false;
      phase = phase;
      clause = Some (phase_clause ts phase name local);
      src = src;
      with = with;
      span = r;
    })))))

unfoldable pub require : List ℕ → List Token → Range → Bool → Bool → Option Token → Value → Option ModuleDecl
require x ts r is_export type_only name source =
    given (option_map (ident_of x) name) (λ id.
    given (option_map (str_of x) (token_of ts source)) (λ src.
    Some (equals_of r is_export type_only id
    (vRef.TsExternalModuleRef src (span_of ts (first_of source - 2) (behind source + 1))))))

unfoldable pub aliased : List ℕ → Range → Bool → Bool → Option Token → Option TsEntityName → Option ModuleDecl
aliased x r is_export type_only name entity =
    given (option_map (ident_of x) name) (λ id.
    given entity (λ name. Some (equals_of r is_export type_only id (vRef.TsEntityName name))))

-- what a view tells
abbrev pub the_import : List ℕ → List Token → Range → Import → Option ModuleDecl
the_import x ts r (view.Bare source attributes) = bare x r (slice_get ts source) (held x ts attributes.entries.now)
the_import x ts r (view.From type_only clause source attributes) =
    from_of x r type_only (clause_in (valued x ts clause)) (slice_get ts source) (held x ts attributes.entries.now)
the_import x ts r (view.Phased phase name source attributes) =
    phased x ts r phase (valued x ts name) (slice_get ts source) (held x ts attributes.entries.now)
the_import x ts r (view.Require is_export type_only name source) =
    require x ts r is_export type_only (slice_get ts name) (valued x ts source)
the_import x ts r (view.Entity is_export type_only name entity) =
    aliased x r is_export type_only (slice_get ts name) (entity_in (valued x ts entity))
the_import x ts r view.Broken = None

-- the parts take fewer entries
abbrev pub IsBelow : Siblings → Import → Type 0
IsBelow n (view.Bare source attributes) = Within attributes n
IsBelow n (view.From type_only clause source attributes) = Under clause n × Within attributes n
IsBelow n (view.Phased phase name source attributes) = Under name n × Within attributes n
IsBelow n (view.Require is_export type_only name source) = Under source n
IsBelow n (view.Entity is_export type_only name entity) = Under entity n
IsBelow n view.Broken = Unit {0}
