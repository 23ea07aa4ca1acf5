-- What programs, imports and exports become (ECMA-262, "Scripts and Modules"; the handbook of TypeScript, "Modules").
use Rattle.std.specs.Prelude.{ℕ, ◌+◌, ◌-◌, Bool, false, List, Option, Some, None, option_map}
use Rattle.base.specs.declared.range.Range.{Range}
use Rattle.es_token.specs.declared.token.Token.{Token}
use Rattle.es_ast.specs.declared.ts.leaf.Ident.{Ident}
use Rattle.es_ast.specs.declared.ts.leaf.Str.{Str}
use Rattle.es_ast.specs.declared.ts.leaf.TsEntityName.{TsEntityName}
use Rattle.es_ast.specs.declared.leaf.ImportNames.{ImportNames}
use Rattle.es_ast.specs.declared.leaf.ImportNames.TheVariants as vNames
use Rattle.es_ast.specs.declared.leaf.ImportClause.{ImportClause}
use Rattle.es_ast.specs.declared.leaf.ImportClause.TheVariants as vClause
use Rattle.es_ast.specs.declared.leaf.ImportPhase.{ImportPhase}
use Rattle.es_ast.specs.declared.leaf.ImportPhase.TheVariants as vPhase
use Rattle.es_ast.specs.declared.leaf.ImportSpecifier.{ImportSpecifier}
use Rattle.es_ast.specs.declared.leaf.ExportSpecifier.{ExportSpecifier}
use Rattle.es_ast.specs.declared.leaf.ImportAttribute.{ImportAttribute}
use Rattle.es_ast.specs.declared.leaf.ImportAttributes.{ImportAttributes}
use Rattle.es_ast.specs.declared.leaf.ModuleExportName.{ModuleExportName}
use Rattle.es_ast.specs.declared.leaf.TsModuleRef.{TsModuleRef}
use Rattle.es_ast.specs.declared.leaf.TsModuleRef.TheVariants as vRef
use Rattle.es_ast.specs.declared.ast.Program.{Program}
use Rattle.es_ast.specs.declared.ast.Program.TheVariants as vProgram
use Rattle.es_ast.specs.declared.ast.ModuleDecl.{ModuleDecl}
use Rattle.es_ast.specs.declared.ast.ModuleDecl.TheVariants as vModuleDecl
use Rattle.es_lowering.specs.Value.{Value, given, part, group, first_of, behind, optional, is_there, turns, expr_at, stmt_at, decl_at, item_at, clause_at, names_at, import_specifier_at, export_specifier_at, attributes_at, entity_at}
use Rattle.es_lowering.specs.Texts.{span_of, ident_at, str_at, name_at, this_or_name_at, shebang_at}

-- ---- attributes
abbrev pub attribute : List ℕ → List Token → Value → Option ImportAttribute
attribute x ts turn =
    given (name_at x ts (group turn 0) 0) (λ key.
    given (str_at x ts turn 1) (λ value.
    Some (record { key = key; value = value; span = span_of ts (first_of (part (group turn 0) 0)) (behind (part turn 1)) })))

unfoldable pub attributes : List ℕ → List Token → Range → Value → Option ImportAttributes
attributes x ts r p =
    option_map (λ items. record { items = items; span = r }) (turns (attribute x ts) (group p 0))

-- ---- what an import binds
unfoldable pub namespace : List ℕ → List Token → Range → Value → Option ImportNames
namespace x ts r p = option_map (λ local. vNames.Namespace local r) (ident_at x ts p 0)

unfoldable pub named_imports : Range → Value → Option ImportNames
named_imports r p =
    option_map (λ specifiers. vNames.Named specifiers r) (turns (λ turn. import_specifier_at turn 0) (group p 0))

unfoldable pub default_clause : List ℕ → List Token → Value → Option ImportClause
default_clause x ts p = option_map vClause.Default (ident_at x ts p 0)

unfoldable pub default_and_clause : List ℕ → List Token → Range → Value → Option ImportClause
default_and_clause x ts r p =
    given (ident_at x ts p 0) (λ default. given (names_at p 1) (λ names. Some (vClause.Both default names r)))

abbrev pub specifier_of : Range → Bool → Option ModuleExportName → Ident → ImportSpecifier
specifier_of r type_only imported local =
    record { type_only = type_only; imported = imported; local = local; span = r }

unfoldable pub renamed_import : List ℕ → List Token → Range → Value → Option ImportSpecifier
renamed_import x ts r p =
    given (name_at x ts (group p 1) 0) (λ imported.
    given (ident_at x ts p 2) (λ local. Some (specifier_of r (is_there (group p 0)) (Some imported) local)))

unfoldable pub imported_name : List ℕ → List Token → Range → Value → Option ImportSpecifier
imported_name x ts r p = option_map (specifier_of r (is_there (group p 0)) None) (ident_at x ts p 1)

-- ---- imports
unfoldable pub bare_import : List ℕ → List Token → Range → Value → Option ModuleDecl
bare_import x ts r p =
    given (str_at x ts p 0) (λ src.
    given (optional attributes_at (group p 1)) (λ with.
    Some (vModuleDecl.Import (record
    { type_only = false; phase = vPhase.Evaluation; clause = None; src = src; with = with; span = r }))))

unfoldable pub from_import : List ℕ → List Token → Range → Value → Option ModuleDecl
from_import x ts r p =
    given (clause_at p 1) (λ clause.
    given (str_at x ts p 2) (λ src.
    given (optional attributes_at (group p 3)) (λ with.
    Some (vModuleDecl.Import (record {
      type_only = is_there (group p 0);
      phase = vPhase.Evaluation;
      clause = Some clause;
      src = src;
      with = with;
      span = r;
    })))))

-- what an import in a phase binds: a deferred one a namespace, which spans from the `*`, two tokens before the name
abbrev pub phase_clause : List Token → ImportPhase → Value → Ident → ImportClause
phase_clause ts vPhase.Defer name local =
    vClause.Names (vNames.Namespace local (span_of ts (first_of name - 2) (behind name)))
phase_clause ts _ name local = vClause.Default local

-- a name, a string literal and attributes, behind the word of a phase
unfoldable pub phase_import : List ℕ → List Token → ImportPhase → Range → Value → Option ModuleDecl
phase_import x ts phase r p =
    given (ident_at x ts p 0) (λ local.
    given (str_at x ts p 1) (λ src.
    given (optional attributes_at (group p 2)) (λ with.
    Some (vModuleDecl.Import (record {
      type_only = false;
      phase = phase;
      clause = Some (phase_clause ts phase (part p 0) local);
      src = src;
      with = with;
      span = r;
    })))))

abbrev pub equals_of : Range → Bool → Bool → Ident → TsModuleRef → ModuleDecl
equals_of r is_export type_only id module_ref = vModuleDecl.TsImportEquals (record {
  is_export = is_export;
  type_only = type_only;
  id = id;
  module_ref = module_ref;
  span = r;
})

-- `require("a")` spans from `require`, two tokens before the literal, to the `)` behind it
unfoldable pub require_import : List ℕ → List Token → Bool → Range → Value → Option ModuleDecl
require_import x ts is_export r p =
    given (ident_at x ts p 1) (λ id.
    given (str_at x ts p 2) (λ src.
    Some (equals_of r is_export (is_there (group p 0)) id
    (vRef.TsExternalModuleRef src (span_of ts (first_of (part p 2) - 2) (behind (part p 2) + 1))))))

unfoldable pub entity_import : List ℕ → List Token → Bool → Range → Value → Option ModuleDecl
entity_import x ts is_export r p =
    given (ident_at x ts p 1) (λ id.
    given (entity_at p 2) (λ name. Some (equals_of r is_export (is_there (group p 0)) id (vRef.TsEntityName name))))

unfoldable pub entity : List ℕ → List Token → Range → Value → Option TsEntityName
entity x ts r p =
    given (this_or_name_at x ts p 0) (λ left.
    given (turns (λ turn. ident_at x ts turn 0) (group p 1)) (λ rest.
    Some (record { left = left; rest = rest; span = r })))

-- ---- exports
unfoldable pub export_all : List ℕ → List Token → Range → Value → Option ModuleDecl
export_all x ts r p =
    given (optional (λ g n. name_at x ts (group g n) 0) (group p 1)) (λ exported.
    given (str_at x ts p 2) (λ src.
    given (optional attributes_at (group p 3)) (λ with.
    Some (vModuleDecl.ExportAll (record {
      type_only = is_there (group p 0);
      exported = exported;
      src = src;
      with = with;
      span = r;
    })))))

-- behind `from`
abbrev pub source_with : List ℕ → List Token → Value → ℕ → Option (Str × Option ImportAttributes)
source_with x ts g n =
    given (str_at x ts g n) (λ src. given (optional attributes_at (group g (n + 1))) (λ with. Some (src, with)))

abbrev pub with_of : Option (Str × Option ImportAttributes) → Option ImportAttributes
with_of (Some source) = source.1
with_of None = None

unfoldable pub export_names : List ℕ → List Token → Range → Value → Option ModuleDecl
export_names x ts r p =
    given (turns (λ turn. export_specifier_at turn 0) (group p 1)) (λ specifiers.
    given (optional (source_with x ts) (group p 2)) (λ source.
    Some (vModuleDecl.ExportNamed (record {
      type_only = is_there (group p 0);
      specifiers = specifiers;
      src = option_map (λ source. source.0) source;
      with = with_of source;
      span = r;
    }))))

unfoldable pub exported_name : List ℕ → List Token → Range → Value → Option ExportSpecifier
exported_name x ts r p =
    given (name_at x ts (group p 1) 0) (λ orig.
    given (optional (λ g n. name_at x ts (group g n) 0) (group p 2)) (λ exported.
    Some (record { type_only = is_there (group p 0); orig = orig; exported = exported; span = r })))

unfoldable pub export_namespace : List ℕ → List Token → Range → Value → Option ModuleDecl
export_namespace x ts r p =
    option_map (λ id. vModuleDecl.TsNamespaceExport (record { id = id; span = r })) (ident_at x ts p 0)

unfoldable pub export_default_decl : Range → Value → Option ModuleDecl
export_default_decl r p = option_map (λ decl. vModuleDecl.ExportDefaultDecl decl r) (decl_at p 0)

unfoldable pub export_default_expression : Range → Value → Option ModuleDecl
export_default_expression r p = option_map (λ expr. vModuleDecl.ExportDefaultExpr expr r) (expr_at p 0)

unfoldable pub export_declaration : Range → Value → Option ModuleDecl
export_declaration r p = option_map (λ decl. vModuleDecl.ExportDecl decl r) (decl_at p 0)

-- ---- programs
unfoldable pub module_ : List ℕ → List Token → Range → Value → Option Program
module_ x ts r p =
    given (optional (shebang_at x ts) (group p 0)) (λ shebang.
    given (turns (λ turn. item_at turn 0) (group p 1)) (λ body.
    Some (vProgram.Module (record { shebang = shebang; body = body; span = r }))))

unfoldable pub script : List ℕ → List Token → Range → Value → Option Program
script x ts r p =
    given (optional (shebang_at x ts) (group p 0)) (λ shebang.
    given (turns (λ turn. stmt_at turn 0) (group p 1)) (λ body.
    Some (vProgram.Script (record { shebang = shebang; body = body; span = r }))))
