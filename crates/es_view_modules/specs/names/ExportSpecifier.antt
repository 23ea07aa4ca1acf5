-- What a view of a name in the braces of an export tells.
use Rattle.std.specs.Prelude.{ℕ, Bool, List, [], ◌∷◌, Option, Some, None, option_map, slice_get}
use Rattle.base.specs.declared.range.Range.{Range}
use Rattle.es_token.specs.declared.token.Token.{Token}
use Rattle.es_grammar.specs.declared.rows.NodeKind.{NodeKind}
use Rattle.es_grammar.specs.declared.rows.NodeKind.TheVariants as l
use Rattle.es_ast.specs.declared.leaf.ExportSpecifier.{ExportSpecifier}
use Rattle.es_lowering.specs.Value.{Value, given, group, optional}
use Rattle.es_lowering.specs.Texts.{name_of, name_at}
use Rattle.es_syntax.specs.declared.cursor.Siblings.{Siblings}
use Rattle.es_syntax.specs.Held.{held}
use Rattle.es_syntax.specs.Views.{Within}
use Rattle.es_view_modules.specs.declared.names.export_specifier.ExportName.{ExportName}
use Rattle.es_view_modules.specs.declared.names.export_specifier.ExportName.TheVariants as view

-- the alternatives
abbrev pub export_specifiers : List NodeKind
export_specifiers = l.ExportedName ∷ []

-- ---- each form, of what its parts are
unfoldable pub exported_as : List ℕ → List Token → Range → Bool → Option Token → Value → Option ExportSpecifier
exported_as x ts r type_only orig exported =
    given (option_map (name_of x) orig) (λ orig.
    given (optional (λ g n. name_at x ts (group g n) 0) exported) (λ exported.
    Some (record { type_only = type_only; orig = orig; exported = exported; span = r })))

-- what a view tells
abbrev pub the_export_specifier : List ℕ → List Token → Range → ExportName → Option ExportSpecifier
the_export_specifier x ts r (view.Exported type_only orig exported) =
    exported_as x ts r type_only (slice_get ts orig) (held x ts exported.entries.now)
the_export_specifier x ts r view.Broken = None

-- the parts take fewer entries
abbrev pub IsBelow : Siblings → ExportName → Type 0
IsBelow n (view.Exported type_only orig exported) = Within exported n
IsBelow n view.Broken = Unit {0}
