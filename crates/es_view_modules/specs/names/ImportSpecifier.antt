-- What a view of a name in the braces of an import tells.
use Rattle.std.specs.Prelude.{ℕ, Bool, List, [], ◌∷◌, Option, Some, None, option_map, slice_get}
use Rattle.base.specs.declared.range.Range.{Range}
use Rattle.es_token.specs.declared.token.Token.{Token}
use Rattle.es_grammar.specs.declared.rows.NodeKind.{NodeKind}
use Rattle.es_grammar.specs.declared.rows.NodeKind.TheVariants as l
use Rattle.es_ast.specs.declared.leaf.ImportSpecifier.{ImportSpecifier}
use Rattle.es_lowering.specs.Value.{given}
use Rattle.es_lowering.specs.Texts.{ident_of, name_of}
use Rattle.es_lowering.specs.Modules.{specifier_of}
use Rattle.es_syntax.specs.declared.cursor.Siblings.{Siblings}
use Rattle.es_view_modules.specs.declared.names.import_specifier.ImportName.{ImportName}
use Rattle.es_view_modules.specs.declared.names.import_specifier.ImportName.TheVariants as view

-- the alternatives
abbrev pub import_specifiers : List NodeKind
import_specifiers = l.RenamedImport ∷ l.ImportedName ∷ []

-- ---- each form, of what its parts are
unfoldable pub renamed : List ℕ → Range → Bool → Option Token → Option Token → Option ImportSpecifier
renamed x r type_only imported local =
    given (option_map (name_of x) imported) (λ imported.
    given (option_map (ident_of x) local) (λ local. Some (specifier_of r type_only (Some imported) local)))

unfoldable pub same : List ℕ → Range → Bool → Option Token → Option ImportSpecifier
same x r type_only local = option_map (specifier_of r type_only None) (option_map (ident_of x) local)

-- what a view tells
abbrev pub the_import_specifier : List ℕ → List Token → Range → ImportName → Option ImportSpecifier
the_import_specifier x ts r (view.Renamed type_only imported local) =
    renamed x r type_only (slice_get ts imported) (slice_get ts local)
the_import_specifier x ts r (view.Same type_only local) = same x r type_only (slice_get ts local)
the_import_specifier x ts r view.Broken = None

-- the parts take fewer entries
abbrev pub IsBelow : Siblings → ImportName → Type 0
IsBelow n (view.Renamed type_only imported local) = Unit {0}
IsBelow n (view.Same type_only local) = Unit {0}
IsBelow n view.Broken = Unit {0}
