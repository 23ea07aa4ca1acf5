-- What a view of names that an import binds tells.
use Rattle.std.specs.Prelude.{ℕ, List, [], ◌∷◌, Option, None, option_map, slice_get}
use Rattle.base.specs.declared.range.Range.{Range}
use Rattle.es_token.specs.declared.token.Token.{Token}
use Rattle.es_grammar.specs.declared.rows.NodeKind.{NodeKind}
use Rattle.es_grammar.specs.declared.rows.NodeKind.TheVariants as l
use Rattle.es_ast.specs.declared.leaf.ImportNames.{ImportNames}
use Rattle.es_ast.specs.declared.leaf.ImportNames.TheVariants as vNames
use Rattle.es_lowering.specs.Value.{Value, turns, import_specifier_at}
use Rattle.es_lowering.specs.Texts.{ident_of}
use Rattle.es_syntax.specs.declared.cursor.Siblings.{Siblings}
use Rattle.es_syntax.specs.Held.{held}
use Rattle.es_syntax.specs.Views.{Within}
use Rattle.es_view_modules.specs.declared.names.names.Names.{Names}
use Rattle.es_view_modules.specs.declared.names.names.Names.TheVariants as view

-- the alternatives
abbrev pub name_labels : List NodeKind
name_labels = l.Namespace ∷ l.NamedImports ∷ []

-- ---- each form, of what its parts are
unfoldable pub namespace : List ℕ → Range → Option Token → Option ImportNames
namespace x r local = option_map (λ local. vNames.Namespace local r) (option_map (ident_of x) local)

unfoldable pub named : Range → Value → Option ImportNames
named r specifiers =
    option_map (λ specifiers. vNames.Named specifiers r) (turns (λ turn. import_specifier_at turn 0) specifiers)

-- what a view tells
abbrev pub the_names : List ℕ → List Token → Range → Names → Option ImportNames
the_names x ts r (view.Namespace local) = namespace x r (slice_get ts local)
the_names x ts r (view.Named specifiers) = named r (held x ts specifiers.entries.now)
the_names x ts r view.Broken = None

-- the parts take fewer entries
abbrev pub IsBelow : Siblings → Names → Type 0
IsBelow n (view.Namespace local) = Unit {0}
IsBelow n (view.Named specifiers) = Within specifiers n
IsBelow n view.Broken = Unit {0}
