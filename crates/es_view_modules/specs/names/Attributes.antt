-- What a view of import attributes tells.
use Rattle.std.specs.Prelude.{ℕ, List, [], ◌∷◌, Option, None, option_map}
use Rattle.base.specs.declared.range.Range.{Range}
use Rattle.es_token.specs.declared.token.Token.{Token}
use Rattle.es_grammar.specs.declared.rows.NodeKind.{NodeKind}
use Rattle.es_grammar.specs.declared.rows.NodeKind.TheVariants as l
use Rattle.es_ast.specs.declared.leaf.ImportAttributes.{ImportAttributes}
use Rattle.es_lowering.specs.Value.{Value, turns}
use Rattle.es_lowering.specs.Modules.{attribute}
use Rattle.es_syntax.specs.declared.cursor.Siblings.{Siblings}
use Rattle.es_syntax.specs.Held.{held}
use Rattle.es_syntax.specs.Views.{Within}
use Rattle.es_view_modules.specs.declared.names.attributes.Attributes.{Attributes}
use Rattle.es_view_modules.specs.declared.names.attributes.Attributes.TheVariants as view

-- the alternatives
abbrev pub attribute_labels : List NodeKind
attribute_labels = l.Attributes ∷ []

-- ---- each form, of what its parts are
unfoldable pub attributes : List ℕ → List Token → Range → Value → Option ImportAttributes
attributes x ts r items = option_map (λ items. record { items = items; span = r }) (turns (attribute x ts) items)

-- what a view tells
abbrev pub the_attributes : List ℕ → List Token → Range → Attributes → Option ImportAttributes
the_attributes x ts r (view.Attributes items) = attributes x ts r (held x ts items.entries.now)
the_attributes x ts r view.Broken = None

-- the parts take fewer entries
abbrev pub IsBelow : Siblings → Attributes → Type 0
IsBelow n (view.Attributes items) = Within items n
IsBelow n view.Broken = Unit {0}
