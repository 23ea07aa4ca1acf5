-- What a view of a name with dots tells.
use Rattle.std.specs.Prelude.{ℕ, List, [], ◌∷◌, Option, Some, None, option_map, slice_get}
use Rattle.base.specs.declared.range.Range.{Range}
use Rattle.es_token.specs.declared.token.Token.{Token}
use Rattle.es_grammar.specs.declared.rows.NodeKind.{NodeKind}
use Rattle.es_grammar.specs.declared.rows.NodeKind.TheVariants as l
use Rattle.es_ast.specs.declared.ts.leaf.TsEntityName.{TsEntityName}
use Rattle.es_lowering.specs.Value.{Value, given, turns}
use Rattle.es_lowering.specs.Texts.{this_or_name_of, ident_at}
use Rattle.es_syntax.specs.declared.cursor.Siblings.{Siblings}
use Rattle.es_syntax.specs.Held.{held}
use Rattle.es_syntax.specs.Views.{Within}
use Rattle.es_view_types.specs.declared.names.entity.Entity.{Entity}
use Rattle.es_view_types.specs.declared.names.entity.Entity.TheVariants as view

-- the alternatives
abbrev pub entities : List NodeKind
entities = l.Entity ∷ l.EntityOfType ∷ []

-- ---- each form, of what its parts are
unfoldable pub names : List ℕ → List Token → Range → Option Token → Value → Option TsEntityName
names x ts r left rest =
    given (option_map (this_or_name_of x) left) (λ left.
    given (turns (λ turn. ident_at x ts turn 0) rest) (λ rest. Some (record { left = left; rest = rest; span = r })))

-- what a view tells
abbrev pub the_entity : List ℕ → List Token → Range → Entity → Option TsEntityName
the_entity x ts r (view.Names left rest) = names x ts r (slice_get ts left) (held x ts rest.entries.now)
the_entity x ts r view.Broken = None

-- the parts take fewer entries
abbrev pub IsBelow : Siblings → Entity → Type 0
IsBelow n (view.Names left rest) = Within rest n
IsBelow n view.Broken = Unit {0}
