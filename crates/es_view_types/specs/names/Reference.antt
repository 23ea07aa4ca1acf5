-- What a view of a name of a type tells.
use Rattle.std.specs.Prelude.{ℕ, List, [], ◌∷◌, Option, Some, None, option_map}
use Rattle.base.specs.declared.range.Range.{Range}
use Rattle.es_token.specs.declared.token.Token.{Token}
use Rattle.es_grammar.specs.declared.rows.NodeKind.{NodeKind}
use Rattle.es_grammar.specs.declared.rows.NodeKind.TheVariants as l
use Rattle.es_ast.specs.declared.ts.leaf.TsEntityName.{TsEntityName}
use Rattle.es_ast.specs.declared.ts.ts.Nodes.{Nodes}
use Rattle.es_ast.specs.declared.ts.ts.TsType.{TsType}
use Rattle.es_lowering.specs.Value.{given}
use Rattle.es_lowering.specs.Modules.{entity}
use Rattle.es_syntax.specs.declared.cursor.Siblings.{Siblings}
use Rattle.es_syntax.specs.Held.{held, valued}
use Rattle.es_syntax.specs.Roles.{arguments_in, entity_in}
use Rattle.es_syntax.specs.Views.{Under, Within}
use Rattle.es_view_types.specs.declared.names.reference.Reference.{Reference}
use Rattle.es_view_types.specs.declared.names.reference.Reference.TheVariants as view

-- the alternatives
abbrev pub references : List NodeKind
references = l.Reference ∷ l.EntityOfType ∷ []

-- ---- each form, of what its parts are
abbrev pub AReference : Type 0
AReference = TsEntityName × Option (Nodes TsType)

unfoldable pub named : Option TsEntityName → Option (Nodes TsType) → Option AReference
named name arguments = given name (λ name. given arguments (λ arguments. Some (name, Some arguments)))

-- what a view tells
abbrev pub the_reference : List ℕ → List Token → Range → Reference → Option AReference
the_reference x ts r (view.Named name arguments) =
    named (entity_in (valued x ts name)) (arguments_in (valued x ts arguments))
the_reference x ts r (view.Entity parts) =
    option_map (λ name. (name, None)) (entity x ts r (held x ts parts.entries.now))
the_reference x ts r view.Broken = None

-- the parts take fewer entries
abbrev pub IsBelow : Siblings → Reference → Type 0
IsBelow n (view.Named name arguments) = Under name n × Under arguments n
IsBelow n (view.Entity parts) = Within parts n
IsBelow n view.Broken = Unit {0}
