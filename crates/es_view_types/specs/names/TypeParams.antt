-- What a view of type parameters tells.
use Rattle.std.specs.Prelude.{ℕ, List, [], ◌∷◌, Option, Some, None}
use Rattle.base.specs.declared.range.Range.{Range}
use Rattle.es_token.specs.declared.token.Token.{Token}
use Rattle.es_grammar.specs.declared.rows.NodeKind.{NodeKind}
use Rattle.es_grammar.specs.declared.rows.NodeKind.TheVariants as l
use Rattle.es_ast.specs.declared.ts.ts.Nodes.{Nodes}
use Rattle.es_ast.specs.declared.ts.ts.TsTypeParam.{TsTypeParam}
use Rattle.es_lowering.specs.Value.{Value, given, turns}
use Rattle.es_lowering.specs.TypeNames.{type_param}
use Rattle.es_syntax.specs.declared.cursor.Siblings.{Siblings}
use Rattle.es_syntax.specs.Held.{held}
use Rattle.es_syntax.specs.Views.{Within}
use Rattle.es_view_types.specs.declared.names.type_params.TypeParams.{TypeParams}
use Rattle.es_view_types.specs.declared.names.type_params.TypeParams.TheVariants as view

-- the alternatives
abbrev pub type_param_labels : List NodeKind
type_param_labels = l.TypeParameters ∷ []

-- ---- each form, of what its parts are
unfoldable pub type_params : List ℕ → List Token → Range → Value → Value → Option (Nodes TsTypeParam)
type_params x ts r first others =
    given (type_param x ts first) (λ first.
    given (turns (type_param x ts) others) (λ rest. Some (record { items = first ∷ rest; span = r })))

-- what a view tells
abbrev pub the_type_params : List ℕ → List Token → Range → TypeParams → Option (Nodes TsTypeParam)
the_type_params x ts r (view.Params first others) =
    type_params x ts r (held x ts first.entries.now) (held x ts others.entries.now)
the_type_params x ts r view.Broken = None

-- the parts take fewer entries
abbrev pub IsBelow : Siblings → TypeParams → Type 0
IsBelow n (view.Params first others) = Within first n × Within others n
IsBelow n view.Broken = Unit {0}
