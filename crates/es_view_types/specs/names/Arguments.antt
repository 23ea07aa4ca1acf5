-- What a view of type arguments tells.
use Rattle.std.specs.Prelude.{ℕ, List, [], ◌∷◌, Option, Some, None, option_map}
use Rattle.base.specs.declared.range.Range.{Range}
use Rattle.es_token.specs.declared.token.Token.{Token}
use Rattle.es_grammar.specs.declared.rows.NodeKind.{NodeKind}
use Rattle.es_grammar.specs.declared.rows.NodeKind.TheVariants as l
use Rattle.es_ast.specs.declared.ts.ts.Nodes.{Nodes}
use Rattle.es_ast.specs.declared.ts.ts.TsType.{TsType}
use Rattle.es_lowering.specs.Value.{Value, given, turns, type_at}
use Rattle.es_syntax.specs.declared.cursor.Siblings.{Siblings}
use Rattle.es_syntax.specs.Held.{held, valued}
use Rattle.es_syntax.specs.Roles.{ts_type_in}
use Rattle.es_syntax.specs.Views.{Under, Within}
use Rattle.es_view_types.specs.declared.names.arguments.TypeArguments.{TypeArguments}
use Rattle.es_view_types.specs.declared.names.arguments.TypeArguments.TheVariants as view

-- the alternatives
abbrev pub argument_labels : List NodeKind
argument_labels = l.TypeArguments ∷ []

-- ---- each form, of what its parts are
unfoldable pub arguments : Range → Option TsType → Value → Option (Nodes TsType)
arguments r first others =
    option_map (λ types. record { items = types; span = r }) (given first (λ first.
    given (turns (λ turn. type_at turn 0) others) (λ rest. Some (first ∷ rest))))

-- what a view tells
abbrev pub the_arguments : List ℕ → List Token → Range → TypeArguments → Option (Nodes TsType)
the_arguments x ts r (view.Arguments first others) =
    arguments r (ts_type_in (valued x ts first)) (held x ts others.entries.now)
the_arguments x ts r view.Broken = None

-- the parts take fewer entries
abbrev pub IsBelow : Siblings → TypeArguments → Type 0
IsBelow n (view.Arguments first others) = Under first n × Within others n
IsBelow n view.Broken = Unit {0}
