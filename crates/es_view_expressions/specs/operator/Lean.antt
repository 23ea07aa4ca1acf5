-- What a chain of operators tells, and a turn of it.
use Rattle.std.specs.Prelude.{◌≡◌, ℕ, List, Option, None}
use Rattle.base.specs.declared.range.Range.{Range}
use Rattle.es_token.specs.declared.token.Token.{Token}
use Rattle.es_ast.specs.declared.ast.Expr.{Expr}
use Rattle.es_lowering.specs.Value.{Value, nil, first_of, behind}
use Rattle.es_syntax.specs.declared.entry.What.{What}
use Rattle.es_syntax.specs.declared.entry.What.TheVariants as vWhat
use Rattle.es_syntax.specs.declared.cursor.Siblings.{Siblings}
use Rattle.es_syntax.specs.declared.cursor.Item.{Item}
use Rattle.es_syntax.specs.Held.{held, valued, parts_of, leaning, leaned}
use Rattle.es_syntax.specs.Roles.{expr_in}
use Rattle.es_syntax.specs.Views.{Under, Within}
use Rattle.es_view_expressions.specs.operator.Operator.{joined, turned}
use Rattle.es_view_expressions.specs.declared.operator.lean.Chain.{Chain}
use Rattle.es_view_expressions.specs.declared.operator.lean.Turn.{Turn}
use Rattle.es_view_expressions.specs.declared.operator.lean.Turn.TheVariants as view

-- the nodes that lean left over the first operand and the turns
abbrev pub the_chain : List ℕ → List Token → Chain → Value
the_chain x ts c =
    leaned x ts c.lean c.from (leaning x ts c.lean c.from (valued x ts c.first) (c.turn.to, valued x ts c.turn))
    (parts_of x ts c.others.entries.now)

-- behind this operand
abbrev pub the_turn : List ℕ → List Token → Range → Value → Turn → Option Expr
the_turn x ts r v (view.Operand right) =
    joined ts r (behind v) (first_of (valued x ts right)) (expr_in v) (expr_in (valued x ts right))
the_turn x ts r v (view.Typed turn) = turned ts r (behind v) (expr_in v) (held x ts turn.entries.now)
the_turn x ts r v view.Broken = None

-- one that leans left with fewer than two operands is nothing
abbrev pub NoChainBy : Value → What → Type 0
NoChainBy v (vWhat.Lean lean) = v ≡ nil
NoChainBy v _ = Unit {0}

abbrev pub IsNoChain : List ℕ → List Token → Item → Type 0
IsNoChain x ts i = NoChainBy (valued x ts i) i.what

-- the parts take fewer entries
abbrev pub IsChainBelow : Siblings → Chain → Type 0
IsChainBelow n c = Under c.first n × Under c.turn n × Within c.others n

abbrev pub IsTurnBelow : Siblings → Turn → Type 0
IsTurnBelow n (view.Operand right) = Under right n
IsTurnBelow n (view.Typed turn) = Within turn n
IsTurnBelow n view.Broken = Unit {0}
