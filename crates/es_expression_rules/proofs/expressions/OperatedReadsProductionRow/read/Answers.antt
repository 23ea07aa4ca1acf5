use Rattle.es_token.specs.declared.token.TokenKind.TheVariants as k
use Rattle.grammar_theory.specs.Key.{seen, is}
use Rattle.es_rules.specs.Steps.{keys_in}
use Rattle.std.proofs.Common.{refl, sym, ap, ◌∙◌}
use Rattle.es_grammar.specs.Expressions.{power, conditional}
use Rattle.es_expression_rules.specs.Levels.{assignment_over, operators_over}
use Rattle.es_expression_rules.proofs.Absent.{operators_absent}
use Rattle.es_expression_rules.proofs.Same.{conditional_same, read_as, read_behind}
use Rattle.es_expression_rules.proofs.expressions.OperatedReadsProductionRow.read.Goals as goal

-- no operator stands here: the operand alone is read
pub returns-then-not-sees : goal.returns-then-not-sees
returns-then-not-sees g c =
    read_as c.args.grammar.now.input.keeps (keys_in c.args.grammar.now.input)
    (g.T.Rows.below c.args.grammar.now.rows c.args.grammar.now.input)
    c.args.cursor.now.at c.args.cursor.now.at c.args.cursor.now.row c.args.cursor.now.row c.read-operand.new.cursor
    c.read-operand.result
    (operators_over c.args.self.now.0 c.args.self.now.1 (power c.args.self.now.0 c.args.self.now.1))
    (assignment_over c.args.self.now.1 (conditional c.args.self.now.0 c.args.self.now.1))
    refl refl (conditional_same c.args.self.now.0 c.args.self.now.1)
    (operators_absent c.args.grammar.now.input.keeps (keys_in c.args.grammar.now.input)
    (g.T.Rows.below c.args.grammar.now.rows c.args.grammar.now.input)
    c.args.cursor.now.at c.args.cursor.now.row c.read-operand.new.cursor c.read-operand.result c.args.self.now.0
    c.args.self.now.1 (power c.args.self.now.0 c.args.self.now.1) (sym c.if-not-opens_operator.ensures)
    (ap (λ at. is k.PrivateName (seen (keys_in c.args.grammar.now.input) at))
    (sym c.here-from.ensures.token) ∙ sym c.if-not-sees.ensures) c.read-operand.ensures)

-- all levels are read behind it
pub returns : goal.returns
returns g c =
    read_behind c.args.grammar.now.input.keeps (keys_in c.args.grammar.now.input)
    (g.T.Rows.below c.args.grammar.now.rows c.args.grammar.now.input)
    c.here-from.result c.args.cursor.now.at c.args.cursor.now.row c.read-operand.new.cursor c.read.new.cursor
    c.read-operand.result c.read.result (power c.args.self.now.0 c.args.self.now.1)
    (operators_over c.args.self.now.0 c.args.self.now.1 (power c.args.self.now.0 c.args.self.now.1))
    (assignment_over c.args.self.now.1 (conditional c.args.self.now.0 c.args.self.now.1))
    c.here-from.ensures.token c.here-from.ensures.entry (conditional_same c.args.self.now.0 c.args.self.now.1)
    (c.read.ensures (power c.args.self.now.0 c.args.self.now.1)) c.read-operand.ensures
