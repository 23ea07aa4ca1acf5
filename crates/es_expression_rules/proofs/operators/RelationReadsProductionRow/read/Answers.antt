use Rattle.es_rules.specs.Steps.{keys_in}
use Rattle.es_grammar.specs.Expressions.{power, relation}
use Rattle.es_expression_rules.specs.Levels.{arithmetic_over, shift_over, relation_over, behind_types}
use Rattle.es_expression_rules.proofs.Same.{relation_same, read_behind}
use Rattle.es_expression_rules.proofs.operators.RelationReadsProductionRow.read.Goals as goal

pub returns : goal.returns
returns g c =
    read_behind c.args.grammar.now.input.keeps (keys_in c.args.grammar.now.input)
    (g.T.Rows.below c.args.grammar.now.rows c.args.grammar.now.input)
    c.here-from.result c.args.cursor.now.at c.args.cursor.now.row c.read-operand.new.cursor c.read.new.cursor
    c.read-operand.result c.read.result (power c.args.self.now.0 c.args.self.now.1)
    (behind_types c.args.self.now.0 c.args.self.now.1
    (relation_over c.args.self.now.0 c.args.self.now.1
    (shift_over c.args.self.now.0 c.args.self.now.1
    (arithmetic_over c.args.self.now.1 (power c.args.self.now.0 c.args.self.now.1)))))
    (relation c.args.self.now.0 c.args.self.now.1) c.here-from.ensures.token c.here-from.ensures.entry
    (relation_same c.args.self.now.0 c.args.self.now.1)
    (c.read.ensures (power c.args.self.now.0 c.args.self.now.1)) c.read-operand.ensures
