use Rattle.std.proofs.Common.{refl}
use Rattle.es_rules.specs.Steps.{keys_in}
use Rattle.es_grammar.specs.Expressions.{private_in}
use Rattle.es_expression_rules.specs.Levels.{related}
use Rattle.es_expression_rules.proofs.Same.{read_behind}
use Rattle.es_expression_rules.proofs.levels.PrivateComparedReadsProductionRow.read.Goals as goal

pub returns : goal.returns
returns g c =
    read_behind c.args.grammar.now.input.keeps (keys_in c.args.grammar.now.input)
    (g.T.Rows.below c.args.grammar.now.rows c.args.grammar.now.input)
    c.here-from.result c.args.cursor.now.at c.args.cursor.now.row c.read-operand.new.cursor c.read.new.cursor
    c.read-operand.result c.read.result (private_in c.args.self.now.1)
    (related c.args.self.now.0 c.args.self.now.1 (private_in c.args.self.now.1))
    (related c.args.self.now.0 c.args.self.now.1 (private_in c.args.self.now.1))
    c.here-from.ensures.token c.here-from.ensures.entry refl (c.read.ensures (private_in c.args.self.now.1))
    c.read-operand.ensures
