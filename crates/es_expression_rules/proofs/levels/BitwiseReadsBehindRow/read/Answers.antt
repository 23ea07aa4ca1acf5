use Rattle.std.proofs.Common.{sym}
use Rattle.es_rules.specs.Steps.{keys_in}
use Rattle.es_expression_rules.proofs.Absent.{bitwise_absent}
use Rattle.es_expression_rules.proofs.levels.BitwiseReadsBehindRow.read.Goals as goal

-- no operator of these levels stands here
pub returns-then-not-opens_bitwise : goal.returns-then-not-opens_bitwise
returns-then-not-opens_bitwise g c =
    λ a base there read. bitwise_absent c.args.grammar.now.input.keeps (keys_in c.args.grammar.now.input)
    (g.T.Rows.below c.args.grammar.now.rows c.args.grammar.now.input)
    c.args.from.token base c.args.cursor.now c.args.operand c.args.self.now.0 a (sym c.if-not-opens_bitwise.ensures)
    read
