use Rattle.std.proofs.Common.{sym}
use Rattle.es_rules.specs.Steps.{keys_in}
use Rattle.es_expression_rules.proofs.Absent.{comparing_absent}
use Rattle.es_expression_rules.proofs.levels.ComparingReadsBehindRow.read.Goals as goal

-- no operator of these levels stands here, and no private name first
pub returns-then-not-sees : goal.returns-then-not-sees
returns-then-not-sees g c =
    λ a base there read. comparing_absent c.args.grammar.now.input.keeps (keys_in c.args.grammar.now.input)
    (g.T.Rows.below c.args.grammar.now.rows c.args.grammar.now.input)
    c.args.from.token base c.args.cursor.now c.args.operand c.args.self.now.0 c.args.self.now.1 a
    (sym c.if-not-opens_comparing.ensures) (sym c.if-not-sees.ensures) read
