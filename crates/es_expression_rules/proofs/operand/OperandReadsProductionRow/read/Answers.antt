use Rattle.std.proofs.Common.{refl, sym}
use Rattle.es_rules.specs.Steps.{keys_in}
use Rattle.es_expression_rules.proofs.Same.{read_behind}
use Rattle.es_expression_rules.proofs.Absent.{wrap_absent}
use Rattle.grammar_theory.specs.Productions.{wrap}
use Rattle.es_expression_rules.proofs.operand.OperandReadsProductionRow.read.Goals as goal

-- no turn stands there: the operand alone is read
pub returns-then-not-is_there : goal.returns-then-not-is_there
returns-then-not-is_there g c =
    wrap_absent c.args.grammar.now.input.keeps (keys_in c.args.grammar.now.input)
    (g.T.Rows.below c.args.grammar.now.rows c.args.grammar.now.input)
    c.args.cursor.now.at c.args.cursor.now.row c.read-operand.new.cursor c.read-operand.result c.args.self.now.0
    (g.A.ReadsProduction.rule c.args.self.now.1) (g.C.Tells.told c.args.self.now.2)
    (g.P.ReadsRhs.form c.args.self.now.3)
    (sym c.if-not-is_there.ensures) c.read-operand.ensures

-- turns are read behind it
pub returns : goal.returns
returns g c =
    read_behind c.args.grammar.now.input.keeps (keys_in c.args.grammar.now.input)
    (g.T.Rows.below c.args.grammar.now.rows c.args.grammar.now.input)
    c.here-from.result c.args.cursor.now.at c.args.cursor.now.row c.read-operand.new.cursor c.read.new.cursor
    c.read-operand.result c.read.result (g.A.ReadsProduction.rule c.args.self.now.1)
    (wrap c.args.self.now.0 (g.A.ReadsProduction.rule c.args.self.now.1) (g.C.Tells.told c.args.self.now.2)
    (g.P.ReadsRhs.form c.args.self.now.3))
    (wrap c.args.self.now.0 (g.A.ReadsProduction.rule c.args.self.now.1) (g.C.Tells.told c.args.self.now.2)
    (g.P.ReadsRhs.form c.args.self.now.3))
    c.here-from.ensures.token c.here-from.ensures.entry refl
    (c.read.ensures (g.A.ReadsProduction.rule c.args.self.now.1)) c.read-operand.ensures
