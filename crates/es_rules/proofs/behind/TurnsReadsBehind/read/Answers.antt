use Rattle.std.proofs.Common.{length}
use Rattle.grammar_theory.specs.Productions.{test}
use Rattle.es_rules.specs.Bounded.{form_at, rule_at, wraps_at}
use Rattle.es_rules.specs.Steps.{keys_in}
use Rattle.es_rules.proofs.WrapLemmas.{behind_by}
use Rattle.es_rules.proofs.behind.TurnsReadsBehind.read.Goals as goal

pub returns : goal.returns
returns g c =
    λ a base place operand.
    behind_by c.args.grammar.now.input.keeps (rule_at (keys_in c.args.grammar.now.input)
    (g.T.Rows.below c.args.grammar.now.rows c.args.grammar.now.input) a c.args.from.token)
    (λ q mid. wraps_at (keys_in c.args.grammar.now.input) c.args.self.now.0
    (test (g.C.Tells.told c.args.self.now.1))
    (form_at (keys_in c.args.grammar.now.input)
    (g.T.Rows.below c.args.grammar.now.rows c.args.grammar.now.input) (g.P.ReadsRhs.form c.args.self.now.2))
    c.args.from.token
    (length (keys_in c.args.grammar.now.input)) q mid) base
    c.args.cursor.now c.wraps.new.cursor c.in_ok-first.first c.wraps.result
    c.args.operand c.in_ok-first.was operand (λ t written. c.wraps.ensures base t place written)
