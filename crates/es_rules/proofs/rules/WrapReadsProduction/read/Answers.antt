use Rattle.std.proofs.Common.{length, sym}
use Rattle.std.proofs.lemmas.Result.{err_from_is_err_and}
use Rattle.grammar_theory.specs.Productions.{test}
use Rattle.grammar_theory.specs.Reader.{and_then}
use Rattle.es_rules.specs.Bounded.{form_at, rule_at, wraps_at}
use Rattle.es_rules.specs.Steps.{keys_in}
use Rattle.es_rules.proofs.FormLemmas.{read_refused}
use Rattle.es_rules.proofs.WrapLemmas.{behind_read, behind_refused}
use Rattle.es_rules.proofs.rules.WrapReadsProduction.read.Goals as goal

pub returns-in_err-first : goal.returns-in_err-first
returns-in_err-first g c =
    let p = err_from_is_err_and c.from_residual.result c.from_residual.ensures.1 in
    read_refused c.args.grammar.now.input.keeps (and_then
    (rule_at (keys_in c.args.grammar.now.input)
    (g.T.Rows.below c.args.grammar.now.rows c.args.grammar.now.input) (g.A.ReadsProduction.rule c.args.self.now.1)
    c.args.cursor.now.at)
    (λ q mid. wraps_at (keys_in c.args.grammar.now.input) c.args.self.now.0
    (test (g.C.Tells.told c.args.self.now.2))
    (form_at (keys_in c.args.grammar.now.input)
    (g.T.Rows.below c.args.grammar.now.rows c.args.grammar.now.input)
    (g.P.ReadsRhs.form c.args.self.now.3)) c.args.cursor.now.at
    (length (keys_in c.args.grammar.now.input)) q mid))
    c.args.cursor.now.row c.read.new.cursor c.from_residual.result p.0
    c.in_err-first.field-0.0
    p.1 p.2
    (behind_refused c.args.grammar.now.input.keeps (rule_at (keys_in c.args.grammar.now.input)
    (g.T.Rows.below c.args.grammar.now.rows c.args.grammar.now.input) (g.A.ReadsProduction.rule c.args.self.now.1)
    c.args.cursor.now.at)
    (λ q mid. wraps_at (keys_in c.args.grammar.now.input) c.args.self.now.0
    (test (g.C.Tells.told c.args.self.now.2))
    (form_at (keys_in c.args.grammar.now.input)
    (g.T.Rows.below c.args.grammar.now.rows c.args.grammar.now.input) (g.P.ReadsRhs.form c.args.self.now.3))
    c.args.cursor.now.at
    (length (keys_in c.args.grammar.now.input)) q mid)
    c.args.cursor.now.row c.read.new.cursor.row c.in_err-first.field-0.0
    c.in_err-first.ensures)

pub returns : goal.returns
returns g c =
    behind_read c.args.grammar.now.input.keeps (rule_at (keys_in c.args.grammar.now.input)
    (g.T.Rows.below c.args.grammar.now.rows c.args.grammar.now.input) (g.A.ReadsProduction.rule c.args.self.now.1)
    c.args.cursor.now.at)
    (λ q mid. wraps_at (keys_in c.args.grammar.now.input) c.args.self.now.0
    (test (g.C.Tells.told c.args.self.now.2))
    (form_at (keys_in c.args.grammar.now.input)
    (g.T.Rows.below c.args.grammar.now.rows c.args.grammar.now.input) (g.P.ReadsRhs.form c.args.self.now.3))
    c.args.cursor.now.at
    (length (keys_in c.args.grammar.now.input)) q mid)
    c.args.cursor.now.row c.read.new.cursor c.wraps.new.cursor c.in_ok-first.first
    c.wraps.result
    c.in_ok-first.ensures
    (rw (← c.here-from.ensures.token)
    (c.wraps.ensures c.args.cursor.now.row c.in_ok-first.ensures.0 (sym c.here-from.ensures.entry)
    c.in_ok-first.ensures.1))
