use Rattle.std.proofs.lemmas.Result.{err_from_is_err_and}
use Rattle.es_rules.specs.Bounded.{form_at}
use Rattle.es_rules.specs.Steps.{keys_in}
use Rattle.grammar_theory.specs.Productions.{punct}
use Rattle.es_rules.proofs.FormLemmas.{refused, adds_punct, no_punct}
use Rattle.es_syntax.proofs.Forests.{keeps_all}
use Rattle.es_rules.proofs.forms.PunctReadsRhs.read.Goals as goal

pub returns-in_err-expect : goal.returns-in_err-expect
returns-in_err-expect g c =
    let p = err_from_is_err_and c.from_residual.result c.from_residual.ensures.1 in
    refused c.args.grammar.now.input.keeps (form_at (keys_in c.args.grammar.now.input)
    (g.T.Rows.below c.args.grammar.now.rows c.args.grammar.now.input)
    (punct c.args.self.now.0 (g.N.ReadsRhs.form c.args.self.now.1)) c.args.cursor.now.at) c.args.cursor.now.row
    c.expect.new.cursor c.from_residual.result p.0 c.in_err-expect.field-0.0 p.1 p.2 (
      rw c.expect.ensures.row (keeps_all c.args.cursor.now.row),
      λ memory. no_punct c.args.grammar.now.input.keeps (keys_in c.args.grammar.now.input)
          (g.T.Rows.below c.args.grammar.now.rows c.args.grammar.now.input) (g.N.ReadsRhs.form c.args.self.now.1)
          c.args.cursor.now.at c.args.self.now.0
          c.in_err-expect.ensures.other,
    )

pub returns : goal.returns
returns g c =
    adds_punct c.args.grammar.now.input.keeps (keys_in c.args.grammar.now.input)
    (g.T.Rows.below c.args.grammar.now.rows c.args.grammar.now.input) (g.N.ReadsRhs.form c.args.self.now.1)
    c.args.cursor.now.at c.args.cursor.now.row c.read.new.cursor c.read.result c.args.self.now.0
    c.expect.new.cursor.row c.in_ok-expect.ensures.seen c.expect.ensures.row
    (rw (← c.in_ok-expect.ensures.taken) c.read.ensures)
