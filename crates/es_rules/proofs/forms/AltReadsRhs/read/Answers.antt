use Rattle.std.proofs.lemmas.Result.{err_from_is_err_and}
use Rattle.es_rules.specs.Bounded.{form_at}
use Rattle.es_rules.specs.Steps.{keys_in}
use Rattle.grammar_theory.specs.Productions.{alt}
use Rattle.es_rules.proofs.FormLemmas.{refused, adds_alt, no_alt}
use Rattle.es_rules.proofs.forms.AltReadsRhs.read.Goals as goal

pub returns-in_err-part : goal.returns-in_err-part
returns-in_err-part g c =
    let p = err_from_is_err_and c.from_residual.result c.from_residual.ensures.1 in
    refused c.args.grammar.now.input.keeps (form_at (keys_in c.args.grammar.now.input)
    (g.T.Rows.below c.args.grammar.now.rows c.args.grammar.now.input)
    (alt (g.S.Sees.look c.args.self.now.0) (g.A.ReadsRhs.form c.args.self.now.1)
    (g.B.ReadsRhs.form c.args.self.now.2) (g.N.ReadsRhs.form c.args.self.now.3))
    c.args.cursor.now.at) c.args.cursor.now.row
    c.alternative.new.cursor c.from_residual.result p.0 c.in_err-part.field-0.0 p.1 p.2 (
      c.in_err-part.ensures.0,
      λ memory. no_alt c.args.grammar.now.input.keeps (keys_in c.args.grammar.now.input)
          (g.T.Rows.below c.args.grammar.now.rows c.args.grammar.now.input) (g.N.ReadsRhs.form c.args.self.now.3)
          c.args.cursor.now.at
          (g.S.Sees.look c.args.self.now.0) (g.A.ReadsRhs.form c.args.self.now.1)
          (g.B.ReadsRhs.form c.args.self.now.2) (c.in_err-part.ensures.1 memory),
    )

pub returns : goal.returns
returns g c =
    rw c.higher.ensures
    (adds_alt c.args.grammar.now.input.keeps (keys_in c.args.grammar.now.input)
    (g.T.Rows.below c.args.grammar.now.rows c.args.grammar.now.input) (g.N.ReadsRhs.form c.args.self.now.3)
    c.args.cursor.now.at c.args.cursor.now.row c.read.new.cursor c.read.result
    (g.S.Sees.look c.args.self.now.0) (g.A.ReadsRhs.form c.args.self.now.1) (g.B.ReadsRhs.form c.args.self.now.2)
    c.alternative.new.cursor c.in_ok-part.part c.in_ok-part.ensures c.read.ensures)
