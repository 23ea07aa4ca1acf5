use Rattle.std.proofs.lemmas.Result.{err_from_is_err_and}
use Rattle.es_rules.specs.Predict.{leaf_kind_of}
use Rattle.es_rules.specs.Bounded.{form_at}
use Rattle.es_rules.specs.Steps.{keys_in}
use Rattle.grammar_theory.specs.Productions.{tok}
use Rattle.es_rules.proofs.FormLemmas.{refused, adds_tok, no_tok}
use Rattle.es_syntax.proofs.Forests.{keeps_all}
use Rattle.es_rules.proofs.forms.TokReadsRhs.read.Goals as goal

pub returns-in_err-take : goal.returns-in_err-take
returns-in_err-take g c =
    let p = err_from_is_err_and c.from_residual.result c.from_residual.ensures.1 in
    refused c.args.grammar.now.input.keeps (form_at (keys_in c.args.grammar.now.input)
    (g.T.Rows.below c.args.grammar.now.rows c.args.grammar.now.input)
    (tok (leaf_kind_of c.args.self.now.0) (g.K.IsOfKinds.kinds c.args.self.now.1) (g.N.ReadsRhs.form c.args.self.now.2))
    c.args.cursor.now.at) c.args.cursor.now.row c.take.new.cursor c.from_residual.result p.0
    c.in_err-take.field-0.0 p.1 p.2 (
      rw c.take.ensures.row (keeps_all c.args.cursor.now.row),
      λ memory. no_tok c.args.grammar.now.input.keeps (keys_in c.args.grammar.now.input)
          (g.T.Rows.below c.args.grammar.now.rows c.args.grammar.now.input) (g.N.ReadsRhs.form c.args.self.now.2)
          c.args.cursor.now.at
          (leaf_kind_of c.args.self.now.0)
          (g.K.IsOfKinds.kinds c.args.self.now.1) c.in_err-take.ensures.other,
    )

pub returns : goal.returns
returns g c =
    adds_tok c.args.grammar.now.input.keeps (keys_in c.args.grammar.now.input)
    (g.T.Rows.below c.args.grammar.now.rows c.args.grammar.now.input) (g.N.ReadsRhs.form c.args.self.now.2)
    c.args.cursor.now.at c.args.cursor.now.row c.read.new.cursor c.read.result
    (leaf_kind_of c.args.self.now.0) (g.K.IsOfKinds.kinds c.args.self.now.1) c.take.new.cursor.row c.leaf.new.row
    c.in_ok-take.ensures.seen c.take.ensures.row c.in_ok-leaf.ensures.written
    (rw (← c.in_ok-take.ensures.taken) c.read.ensures)
