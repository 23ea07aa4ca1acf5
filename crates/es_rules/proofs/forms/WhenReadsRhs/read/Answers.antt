use Rattle.std.proofs.Common.{sym}
use Rattle.es_rules.specs.Steps.{keys_in}
use Rattle.es_rules.proofs.FormLemmas.{adds_when, no_when}
use Rattle.es_syntax.proofs.Forests.{keeps_all}
use Rattle.es_rules.proofs.forms.WhenReadsRhs.read.Goals as goal

pub returns-then-sees : goal.returns-then-sees
returns-then-sees g c =
    adds_when c.args.grammar.now.input.keeps (keys_in c.args.grammar.now.input)
    (g.T.Rows.below c.args.grammar.now.rows c.args.grammar.now.input) (g.N.ReadsRhs.form c.args.self.now.1)
    c.args.cursor.now.at
    c.args.cursor.now.row c.read.new.cursor c.read.result (g.S.Sees.look c.args.self.now.0)
    (sym c.if-sees.ensures) c.read.ensures

pub returns : goal.returns
returns g c = (
  keeps_all c.args.cursor.now.row,
  λ memory. no_when c.args.grammar.now.input.keeps (keys_in c.args.grammar.now.input)
      (g.T.Rows.below c.args.grammar.now.rows c.args.grammar.now.input) (g.N.ReadsRhs.form c.args.self.now.1)
      c.args.cursor.now.at
      (g.S.Sees.look c.args.self.now.0)
      (sym c.if-sees.ensures),
)
