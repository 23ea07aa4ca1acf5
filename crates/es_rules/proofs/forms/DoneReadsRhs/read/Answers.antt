use Rattle.std.proofs.Common.{refl}
use Rattle.es_rules.specs.Bounded.{}
use Rattle.es_rules.specs.Steps.{keys_in}
use Rattle.es_rules.proofs.FormLemmas.{adds_done}
use Rattle.es_rules.proofs.forms.DoneReadsRhs.read.Goals as goal

pub returns : goal.returns
returns g c =
    adds_done c.args._grammar.now.input.keeps (keys_in c.args._grammar.now.input)
    (g.T.Rows.below c.args._grammar.now.rows c.args._grammar.now.input) c.args._cursor.now.row c.args._cursor.now refl
