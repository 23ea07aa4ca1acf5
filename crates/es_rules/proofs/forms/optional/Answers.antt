use Rattle.std.proofs.Common.{sym, refl}
use Rattle.grammar_theory.specs.Productions.{test}
use Rattle.es_rules.specs.Bounded.{form_at}
use Rattle.es_rules.specs.Steps.{keys_in}
use Rattle.es_rules.proofs.FormLemmas.{absent_part}
use Rattle.es_rules.proofs.forms.optional.Goals as goal

-- the part is absent
pub returns : goal.returns
returns g c =
    absent_part c.args.grammar.now.input.keeps
    (test (g.C.Tells.told c.args.told.now) (keys_in c.args.grammar.now.input) c.args.cursor.now.at)
    (form_at (keys_in c.args.grammar.now.input) (g.T.Rows.below c.args.grammar.now.rows c.args.grammar.now.input)
    (g.P.ReadsRhs.form c.args.part.now) c.args.cursor.now.at)
    c.args.cursor.now.row c.args.cursor.now.at (record { at = c.args.cursor.now.at; row = c.absent.new.row })
    (sym c.if-is_there.ensures) refl c.in_ok-absent.ensures.written
