use Rattle.std.proofs.Common.{length}
use Rattle.grammar_theory.specs.Productions.{test}
use Rattle.grammar_theory.specs.Reader.{read_turns}
use Rattle.es_syntax.specs.Written.{opened}
use Rattle.es_rules.specs.Bounded.{makes, form_at}
use Rattle.es_rules.specs.Steps.{keys_in, with_more}
use Rattle.es_rules.proofs.ListLemmas.{IsLeft}
use Rattle.es_rules.proofs.forms.turns.Given as goal

-- the turns read so far stand before what is left to read
abbrev pub invariant-turns : goal.invariant-turns
invariant-turns g l =
    IsLeft l.grammar.input.keeps
    (read_turns makes (keys_in l.grammar.input) (test (g.C.Tells.told l.told))
    (form_at (keys_in l.grammar.input)
    (g.T.Rows.below l.grammar.rows l.grammar.input)
    (g.P.ReadsRhs.form l.turn)) (length (keys_in l.grammar.input)) l.fn.cursor.at)
    (read_turns makes (keys_in l.grammar.input) (test (g.C.Tells.told l.told))
    (form_at (keys_in l.grammar.input)
    (g.T.Rows.below l.grammar.rows l.grammar.input)
    (g.P.ReadsRhs.form l.turn)) l.left l.cursor.at) l.height (with_more l.grammar.input.keeps l.fn.cursor.row opened)
    l.cursor.row

abbrev pub decreases-turns : goal.decreases-turns
decreases-turns g l = l.left
