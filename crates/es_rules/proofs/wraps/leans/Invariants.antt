use Rattle.std.specs.Prelude.{true}
use Rattle.std.proofs.Common.{◌≡◌, ◌∷◌, [], List, length}
use Rattle.grammar_theory.specs.Productions.{test}
use Rattle.es_grammar.specs.declared.cst.tree.Cst.{Cst}
use Rattle.es_syntax.specs.declared.entry.Entry.{Entry}
use Rattle.es_syntax.specs.Held.{label_of}
use Rattle.es_rules.specs.Bounded.{form_at, wraps_at}
use Rattle.es_rules.specs.Steps.{keys_in, Writes, single}
use Rattle.es_rules.proofs.WrapLemmas.{rest_at}
use Rattle.es_rules.proofs.ChainLemmas.{IsChain}
use Rattle.es_rules.proofs.wraps.leans.Given as goal

-- the operand and the turns so far stand behind the node that is open
abbrev pub invariant-turns : goal.invariant-turns
invariant-turns g l =
    (base : List Entry) (t : Cst) → length base ≡ l.from.entry → Writes true base l.fn.cursor.row (t ∷ [])
    → IsChain l.lean l.from.token
    (wraps_at (keys_in l.grammar.input) (label_of l.lean) (test (g.C.Tells.told l.told))
    (form_at (keys_in l.grammar.input)
    (g.T.Rows.below l.grammar.rows l.grammar.input)
    (g.P.ReadsRhs.form l.turn)) l.from.token (length (keys_in l.grammar.input))
    (single t l.fn.first) l.fn.cursor.at)
    (rest_at (keys_in l.grammar.input) (label_of l.lean) (test (g.C.Tells.told l.told))
    (form_at (keys_in l.grammar.input)
    (g.T.Rows.below l.grammar.rows l.grammar.input)
    (g.P.ReadsRhs.form l.turn)) l.from.token l.left l.cursor.at) l.height base l.cursor.row
    l.fn.cursor.at l.cursor.at

abbrev pub decreases-turns : goal.decreases-turns
decreases-turns g l = l.left
