use Rattle.std.proofs.Common.{true, length, sym, refl}
use Rattle.std.proofs.lemmas.Result.{err_from_is_err_and}
use Rattle.grammar_theory.specs.Productions.{test}
use Rattle.grammar_theory.specs.declared.error.SyntaxError.TheVariants.{Syntax, OutOfMemory}
use Rattle.es_lookahead.proofs.TokenLemmas.{length-keys_of}
use Rattle.es_syntax.specs.Held.{label_of}
use Rattle.es_rules.specs.Bounded.{form_at, wraps_at}
use Rattle.es_rules.specs.Steps.{keys_in, single}
use Rattle.es_rules.proofs.FormLemmas.{read_refused}
use Rattle.es_rules.proofs.ChainLemmas.{chain_start, chain_more, chain_stuck, chain_full, chain_lost, chain_end}
use Rattle.es_rules.proofs.wraps.leans.Goals as goal

-- no turn is read yet
pub turns-init : goal.turns-init
turns-init g c =
    λ base t place written.
    chain_start c.args.lean (keys_in c.args.grammar.now.input) (test (g.C.Tells.told c.args.told.now))
    (form_at (keys_in c.args.grammar.now.input)
    (g.T.Rows.below c.args.grammar.now.rows c.args.grammar.now.input) (g.P.ReadsRhs.form c.args.turn.now))
    c.args.from.token
    (wraps_at (keys_in c.args.grammar.now.input) (label_of c.args.lean)
    (test (g.C.Tells.told c.args.told.now))
    (form_at (keys_in c.args.grammar.now.input)
    (g.T.Rows.below c.args.grammar.now.rows c.args.grammar.now.input)
    (g.P.ReadsRhs.form c.args.turn.now)) c.args.from.token
    (length (keys_in c.args.grammar.now.input))
    (single t c.args.first) c.args.cursor.now.at) base t
    c.args.cursor.now.at
    (length (keys_in c.args.grammar.now.input))
    (length c.args.grammar.now.input.tokens.tokens.now)
    c.args.first c.args.from.entry
    c.args.cursor.now.row c.open_chain.new.row refl (sym (length-keys_of c.args.grammar.now.input.tokens.tokens.now))
    place written c.in_ok-open_chain.ensures.opened

-- no operand has more turns behind it than there are tokens
pub returns-then-left-eq0 : goal.returns-then-left-eq0
returns-then-left-eq0 g c =
    λ base t place written.
    chain_full c.args.lean (keys_in c.args.grammar.now.input) (test (g.C.Tells.told c.args.told.now))
    (form_at (keys_in c.args.grammar.now.input)
    (g.T.Rows.below c.args.grammar.now.rows c.args.grammar.now.input) (g.P.ReadsRhs.form c.args.turn.now))
    c.args.from.token
    (wraps_at (keys_in c.args.grammar.now.input) (label_of c.args.lean)
    (test (g.C.Tells.told c.args.told.now))
    (form_at (keys_in c.args.grammar.now.input)
    (g.T.Rows.below c.args.grammar.now.rows c.args.grammar.now.input)
    (g.P.ReadsRhs.form c.args.turn.now)) c.args.from.token
    (length (keys_in c.args.grammar.now.input))
    (single t c.args.first) c.args.cursor.now.at) base t
    c.args.cursor.now.at c.turns.left c.turns.height c.turns.cursor
    (Syntax c.turns.cursor.at) c.if-left-eq0.true
    (c.turns.invariant base t place written) (sym c.turns-test.ensures)

-- a turn that can't be read
pub returns-in_err-height : goal.returns-in_err-height
returns-in_err-height g c =
    let p = err_from_is_err_and c.from_residual-in_err-height.result c.from_residual-in_err-height.ensures.1 in
    λ base t place written.
    read_refused true (wraps_at (keys_in c.args.grammar.now.input) (label_of c.args.lean)
    (test (g.C.Tells.told c.args.told.now))
    (form_at (keys_in c.args.grammar.now.input)
    (g.T.Rows.below c.args.grammar.now.rows c.args.grammar.now.input) (g.P.ReadsRhs.form c.args.turn.now))
    c.args.from.token
    (length (keys_in c.args.grammar.now.input)) (single t c.args.first)
    c.args.cursor.now.at) base c.leaned.new.cursor c.from_residual-in_err-height.result p.0
    c.in_err-height.field-0.0 p.1 p.2
    (chain_stuck c.args.lean (keys_in c.args.grammar.now.input) (test (g.C.Tells.told c.args.told.now))
    (form_at (keys_in c.args.grammar.now.input)
    (g.T.Rows.below c.args.grammar.now.rows c.args.grammar.now.input) (g.P.ReadsRhs.form c.args.turn.now))
    c.args.from.token
    (wraps_at (keys_in c.args.grammar.now.input) (label_of c.args.lean)
    (test (g.C.Tells.told c.args.told.now))
    (form_at (keys_in c.args.grammar.now.input)
    (g.T.Rows.below c.args.grammar.now.rows c.args.grammar.now.input)
    (g.P.ReadsRhs.form c.args.turn.now)) c.args.from.token
    (length (keys_in c.args.grammar.now.input))
    (single t c.args.first) c.args.cursor.now.at) base t
    c.args.cursor.now.at c.turns.left c.turns.height c.turns.cursor
    c.leaned.new.cursor c.in_err-height.field-0.0
    (c.turns.invariant base t place written) (sym c.turns-test.ensures) c.in_err-height.ensures)

-- memory ran out at the end
pub returns-in_err-close : goal.returns-in_err-close
returns-in_err-close g c =
    let p = err_from_is_err_and c.from_residual-in_err-close.result c.from_residual-in_err-close.ensures.1 in
    λ base t place written.
    read_refused true (wraps_at (keys_in c.args.grammar.now.input) (label_of c.args.lean)
    (test (g.C.Tells.told c.args.told.now))
    (form_at (keys_in c.args.grammar.now.input)
    (g.T.Rows.below c.args.grammar.now.rows c.args.grammar.now.input) (g.P.ReadsRhs.form c.args.turn.now))
    c.args.from.token
    (length (keys_in c.args.grammar.now.input)) (single t c.args.first)
    c.args.cursor.now.at) base (record { at = c.turns.cursor.at; row = c.close.new.row })
    c.from_residual-in_err-close.result
    p.0 OutOfMemory p.1 p.2
    (chain_lost c.args.lean (keys_in c.args.grammar.now.input) (test (g.C.Tells.told c.args.told.now))
    (form_at (keys_in c.args.grammar.now.input)
    (g.T.Rows.below c.args.grammar.now.rows c.args.grammar.now.input) (g.P.ReadsRhs.form c.args.turn.now))
    c.args.from.token
    (wraps_at (keys_in c.args.grammar.now.input) (label_of c.args.lean)
    (test (g.C.Tells.told c.args.told.now))
    (form_at (keys_in c.args.grammar.now.input)
    (g.T.Rows.below c.args.grammar.now.rows c.args.grammar.now.input)
    (g.P.ReadsRhs.form c.args.turn.now)) c.args.from.token
    (length (keys_in c.args.grammar.now.input))
    (single t c.args.first) c.args.cursor.now.at) base t
    c.args.cursor.now.at c.turns.left c.turns.height c.turns.cursor
    c.close.new.row (c.turns.invariant base t place written)
    c.in_err-close.ensures.kept)

-- one more turn
pub turns-preserved : goal.turns-preserved
turns-preserved g c =
    λ base t place written.
    chain_more c.args.lean (keys_in c.args.grammar.now.input) (test (g.C.Tells.told c.args.told.now))
    (form_at (keys_in c.args.grammar.now.input)
    (g.T.Rows.below c.args.grammar.now.rows c.args.grammar.now.input) (g.P.ReadsRhs.form c.args.turn.now))
    c.args.from.token
    (wraps_at (keys_in c.args.grammar.now.input) (label_of c.args.lean)
    (test (g.C.Tells.told c.args.told.now))
    (form_at (keys_in c.args.grammar.now.input)
    (g.T.Rows.below c.args.grammar.now.rows c.args.grammar.now.input)
    (g.P.ReadsRhs.form c.args.turn.now)) c.args.from.token
    (length (keys_in c.args.grammar.now.input))
    (single t c.args.first) c.args.cursor.now.at) base t
    c.args.cursor.now.at c.turns.left c.turns.height
    c.in_ok-height.height c.turns.cursor c.leaned.new.cursor
    c.if-left-eq0.false (c.turns.invariant base t place written) (sym c.turns-test.ensures) c.in_ok-height.ensures

-- all turns are read at the end
pub returns : goal.returns
returns g c =
    λ base t place written.
    chain_end c.args.lean (keys_in c.args.grammar.now.input) (test (g.C.Tells.told c.args.told.now))
    (form_at (keys_in c.args.grammar.now.input)
    (g.T.Rows.below c.args.grammar.now.rows c.args.grammar.now.input) (g.P.ReadsRhs.form c.args.turn.now))
    c.args.from.token
    (wraps_at (keys_in c.args.grammar.now.input) (label_of c.args.lean)
    (test (g.C.Tells.told c.args.told.now))
    (form_at (keys_in c.args.grammar.now.input)
    (g.T.Rows.below c.args.grammar.now.rows c.args.grammar.now.input)
    (g.P.ReadsRhs.form c.args.turn.now)) c.args.from.token
    (length (keys_in c.args.grammar.now.input))
    (single t c.args.first) c.args.cursor.now.at) base t
    c.args.cursor.now.at c.turns.left c.turns.height
    c.args.from.token c.turns.cursor.at c.args.from.entry
    c.turns.cursor
    c.close.new.row (c.turns.invariant base t place written) (sym c.turns-test.ensures) c.requires.there
    refl refl place c.in_ok-close.ensures.written
