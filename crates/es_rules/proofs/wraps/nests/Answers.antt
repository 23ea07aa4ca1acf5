use Rattle.std.proofs.Common.{length, sym, ap}
use Rattle.std.proofs.lemmas.Result.{err_from_is_err_and}
use Rattle.grammar_theory.specs.Productions.{test}
use Rattle.grammar_theory.specs.declared.error.SyntaxError.TheVariants.{Syntax}
use Rattle.es_lookahead.proofs.TokenLemmas.{length-keys_of}
use Rattle.es_rules.specs.Bounded.{form_at, wraps_at}
use Rattle.es_rules.specs.Steps.{keys_in, single}
use Rattle.es_rules.proofs.FormLemmas.{read_refused}
use Rattle.es_rules.proofs.WrapLemmas.{nested_more, nested_stuck, nested_full, nested_end}
use Rattle.es_rules.proofs.wraps.nests.Goals as goal

-- no turn is read yet
pub turns-init : goal.turns-init
turns-init g c =
    λ base t place written. record {
      tree = t;
      written = written;
      same = ap (λ n. wraps_at (keys_in c.args.grammar.now.input) c.args.label
          (test (g.C.Tells.told c.args.told.now))
          (form_at (keys_in c.args.grammar.now.input)
          (g.T.Rows.below c.args.grammar.now.rows c.args.grammar.now.input) (g.P.ReadsRhs.form c.args.turn.now))
          c.args.from.token n
          (single t c.args.first) c.args.cursor.now.at)
          (length-keys_of c.args.grammar.now.input.tokens.tokens.now);
    }

-- no operand has more turns behind it than there are tokens
pub returns-then-left-eq0 : goal.returns-then-left-eq0
returns-then-left-eq0 g c =
    λ base t place written.
    nested_full c.args.grammar.now.input.keeps (keys_in c.args.grammar.now.input) c.args.label
    (test (g.C.Tells.told c.args.told.now))
    (form_at (keys_in c.args.grammar.now.input)
    (g.T.Rows.below c.args.grammar.now.rows c.args.grammar.now.input) (g.P.ReadsRhs.form c.args.turn.now))
    c.args.from.token
    (wraps_at (keys_in c.args.grammar.now.input) c.args.label
    (test (g.C.Tells.told c.args.told.now))
    (form_at (keys_in c.args.grammar.now.input)
    (g.T.Rows.below c.args.grammar.now.rows c.args.grammar.now.input)
    (g.P.ReadsRhs.form c.args.turn.now)) c.args.from.token
    (length (keys_in c.args.grammar.now.input))
    (single t c.args.first) c.args.cursor.now.at) base c.turns.left
    c.turns.height c.turns.cursor (Syntax c.turns.cursor.at)
    c.if-left-eq0.true
    (c.turns.invariant base t place written) (sym c.turns-test.ensures)

-- a turn that can't be read
pub returns-in_err-height : goal.returns-in_err-height
returns-in_err-height g c =
    let p = err_from_is_err_and c.from_residual.result c.from_residual.ensures.1 in
    λ base t place written.
    let nest = c.turns.invariant base t place written in
    read_refused c.args.grammar.now.input.keeps (wraps_at (keys_in c.args.grammar.now.input) c.args.label
    (test (g.C.Tells.told c.args.told.now))
    (form_at (keys_in c.args.grammar.now.input)
    (g.T.Rows.below c.args.grammar.now.rows c.args.grammar.now.input) (g.P.ReadsRhs.form c.args.turn.now))
    c.args.from.token
    (length (keys_in c.args.grammar.now.input)) (single t c.args.first)
    c.args.cursor.now.at) base c.wrapped.new.cursor c.from_residual.result p.0
    c.in_err-height.field-0.0 p.1 p.2
    (nested_stuck c.args.grammar.now.input.keeps (keys_in c.args.grammar.now.input) c.args.label
    (test (g.C.Tells.told c.args.told.now))
    (form_at (keys_in c.args.grammar.now.input)
    (g.T.Rows.below c.args.grammar.now.rows c.args.grammar.now.input) (g.P.ReadsRhs.form c.args.turn.now))
    c.args.from.token
    (wraps_at (keys_in c.args.grammar.now.input) c.args.label
    (test (g.C.Tells.told c.args.told.now))
    (form_at (keys_in c.args.grammar.now.input)
    (g.T.Rows.below c.args.grammar.now.rows c.args.grammar.now.input)
    (g.P.ReadsRhs.form c.args.turn.now)) c.args.from.token
    (length (keys_in c.args.grammar.now.input))
    (single t c.args.first) c.args.cursor.now.at) base c.turns.left
    c.turns.height c.turns.cursor c.wrapped.new.cursor.row
    c.in_err-height.field-0.0 nest (sym c.turns-test.ensures)
    (c.in_err-height.ensures base nest.tree place nest.written))

-- one more turn
pub turns-preserved : goal.turns-preserved
turns-preserved g c =
    λ base t place written.
    let nest = c.turns.invariant base t place written in
    nested_more c.args.grammar.now.input.keeps (keys_in c.args.grammar.now.input) c.args.label
    (test (g.C.Tells.told c.args.told.now))
    (form_at (keys_in c.args.grammar.now.input)
    (g.T.Rows.below c.args.grammar.now.rows c.args.grammar.now.input) (g.P.ReadsRhs.form c.args.turn.now))
    c.args.from.token
    (wraps_at (keys_in c.args.grammar.now.input) c.args.label
    (test (g.C.Tells.told c.args.told.now))
    (form_at (keys_in c.args.grammar.now.input)
    (g.T.Rows.below c.args.grammar.now.rows c.args.grammar.now.input)
    (g.P.ReadsRhs.form c.args.turn.now)) c.args.from.token
    (length (keys_in c.args.grammar.now.input))
    (single t c.args.first) c.args.cursor.now.at) base c.turns.left
    c.turns.height c.in_ok-height.height c.turns.cursor
    c.wrapped.new.cursor
    c.if-left-eq0.false nest (sym c.turns-test.ensures)
    (c.in_ok-height.ensures base nest.tree place nest.written)

-- all turns are read at the end
pub returns : goal.returns
returns g c =
    λ base t place written.
    nested_end c.args.grammar.now.input.keeps (keys_in c.args.grammar.now.input) c.args.label
    (test (g.C.Tells.told c.args.told.now))
    (form_at (keys_in c.args.grammar.now.input)
    (g.T.Rows.below c.args.grammar.now.rows c.args.grammar.now.input) (g.P.ReadsRhs.form c.args.turn.now))
    c.args.from.token
    (wraps_at (keys_in c.args.grammar.now.input) c.args.label
    (test (g.C.Tells.told c.args.told.now))
    (form_at (keys_in c.args.grammar.now.input)
    (g.T.Rows.below c.args.grammar.now.rows c.args.grammar.now.input)
    (g.P.ReadsRhs.form c.args.turn.now)) c.args.from.token
    (length (keys_in c.args.grammar.now.input))
    (single t c.args.first) c.args.cursor.now.at) base c.turns.left
    c.turns.height c.turns.cursor
    (c.turns.invariant base t place written)
    (sym c.turns-test.ensures)
