use Rattle.std.proofs.Common.{length, sym, ap, refl}
use Rattle.es_syntax.specs.Written.{opened}
use Rattle.grammar_theory.specs.declared.error.SyntaxError.TheVariants.{Syntax}
use Rattle.std.proofs.lemmas.Result.{err_from_is_err_and}
use Rattle.grammar_theory.specs.Productions.{test}
use Rattle.grammar_theory.specs.Reader.{read_turns}
use Rattle.es_lookahead.proofs.TokenLemmas.{length-keys_of}
use Rattle.es_rules.specs.Bounded.{makes, form_at}
use Rattle.es_rules.specs.Steps.{keys_in, with_more}
use Rattle.es_rules.proofs.FormLemmas.{part_refused, group_part}
use Rattle.es_rules.proofs.ListLemmas.{left_start, left_push, left_stuck, left_full, left_none, list_refused}
use Rattle.es_rules.proofs.forms.turns.Goals as goal

-- nothing is read yet
pub turns-init : goal.turns-init
turns-init g c =
    left_start c.args.grammar.now.input.keeps
    (read_turns makes (keys_in c.args.grammar.now.input) (test (g.C.Tells.told c.args.told.now))
    (form_at (keys_in c.args.grammar.now.input)
    (g.T.Rows.below c.args.grammar.now.rows c.args.grammar.now.input) (g.P.ReadsRhs.form c.args.turn.now))
    (length (keys_in c.args.grammar.now.input)) c.args.cursor.now.at)
    (read_turns makes (keys_in c.args.grammar.now.input) (test (g.C.Tells.told c.args.told.now))
    (form_at (keys_in c.args.grammar.now.input)
    (g.T.Rows.below c.args.grammar.now.rows c.args.grammar.now.input) (g.P.ReadsRhs.form c.args.turn.now))
    (length c.args.grammar.now.input.tokens.tokens.now) c.args.cursor.now.at)
    (with_more c.args.grammar.now.input.keeps c.args.cursor.now.row opened) c.open.new.row
    c.in_ok-opened.ensures.written
    (ap (λ n. read_turns makes (keys_in c.args.grammar.now.input) (test (g.C.Tells.told c.args.told.now))
    (form_at (keys_in c.args.grammar.now.input)
    (g.T.Rows.below c.args.grammar.now.rows c.args.grammar.now.input) (g.P.ReadsRhs.form c.args.turn.now)) n
    c.args.cursor.now.at)
    (sym (length-keys_of c.args.grammar.now.input.tokens.tokens.now)))

-- no list has more turns than there are tokens
pub returns-then-left-eq0 : goal.returns-then-left-eq0
returns-then-left-eq0 g c =
    let told = left_full c.args.grammar.now.input.keeps (keys_in c.args.grammar.now.input)
    (test (g.C.Tells.told c.args.told.now))
    (form_at (keys_in c.args.grammar.now.input)
    (g.T.Rows.below c.args.grammar.now.rows c.args.grammar.now.input) (g.P.ReadsRhs.form c.args.turn.now))
    (read_turns makes (keys_in c.args.grammar.now.input) (test (g.C.Tells.told c.args.told.now))
    (form_at (keys_in c.args.grammar.now.input)
    (g.T.Rows.below c.args.grammar.now.rows c.args.grammar.now.input) (g.P.ReadsRhs.form c.args.turn.now))
    (length (keys_in c.args.grammar.now.input)) c.args.cursor.now.at)
    (with_more c.args.grammar.now.input.keeps c.args.cursor.now.row opened) c.turns.left c.turns.height c.turns.cursor
    (Syntax c.turns.cursor.at)
    c.if-left-eq0.true c.turns.invariant (sym c.turns-test.ensures) in
    list_refused c.args.grammar.now.input.keeps
    (read_turns makes (keys_in c.args.grammar.now.input) (test (g.C.Tells.told c.args.told.now))
    (form_at (keys_in c.args.grammar.now.input)
    (g.T.Rows.below c.args.grammar.now.rows c.args.grammar.now.input) (g.P.ReadsRhs.form c.args.turn.now))
    (length (keys_in c.args.grammar.now.input)) c.args.cursor.now.at)
    c.args.cursor.now.row (with_more c.args.grammar.now.input.keeps c.args.cursor.now.row opened) c.turns.cursor.row
    (Syntax c.turns.cursor.at) refl told

-- a turn that can't be read
pub returns-in_err-part : goal.returns-in_err-part
returns-in_err-part g c =
    let p = err_from_is_err_and c.from_residual-in_err-part.result c.from_residual-in_err-part.ensures.1 in
    part_refused c.args.grammar.now.input.keeps
    (read_turns makes (keys_in c.args.grammar.now.input) (test (g.C.Tells.told c.args.told.now))
    (form_at (keys_in c.args.grammar.now.input)
    (g.T.Rows.below c.args.grammar.now.rows c.args.grammar.now.input) (g.P.ReadsRhs.form c.args.turn.now))
    (length (keys_in c.args.grammar.now.input)) c.args.cursor.now.at)
    c.args.cursor.now.row c.group.new.cursor c.from_residual-in_err-part.result p.0
    c.in_err-part.field-0.0
    p.1 p.2
    (list_refused c.args.grammar.now.input.keeps
    (read_turns makes (keys_in c.args.grammar.now.input) (test (g.C.Tells.told c.args.told.now))
    (form_at (keys_in c.args.grammar.now.input)
    (g.T.Rows.below c.args.grammar.now.rows c.args.grammar.now.input) (g.P.ReadsRhs.form c.args.turn.now))
    (length (keys_in c.args.grammar.now.input)) c.args.cursor.now.at)
    c.args.cursor.now.row (with_more c.args.grammar.now.input.keeps c.args.cursor.now.row opened) c.group.new.cursor.row
    c.in_err-part.field-0.0
    refl
    (left_stuck c.args.grammar.now.input.keeps (keys_in c.args.grammar.now.input)
    (test (g.C.Tells.told c.args.told.now))
    (form_at (keys_in c.args.grammar.now.input)
    (g.T.Rows.below c.args.grammar.now.rows c.args.grammar.now.input) (g.P.ReadsRhs.form c.args.turn.now))
    (read_turns makes (keys_in c.args.grammar.now.input) (test (g.C.Tells.told c.args.told.now))
    (form_at (keys_in c.args.grammar.now.input)
    (g.T.Rows.below c.args.grammar.now.rows c.args.grammar.now.input) (g.P.ReadsRhs.form c.args.turn.now))
    (length (keys_in c.args.grammar.now.input)) c.args.cursor.now.at)
    (with_more c.args.grammar.now.input.keeps c.args.cursor.now.row opened) c.turns.left c.turns.height c.turns.cursor
    c.group.new.cursor.row c.in_err-part.field-0.0
    c.turns.invariant (sym c.turns-test.ensures) c.in_err-part.ensures))

-- one more turn
pub turns-preserved : goal.turns-preserved
turns-preserved g c =
    left_push c.args.grammar.now.input.keeps (keys_in c.args.grammar.now.input) (test (g.C.Tells.told c.args.told.now))
    (form_at (keys_in c.args.grammar.now.input)
    (g.T.Rows.below c.args.grammar.now.rows c.args.grammar.now.input) (g.P.ReadsRhs.form c.args.turn.now))
    (read_turns makes (keys_in c.args.grammar.now.input) (test (g.C.Tells.told c.args.told.now))
    (form_at (keys_in c.args.grammar.now.input)
    (g.T.Rows.below c.args.grammar.now.rows c.args.grammar.now.input) (g.P.ReadsRhs.form c.args.turn.now))
    (length (keys_in c.args.grammar.now.input)) c.args.cursor.now.at)
    (with_more c.args.grammar.now.input.keeps c.args.cursor.now.row opened) c.turns.left c.turns.height
    c.in_ok-part.part
    c.turns.cursor c.group.new.cursor c.highest-height.result
    c.if-left-eq0.false c.turns.invariant (sym c.turns-test.ensures) c.in_ok-part.ensures c.highest-height.ensures

-- all turns are read at the end
pub returns : goal.returns
returns g c =
    group_part c.args.grammar.now.input.keeps
    (read_turns makes (keys_in c.args.grammar.now.input) (test (g.C.Tells.told c.args.told.now))
    (form_at (keys_in c.args.grammar.now.input)
    (g.T.Rows.below c.args.grammar.now.rows c.args.grammar.now.input) (g.P.ReadsRhs.form c.args.turn.now))
    (length (keys_in c.args.grammar.now.input)) c.args.cursor.now.at)
    c.args.cursor.now.row (with_more c.args.grammar.now.input.keeps c.args.cursor.now.row opened) c.in_ok-opened.opened
    c.turns.height
    c.turns.cursor
    (record { at = c.turns.cursor.at; row = c.close.new.row }) c.in_ok-opened.ensures.place refl
    (left_none c.args.grammar.now.input.keeps (keys_in c.args.grammar.now.input) (test (g.C.Tells.told c.args.told.now))
    (form_at (keys_in c.args.grammar.now.input)
    (g.T.Rows.below c.args.grammar.now.rows c.args.grammar.now.input) (g.P.ReadsRhs.form c.args.turn.now))
    (read_turns makes (keys_in c.args.grammar.now.input) (test (g.C.Tells.told c.args.told.now))
    (form_at (keys_in c.args.grammar.now.input)
    (g.T.Rows.below c.args.grammar.now.rows c.args.grammar.now.input) (g.P.ReadsRhs.form c.args.turn.now))
    (length (keys_in c.args.grammar.now.input)) c.args.cursor.now.at)
    (with_more c.args.grammar.now.input.keeps c.args.cursor.now.row opened) c.turns.left c.turns.height c.turns.cursor
    c.turns.invariant (sym c.turns-test.ensures))
    refl c.in_ok-close.ensures.written
