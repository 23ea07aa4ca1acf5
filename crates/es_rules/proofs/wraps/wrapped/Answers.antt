use Rattle.std.proofs.Common.{refl}
use Rattle.std.proofs.lemmas.Result.{err_from_is_err_and}
use Rattle.grammar_theory.specs.Reader.{and_then}
use Rattle.es_rules.specs.Bounded.{form_at, turned_at}
use Rattle.es_rules.specs.Steps.{keys_in, single}
use Rattle.es_rules.proofs.FormLemmas.{read_refused}
use Rattle.es_rules.proofs.WrapLemmas.{wrapped_read, wrapped_many, wrapped_refused}
use Rattle.es_rules.proofs.wraps.wrapped.Goals as goal

pub returns-in_err-parts : goal.returns-in_err-parts
returns-in_err-parts g c =
    let p = err_from_is_err_and c.from_residual-in_err-parts.result c.from_residual-in_err-parts.ensures.1 in
    let out = (form_at (keys_in c.args.grammar.now.input)
    (g.T.Rows.below c.args.grammar.now.rows c.args.grammar.now.input)
    (g.P.ReadsRhs.form c.args.turn.now) c.args.cursor.now.at) in
    λ base t place written.
    read_refused c.args.grammar.now.input.keeps
    (and_then out (λ ps to. turned_at c.args.label c.args.from.token to (single t c.args.first) ps))
    base c.read.new.cursor c.from_residual-in_err-parts.result p.0 c.in_err-parts.field-0.0 p.1 p.2
    (wrapped_refused c.args.grammar.now.input.keeps out c.args.label c.args.from.token c.args.first c.args.from.entry
    c.args.cursor.now.row c.open_before.new.row c.read.new.cursor c.in_err-parts.field-0.0 base t
    c.in_ok-open_before.ensures.written c.in_err-parts.ensures place written)

pub returns-in_err-height : goal.returns-in_err-height
returns-in_err-height g c =
    let p = err_from_is_err_and c.from_residual-in_err-height.result c.from_residual-in_err-height.ensures.1 in
    let out = (form_at (keys_in c.args.grammar.now.input)
    (g.T.Rows.below c.args.grammar.now.rows c.args.grammar.now.input)
    (g.P.ReadsRhs.form c.args.turn.now) c.args.cursor.now.at) in
    λ base t place written.
    read_refused c.args.grammar.now.input.keeps
    (and_then out (λ ps to. turned_at c.args.label c.args.from.token to (single t c.args.first) ps))
    base c.read.new.cursor c.from_residual-in_err-height.result p.0 c.in_err-height.field-0.0 p.1 p.2
    (wrapped_many c.args.grammar.now.input.keeps out c.args.label c.args.from.token c.args.first c.args.from.entry
    c.args.cursor.now.row c.open_before.new.row c.read.new.cursor c.in_ok-parts.parts c.in_err-height.field-0.0 base t
    c.in_ok-open_before.ensures.written c.in_ok-parts.ensures
    c.in_err-height.ensures.many place written)

pub returns : goal.returns
returns g c =
    λ base t place written.
    wrapped_read c.args.grammar.now.input.keeps
    (form_at (keys_in c.args.grammar.now.input) (g.T.Rows.below c.args.grammar.now.rows c.args.grammar.now.input)
    (g.P.ReadsRhs.form c.args.turn.now) c.args.cursor.now.at)
    c.args.label c.args.from.token c.args.first c.args.from.entry c.args.cursor.now.row c.open_before.new.row
    c.read.new.cursor c.in_ok-parts.parts c.in_ok-height.height
    (record { at = c.read.new.cursor.at; row = c.close.new.row }) base t
    c.in_ok-open_before.ensures.written c.in_ok-parts.ensures
    c.in_ok-height.ensures.counted.0 c.in_ok-height.ensures.counted.1 refl c.in_ok-close.ensures.written place written
