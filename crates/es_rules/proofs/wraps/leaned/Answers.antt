use Rattle.std.specs.Prelude.{Bool, Ok}
use Rattle.std.proofs.Common.{refl, subst}
use Rattle.std.proofs.lemmas.Result.{err_from_is_err_and}
use Rattle.es_rules.specs.Bounded.{form_at}
use Rattle.es_rules.specs.Steps.{keys_in, IsRefused, Adds}
use Rattle.es_rules.proofs.WrapLemmas.{turn_read, turn_many, turn_refused, turn_failed}
use Rattle.es_rules.proofs.wraps.leaned.Goals as goal

pub returns-in_err-parts : goal.returns-in_err-parts
returns-in_err-parts g c =
    let p = err_from_is_err_and c.from_residual-in_err-parts.result c.from_residual-in_err-parts.ensures.1 in
    let out = (form_at (keys_in c.args.grammar.now.input)
    (g.T.Rows.below c.args.grammar.now.rows c.args.grammar.now.input)
    (g.P.ReadsRhs.form c.args.turn.now) c.args.cursor.now.at) in
    turn_failed out c.args.first c.args.cursor.now.row c.read.new.cursor c.from_residual-in_err-parts.result p.0
    c.in_err-parts.field-0.0 p.1 p.2
    (turn_refused out c.args.first c.args.cursor.now.row c.open.new.row c.read.new.cursor c.in_err-parts.field-0.0
    c.in_ok-opened.ensures.written
    (subst (λ (b : Bool). IsRefused b out c.open.new.row c.read.new.cursor.row c.in_err-parts.field-0.0)
    c.requires.keeps c.in_err-parts.ensures))

pub returns-in_err-height : goal.returns-in_err-height
returns-in_err-height g c =
    let p = err_from_is_err_and c.from_residual-in_err-height.result c.from_residual-in_err-height.ensures.1 in
    let out = (form_at (keys_in c.args.grammar.now.input)
    (g.T.Rows.below c.args.grammar.now.rows c.args.grammar.now.input)
    (g.P.ReadsRhs.form c.args.turn.now) c.args.cursor.now.at) in
    turn_failed out c.args.first c.args.cursor.now.row c.read.new.cursor c.from_residual-in_err-height.result p.0
    c.in_err-height.field-0.0 p.1 p.2
    (turn_many out c.args.first c.in_ok-parts.parts c.args.cursor.now.row c.open.new.row c.read.new.cursor
    c.in_err-height.field-0.0 c.in_ok-opened.ensures.written
    (subst (λ (b : Bool). Adds b out c.open.new.row c.read.new.cursor (Ok c.in_ok-parts.parts)) c.requires.keeps
    c.in_ok-parts.ensures)
    c.in_err-height.ensures.many)

pub returns : goal.returns
returns g c =
    let out = (form_at (keys_in c.args.grammar.now.input)
    (g.T.Rows.below c.args.grammar.now.rows c.args.grammar.now.input)
    (g.P.ReadsRhs.form c.args.turn.now) c.args.cursor.now.at) in
    turn_read out c.args.first c.in_ok-parts.parts c.in_ok-height.height c.in_ok-opened.opened c.read.new.cursor.at
    c.args.cursor.now.row c.open.new.row c.close.new.row c.read.new.cursor c.in_ok-opened.ensures.place
    c.in_ok-opened.ensures.written
    (subst (λ (b : Bool). Adds b out c.open.new.row c.read.new.cursor (Ok c.in_ok-parts.parts)) c.requires.keeps
    c.in_ok-parts.ensures)
    c.in_ok-height.ensures.counted.0 c.in_ok-height.ensures.counted.1 refl c.in_ok-close.ensures.written
