use Rattle.std.proofs.Common.{refl}
use Rattle.std.proofs.lemmas.Result.{err_from_is_err_and}
use Rattle.grammar_theory.specs.Reader.{and_then}
use Rattle.es_rules.specs.Bounded.{form_at, node_at}
use Rattle.es_rules.specs.Steps.{keys_in}
use Rattle.es_rules.proofs.FormLemmas.{read_refused, made_read, made_many, made_refused}
use Rattle.es_rules.proofs.rules.made.Goals as goal

pub returns-in_err-parts : goal.returns-in_err-parts
returns-in_err-parts g c =
    let p = err_from_is_err_and c.from_residual-in_err-parts.result c.from_residual-in_err-parts.ensures.1 in
    let out = (form_at (keys_in c.args.grammar.now.input)
    (g.T.Rows.below c.args.grammar.now.rows c.args.grammar.now.input)
    (g.P.ReadsRhs.form c.args.parts.now) c.args.cursor.now.at) in
    read_refused c.args.grammar.now.input.keeps
    (and_then out (λ ps to. node_at c.args.label c.args.cursor.now.at to ps)) c.args.cursor.now.row c.read.new.cursor
    c.from_residual-in_err-parts.result p.0 c.in_err-parts.field-0.0 p.1 p.2
    (made_refused c.args.grammar.now.input.keeps out (λ ps to. node_at c.args.label c.args.cursor.now.at to ps)
    c.args.cursor.now.row c.open.new.row c.read.new.cursor.row c.in_err-parts.field-0.0 c.in_ok-opened.ensures.written
    c.in_err-parts.ensures)

pub returns-in_err-height : goal.returns-in_err-height
returns-in_err-height g c =
    let p = err_from_is_err_and c.from_residual-in_err-height.result c.from_residual-in_err-height.ensures.1 in
    let out = (form_at (keys_in c.args.grammar.now.input)
    (g.T.Rows.below c.args.grammar.now.rows c.args.grammar.now.input)
    (g.P.ReadsRhs.form c.args.parts.now) c.args.cursor.now.at) in
    read_refused c.args.grammar.now.input.keeps
    (and_then out (λ ps to. node_at c.args.label c.args.cursor.now.at to ps)) c.args.cursor.now.row c.read.new.cursor
    c.from_residual-in_err-height.result p.0 c.in_err-height.field-0.0 p.1 p.2
    (made_many c.args.grammar.now.input.keeps out c.args.label c.args.cursor.now.at c.args.cursor.now.row c.open.new.row
    c.in_ok-opened.opened c.in_ok-parts.parts c.read.new.cursor c.in_err-height.field-0.0
    c.in_ok-opened.ensures.written c.in_ok-parts.ensures c.in_err-height.ensures.many)

pub returns : goal.returns
returns g c =
    made_read c.args.grammar.now.input.keeps
    (form_at (keys_in c.args.grammar.now.input) (g.T.Rows.below c.args.grammar.now.rows c.args.grammar.now.input)
    (g.P.ReadsRhs.form c.args.parts.now) c.args.cursor.now.at)
    c.args.label c.args.cursor.now.at c.args.cursor.now.row c.open.new.row c.in_ok-opened.opened c.in_ok-parts.parts
    c.read.new.cursor c.in_ok-height.height (record { at = c.read.new.cursor.at; row = c.close.new.row })
    c.in_ok-opened.ensures.place
    c.in_ok-opened.ensures.written c.in_ok-parts.ensures c.in_ok-height.ensures.counted.0
    c.in_ok-height.ensures.counted.1 refl c.in_ok-close.ensures.written
