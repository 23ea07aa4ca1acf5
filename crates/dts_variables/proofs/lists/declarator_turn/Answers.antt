use Rattle.std.proofs.Common.{◌∙◌}
use Rattle.es_syntax.specs.Held.{held, valued}
use Rattle.dts_variables.proofs.ListLemmas.{turn_made}
use Rattle.dts_variables.proofs.lists.declarator_turn.Goals as goal

-- opened, written, closed
pub returns-in-Some-clause-written : goal.returns-in-Some-clause-written
returns-in-Some-clause-written c = λ e by knows.
    let x = c.args.env.now.text.now in
    let ts = c.args.env.now.tokens.now in
    let f = c.close_group.ensures.before e in
    let g = c.keep_others.ensures.before f in
    let h = c.declarator.ensures.before g in
    turn_made by x ts c.args.out.now c.open-place.new.self c.declarator.new.out c.keep_others.new.out
    c.close_group.new.self _ (held x ts c.group-parts.result.entries.now) (valued x ts c.args.turn.now)
    (valued x ts c.in-Some.it) (c.group-parts.ensures.value x ts) (c.in-Some.ensures.value x ts)
    (c.open-place.ensures.written h) (c.open-place.ensures.place h) c.open-place.ensures.state
    (c.declarator.ensures.written g by knows) (c.keep_others.ensures.written f x ts)
    (c.close_group.ensures.written e) (c.close_group.ensures.state ∙ c.keep_others.ensures.state)
