use Rattle.std.proofs.Common.{sym, ◌∙◌}
use Rattle.es_syntax.specs.Roles.{expr_in}
use Rattle.es_syntax.specs.Held.{valued}
use Rattle.dts_items.proofs.DefaultLemmas.{const_none, const_some}
use Rattle.dts_items.proofs.defaults.made_const.Goals as goal

pub returns-then-not-infer-clause-written : goal.returns-then-not-infer-clause-written
returns-then-not-infer-clause-written c = λ e by knows.
    let x = c.args.env.now.text.now in
    let ts = c.args.env.now.tokens.now in
    let f = sym c.back_to.ensures.failed ∙ e in
    let g = c.infer.ensures.before f in
    let h = c.bare.ensures.before g in
    let i = c.open-place.ensures.before h in
    const_none x ts by c.args.out.now c.open-group.new.self c.open-place.new.self c.bare.new.self c.infer.new.out
    c.open-group.result c.args.number c.infer.result (c.open-group.ensures.written i) (c.open-group.ensures.place i)
    (c.open-place.ensures.written h)
    (c.bare.ensures.state ∙ (c.open-place.ensures.state ∙ c.open-group.ensures.state)) (c.bare.ensures.written g x ts)
    c.back_to.new.self c.type_of_default.result (expr_in (valued x ts c.args.e.now))
    (c.type_of_default.ensures.literal, c.type_of_default.ensures.readonly, c.type_of_default.ensures.frozen)
    c.if-not-infer.true (c.infer.ensures.written f by knows) c.back_to.ensures.row c.back_to.ensures.state

pub returns-clause-written : goal.returns-clause-written
returns-clause-written c = λ e by knows.
    let x = c.args.env.now.text.now in
    let ts = c.args.env.now.tokens.now in
    let f = c.close_group.ensures.before e in
    let g = c.close_form.ensures.before f in
    let h = c.infer.ensures.before g in
    let i = c.bare.ensures.before h in
    let j = c.open-place.ensures.before i in
    const_some x ts by c.args.out.now c.open-group.new.self c.open-place.new.self c.bare.new.self c.infer.new.out
    c.open-group.result c.args.number c.infer.result (c.open-group.ensures.written j) (c.open-group.ensures.place j)
    (c.open-place.ensures.written i)
    (c.bare.ensures.state ∙ (c.open-place.ensures.state ∙ c.open-group.ensures.state)) (c.bare.ensures.written h x ts)
    c.close_form.new.self c.close_group.new.self c.open-place.result c.type_of_default.result
    (expr_in (valued x ts c.args.e.now))
    (c.type_of_default.ensures.literal, c.type_of_default.ensures.readonly, c.type_of_default.ensures.frozen)
    c.if-not-infer.false (c.infer.ensures.written g by knows) (c.open-place.ensures.place i)
    (c.close_form.ensures.written f) (c.close_group.ensures.written e)
    (c.close_group.ensures.state ∙ c.close_form.ensures.state)
