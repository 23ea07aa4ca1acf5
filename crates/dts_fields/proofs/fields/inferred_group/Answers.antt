use Rattle.std.proofs.Common.{◌∙◌}
use Rattle.dts_fields.proofs.FieldLemmas.{inferred}
use Rattle.dts_fields.proofs.fields.inferred_group.Goals as goal

-- opened, written, closed
pub returns-clause-written : goal.returns-clause-written
returns-clause-written c = λ e by knows.
    let x = c.args.env.now.text.now in
    let ts = c.args.env.now.tokens.now in
    let f = c.gone.ensures.before e in
    let g = c.close_group.ensures.before f in
    let h = c.close_form.ensures.before g in
    let i = c.silent_type.ensures.before h in
    let j = c.open-place.ensures.before i in
    let k = c.open-group.ensures.before j in
    inferred by x ts c.args.out.now c.dropped.new.self c.open-group.new.self c.open-place.new.self c.silent_type.new.out
    c.close_form.new.self c.close_group.new.self c.gone.new.self _ _ _ (c.dropped.ensures.written k x ts)
    (c.open-group.ensures.written j) (c.open-group.ensures.place j) (c.open-place.ensures.written i)
    (c.open-place.ensures.place i)
    (c.open-place.ensures.state ∙ (c.open-group.ensures.state ∙ c.dropped.ensures.state))
    (c.silent_type.ensures.written h by knows) (c.close_form.ensures.written g) (c.close_group.ensures.written f)
    (c.gone.ensures.written e x ts)
    (c.gone.ensures.state ∙ (c.close_group.ensures.state ∙ c.close_form.ensures.state))
