use Rattle.dts_fields.proofs.FieldLemmas.{value_none, value_there}
use Rattle.dts_fields.proofs.fields.value_group.Goals as goal

pub returns-in-Some-clause-written : goal.returns-in-Some-clause-written
returns-in-Some-clause-written c = λ e by knows.
    let x = c.args.env.now.text.now in
    let ts = c.args.env.now.tokens.now in
    value_there by x ts c.args.out.now c.inferred_group.new.out _ _ _ (c.in-Some.ensures.value x ts)
    (c.inferred_group.ensures.written e by knows)

pub returns-in-None-clause-written : goal.returns-in-None-clause-written
returns-in-None-clause-written c = λ e by knows.
    let x = c.args.env.now.text.now in
    let ts = c.args.env.now.tokens.now in
    value_none by x ts c.args.out.now c.absent.new.self _ (c.in-None.ensures.value x ts) c.absent.ensures.state
    (c.absent.ensures.written e x ts)
