use Rattle.es_syntax.specs.Held.{valued}
use Rattle.es_syntax.specs.Roles.{param_in}
use Rattle.dts_parts.proofs.ParamLemmas.{default_parameter, kept_there, marked_form, property_form, this_stays}
use Rattle.dts_parts.proofs.params.param.Goals as goal

-- by the view
pub returns-in-Some-Default-clause-written : goal.returns-in-Some-Default-clause-written
returns-in-Some-Default-clause-written c = λ e by knows.
    let x = c.args.env.now.text.now in
    let ts = c.args.env.now.tokens.now in
    c.default_param.ensures.written e by knows _
    (default_parameter by x ts (valued x ts c.args.it.now) _ _ _
    (rw c.in-Some-Default.field-0-is at (c.in-Some-Default.ensures.form x ts)))

pub returns-in-Some-This-clause-written : goal.returns-in-Some-This-clause-written
returns-in-Some-This-clause-written c = λ e by knows.
    let x = c.args.env.now.text.now in
    let ts = c.args.env.now.tokens.now in
    kept_there by x ts c.args.out.now c.keep_there.new.self _ _
    (rw c.in-Some-This.field-0-is at (c.in-Some-This.ensures.form x ts))
    (c.keep_there.ensures.written e x ts) c.keep_there.ensures.state (this_stays by x ts _ _ _ _)

pub returns-in-Some-Property-clause-written : goal.returns-in-Some-Property-clause-written
returns-in-Some-Property-clause-written c = λ e by knows.
    let x = c.args.env.now.text.now in
    let ts = c.args.env.now.tokens.now in
    c.property_param.ensures.written e by knows _
    (property_form by x ts (param_in (valued x ts c.args.it.now)) _ _ _ _ _ _ _ _
    (rw c.in-Some-Property.field-0-is at (c.in-Some-Property.ensures.form x ts)))

pub returns-in-Some-Marked-clause-written : goal.returns-in-Some-Marked-clause-written
returns-in-Some-Marked-clause-written c = λ e by knows.
    let x = c.args.env.now.text.now in
    let ts = c.args.env.now.tokens.now in
    c.tailed_param.ensures.written e by knows _
    (marked_form by x ts (param_in (valued x ts c.args.it.now)) _ _ _ _ _ _ _
    (rw c.in-Some-Marked.field-0-is at (c.in-Some-Marked.ensures.form x ts)))
