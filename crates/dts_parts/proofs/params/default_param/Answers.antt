use Rattle.es_syntax.specs.Held.{valued}
use Rattle.dts_parts.proofs.ParamLemmas.{assign_other, default_is, default_kept, rest_other, target_other}
use Rattle.dts_parts.proofs.params.default_param.Goals as goal

pub returns-in-Some-Ident-clause-written : goal.returns-in-Some-Ident-clause-written
returns-in-Some-Ident-clause-written c = λ e by knows span is.
    let x = c.args.env.now.text.now in
    let ts = c.args.env.now.tokens.now in
    default_is by x ts c.args.out.now c.default_own.new.out (valued x ts c.args.it.now) _ span _ _ is
    (c.default_own.ensures.written e by knows span)

pub returns-in-Some-Array-clause-written : goal.returns-in-Some-Array-clause-written
returns-in-Some-Array-clause-written c = λ e by knows span is.
    let x = c.args.env.now.text.now in
    let ts = c.args.env.now.tokens.now in
    default_is by x ts c.args.out.now c.default_own-in-Some-Array.new.out (valued x ts c.args.it.now) _ span _ _ is
    (c.default_own-in-Some-Array.ensures.written e by knows span)

pub returns-in-Some-Object-clause-written : goal.returns-in-Some-Object-clause-written
returns-in-Some-Object-clause-written c = λ e by knows span is.
    let x = c.args.env.now.text.now in
    let ts = c.args.env.now.tokens.now in
    default_is by x ts c.args.out.now c.default_own-in-Some-Object.new.out (valued x ts c.args.it.now) _ span _ _ is
    (c.default_own-in-Some-Object.ensures.written e by knows span)

pub returns-in-Some-Rest-clause-written : goal.returns-in-Some-Rest-clause-written
returns-in-Some-Rest-clause-written c = λ e by knows span is.
    let x = c.args.env.now.text.now in
    let ts = c.args.env.now.tokens.now in
    default_kept by x ts c.args.out.now c.keep_there.new.self (valued x ts c.args.it.now) _ span _ _ is
    (rest_other by x ts (valued x ts c.args.left.now) _ _
    (rw c.in-Some-Rest.field-0-is at (c.in-Some-Rest.ensures.form x ts)))
    (c.keep_there.ensures.written e x ts) c.keep_there.ensures.state

pub returns-in-Some-Default-clause-written : goal.returns-in-Some-Default-clause-written
returns-in-Some-Default-clause-written c = λ e by knows span is.
    let x = c.args.env.now.text.now in
    let ts = c.args.env.now.tokens.now in
    default_kept by x ts c.args.out.now c.keep_there-in-Some-Default.new.self (valued x ts c.args.it.now) _ span _ _ is
    (assign_other by x ts (valued x ts c.args.left.now) _ _ _
    (rw c.in-Some-Default.field-0-is at (c.in-Some-Default.ensures.form x ts)))
    (c.keep_there-in-Some-Default.ensures.written e x ts) c.keep_there-in-Some-Default.ensures.state

pub returns-in-Some-Target-clause-written : goal.returns-in-Some-Target-clause-written
returns-in-Some-Target-clause-written c = λ e by knows span is.
    let x = c.args.env.now.text.now in
    let ts = c.args.env.now.tokens.now in
    default_kept by x ts c.args.out.now c.keep_there-in-Some-Target.new.self (valued x ts c.args.it.now) _ span _ _ is
    (target_other by x ts (valued x ts c.args.left.now) _
    (rw c.in-Some-Target.field-0-is at (c.in-Some-Target.ensures.form x ts)))
    (c.keep_there-in-Some-Target.ensures.written e x ts) c.keep_there-in-Some-Target.ensures.state
