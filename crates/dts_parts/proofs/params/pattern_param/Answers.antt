use Rattle.es_syntax.specs.Held.{valued}
use Rattle.dts_parts.proofs.ParamLemmas.{array_alone, default_pattern, kept_pattern, object_alone, rest_alone, target_alone}
use Rattle.dts_parts.proofs.params.pattern_param.Goals as goal

pub returns-in-Some-Array-clause-written : goal.returns-in-Some-Array-clause-written
returns-in-Some-Array-clause-written c = λ e by knows is.
    let x = c.args.env.now.text.now in
    let ts = c.args.env.now.tokens.now in
    kept_pattern by x ts c.args.out.now c.keep_there.new.self _ (valued x ts c.args.node.now) _ is
    (array_alone by x ts (valued x ts c.args.node.now) _ _ _
    (rw c.in-Some-Array.field-0-is at (c.in-Some-Array.ensures.form x ts)))
    (c.keep_there.ensures.written e x ts) c.keep_there.ensures.state

pub returns-in-Some-Object-clause-written : goal.returns-in-Some-Object-clause-written
returns-in-Some-Object-clause-written c = λ e by knows is.
    let x = c.args.env.now.text.now in
    let ts = c.args.env.now.tokens.now in
    kept_pattern by x ts c.args.out.now c.keep_there-in-Some-Object.new.self _ (valued x ts c.args.node.now) _ is
    (object_alone by x ts (valued x ts c.args.node.now) _ _
    (rw c.in-Some-Object.field-0-is at (c.in-Some-Object.ensures.form x ts)))
    (c.keep_there-in-Some-Object.ensures.written e x ts) c.keep_there-in-Some-Object.ensures.state

pub returns-in-Some-Rest-clause-written : goal.returns-in-Some-Rest-clause-written
returns-in-Some-Rest-clause-written c = λ e by knows is.
    let x = c.args.env.now.text.now in
    let ts = c.args.env.now.tokens.now in
    kept_pattern by x ts c.args.out.now c.keep_there-in-Some-Rest.new.self _ (valued x ts c.args.node.now) _ is
    (rest_alone by x ts (valued x ts c.args.node.now) _ _
    (rw c.in-Some-Rest.field-0-is at (c.in-Some-Rest.ensures.form x ts)))
    (c.keep_there-in-Some-Rest.ensures.written e x ts) c.keep_there-in-Some-Rest.ensures.state

pub returns-in-Some-Target-clause-written : goal.returns-in-Some-Target-clause-written
returns-in-Some-Target-clause-written c = λ e by knows is.
    let x = c.args.env.now.text.now in
    let ts = c.args.env.now.tokens.now in
    kept_pattern by x ts c.args.out.now c.keep_there-in-Some-Target.new.self _ (valued x ts c.args.node.now) _ is
    (target_alone by x ts (valued x ts c.args.node.now) _
    (rw c.in-Some-Target.field-0-is at (c.in-Some-Target.ensures.form x ts)))
    (c.keep_there-in-Some-Target.ensures.written e x ts) c.keep_there-in-Some-Target.ensures.state

pub returns-in-Some-Default-clause-written : goal.returns-in-Some-Default-clause-written
returns-in-Some-Default-clause-written c = λ e by knows is.
    let x = c.args.env.now.text.now in
    let ts = c.args.env.now.tokens.now in
    c.default_param.ensures.written e by knows _
    (default_pattern by x ts (valued x ts c.args.it.now) (valued x ts c.args.node.now) _ _ _ _ is
    (rw c.in-Some-Default.field-0-is at (c.in-Some-Default.ensures.form x ts)))
