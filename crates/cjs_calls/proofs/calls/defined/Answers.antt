use Rattle.es_syntax.specs.Held.{held, valued}
use Rattle.cjs_calls.proofs.Answered.{on_ok}
use Rattle.cjs_calls.proofs.CallForms.{defined_one, defined_two, defined_three}
use Rattle.cjs_calls.proofs.calls.defined.Goals as goal

pub returns-in-Some-split-2 : goal.returns-in-Some-split-2
returns-in-Some-split-2 c =
    let x = c.args.text.now in
    let ts = c.args.tokens.now in
    on_ok c.define_by.result (λ q.
    defined_three ts c.args.found.now c.define_by.new.found (held x ts c.args.args.now.entries.now)
    (valued x ts c.in-Some.object) (held x ts c.in-Some.rest.entries.now) (valued x ts c.in-Some-split.name)
    (held x ts c.in-Some-split.rest.entries.now) (valued x ts c.in-Some-split-2.last)
    (held x ts c.in-Some-split-2.field-0-1.entries.now) (c.in-Some.ensures.value x ts)
    (c.in-Some-split.ensures.value x ts) (c.in-Some-split-2.ensures.value x ts) q) c.define_by.ensures

pub returns-in-None-split-2 : goal.returns-in-None-split-2
returns-in-None-split-2 c =
    let x = c.args.text.now in
    let ts = c.args.tokens.now in
    defined_two ts c.args.found.now (held x ts c.args.args.now.entries.now) (valued x ts c.in-Some.object)
    (held x ts c.in-Some.rest.entries.now) (valued x ts c.in-Some-split.name)
    (held x ts c.in-Some-split.rest.entries.now) (c.in-Some.ensures.value x ts) (c.in-Some-split.ensures.value x ts)
    (c.in-None-split-2.ensures.value x ts)

pub returns-in-None-split : goal.returns-in-None-split
returns-in-None-split c =
    let x = c.args.text.now in
    let ts = c.args.tokens.now in
    defined_one ts c.args.found.now (held x ts c.args.args.now.entries.now) (valued x ts c.in-Some.object)
    (held x ts c.in-Some.rest.entries.now) (c.in-Some.ensures.value x ts) (c.in-None-split.ensures.value x ts)
