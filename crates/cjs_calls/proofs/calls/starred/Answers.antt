use Rattle.es_syntax.specs.Held.{held, valued}
use Rattle.cjs_calls.proofs.Answered.{on_ok}
use Rattle.cjs_calls.proofs.CallForms.{starred_two, starred_more}
use Rattle.cjs_calls.proofs.calls.starred.Goals as goal

pub returns-in-Some-split-2 : goal.returns-in-Some-split-2
returns-in-Some-split-2 c =
    let x = c.args.text.now in
    let ts = c.args.tokens.now in
    starred_more ts c.args.found.now (held x ts c.args.args.now.entries.now) (valued x ts c.in-Some.first)
    (held x ts c.in-Some.rest.entries.now) (valued x ts c.in-Some-split.second)
    (held x ts c.in-Some-split.rest.entries.now) (valued x ts c.in-Some-split-2.field-0.0)
    (held x ts c.in-Some-split-2.field-0.1.entries.now) (c.in-Some.ensures.value x ts)
    (c.in-Some-split.ensures.value x ts) (c.in-Some-split-2.ensures.value x ts)

pub returns-in-None-split-2 : goal.returns-in-None-split-2
returns-in-None-split-2 c =
    let x = c.args.text.now in
    let ts = c.args.tokens.now in
    on_ok c.star_two.result (λ q.
    starred_two ts c.args.found.now c.star_two.new.found (held x ts c.args.args.now.entries.now)
    (valued x ts c.in-Some.first) (held x ts c.in-Some.rest.entries.now) (valued x ts c.in-Some-split.second)
    (held x ts c.in-Some-split.rest.entries.now) (c.in-Some.ensures.value x ts) (c.in-Some-split.ensures.value x ts)
    (c.in-None-split-2.ensures.value x ts) q) c.star_two.ensures
