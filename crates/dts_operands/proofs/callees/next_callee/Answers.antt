use Rattle.es_lowering.specs.Texts.{span_of}
use Rattle.dts_operands.proofs.CalleeLemmas.{call_leads, typed_call_leads, non_null_leads}
use Rattle.dts_operands.proofs.callees.next_callee.Goals as goal

pub returns-in-Some-Call-clause-leads : goal.returns-in-Some-Call-clause-leads
returns-in-Some-Call-clause-leads c = λ by.
    let x = c.args.env.now.text.now in
    let ts = c.args.env.now.tokens.now in
    rw (c.in-Some-Call.ensures.form x ts, c.in-Some-Call.field-0-is)
    (call_leads by x ts c.args.before c.call_callee.result (span_of ts c.args.post.now.from c.args.post.now.to) _
    (λ ty. c.call_callee.ensures.leads by x ts (span_of ts c.args.post.now.from c.args.post.now.to) ty))

pub returns-in-Some-TypedCall-clause-leads : goal.returns-in-Some-TypedCall-clause-leads
returns-in-Some-TypedCall-clause-leads c = λ by.
    let x = c.args.env.now.text.now in
    let ts = c.args.env.now.tokens.now in
    rw (c.in-Some-TypedCall.ensures.form x ts, c.in-Some-TypedCall.field-0-is)
    (typed_call_leads by x ts c.args.before c.call_callee-in-Some-TypedCall.result
    (span_of ts c.args.post.now.from c.args.post.now.to) _ _
    (λ ty. c.call_callee-in-Some-TypedCall.ensures.leads by x ts
    (span_of ts c.args.post.now.from c.args.post.now.to) ty))

pub returns-in-Some-NonNull-clause-leads : goal.returns-in-Some-NonNull-clause-leads
returns-in-Some-NonNull-clause-leads c = λ by.
    let x = c.args.env.now.text.now in
    let ts = c.args.env.now.tokens.now in
    rw (c.in-Some-NonNull.ensures.form x ts, c.in-Some-NonNull.field-0-is)
    (non_null_leads by x ts c.args.before (span_of ts c.args.post.now.from c.args.post.now.to))
