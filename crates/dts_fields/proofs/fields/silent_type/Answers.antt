use Rattle.dts_fields.proofs.FieldLemmas.{silent_any, silent_found}
use Rattle.dts_fields.proofs.fields.silent_type.Goals as goal

pub returns-then-infer-clause-written : goal.returns-then-infer-clause-written
returns-then-infer-clause-written c = λ e by knows.
    silent_found by c.args.env.now.text.now c.args.env.now.tokens.now c.args.out.now c.infer.new.out c.infer.result _
    c.if-infer.true (c.infer.ensures.written e by knows)

pub returns-clause-written : goal.returns-clause-written
returns-clause-written c = λ e by knows.
    let x = c.args.env.now.text.now in
    let ts = c.args.env.now.tokens.now in
    silent_any by x ts c.args.out.now c.infer.new.out c.word.new.self c.infer.result _ c.if-infer.false
    (c.infer.ensures.written (c.word.ensures.before e) by knows) c.word.ensures.state (c.word.ensures.written e x ts)
