use Rattle.es_lowering.specs.Texts.{span_of}
use Rattle.dts_member_keys.proofs.LookLemmas.{asserted_sees}
use Rattle.dts_member_keys.proofs.looks.cast_look.Goals as goal

pub returns-in-Some-TypedBinary-clause-tells : goal.returns-in-Some-TypedBinary-clause-tells
returns-in-Some-TypedBinary-clause-tells c = λ by knows.
    let x = c.args.env.now.text.now in
    let ts = c.args.env.now.tokens.now in
    rw (c.in-Some-TypedBinary.ensures.form x ts, c.in-Some-TypedBinary.field-0-is)
    (c.turned_look.ensures.tells by x ts (span_of ts c.args.it.now.from c.args.it.now.to))

pub returns-in-Some-TypeAssertion-clause-tells : goal.returns-in-Some-TypeAssertion-clause-tells
returns-in-Some-TypeAssertion-clause-tells c = λ by knows.
    let x = c.args.env.now.text.now in
    let ts = c.args.env.now.tokens.now in
    rw (c.in-Some-TypeAssertion.ensures.form x ts, c.in-Some-TypeAssertion.field-0-is) (asserted_sees by x ts _ _ _)
