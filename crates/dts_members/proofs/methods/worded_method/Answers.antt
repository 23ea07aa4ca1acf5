use Rattle.es_lowering.specs.Texts.{span_of}
use Rattle.es_syntax.specs.Held.{held, valued}
use Rattle.dts_members.proofs.PlainLemmas.{plain_parts}
use Rattle.dts_members.proofs.methods.worded_method.Goals as goal

pub returns-in-Some-part-2-clause-written : goal.returns-in-Some-part-2-clause-written
returns-in-Some-part-2-clause-written c = λ e kind a g is by knows known.
    let x = c.args.env.now.text.now in
    let ts = c.args.env.now.tokens.now in
    plain_parts by x ts c.args.out.now c.keyed_method.new.out c.keyed_method.result kind a g
    (span_of ts c.args.it.now.from c.args.it.now.to) (held x ts c.args.it.now.parts.entries.now) 2
    (valued x ts c.in-Some.key) (valued x ts c.in-Some-part.params) (valued x ts c.in-Some-part-2.body)
    (c.in-Some.ensures.value x ts) (c.in-Some-part.ensures.value x ts) (c.in-Some-part-2.ensures.value x ts)
    (c.keyed_method.ensures.written e kind a g is by knows known)
