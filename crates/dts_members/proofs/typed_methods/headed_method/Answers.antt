use Rattle.es_lowering.specs.Value.{as_group, group}
use Rattle.es_lowering.specs.Texts.{span_of}
use Rattle.es_syntax.specs.Held.{held, valued}
use Rattle.dts_members.proofs.TypedLemmas.{typed_parts}
use Rattle.dts_members.proofs.typed_methods.headed_method.Goals as goal

pub returns-in-Some-part-clause-written : goal.returns-in-Some-part-clause-written
returns-in-Some-part-clause-written c = λ e kind a g same is by knows known.
    let x = c.args.env.now.text.now in
    let ts = c.args.env.now.tokens.now in
    typed_parts by x ts c.args.out.now c.keyed_method.new.out c.keyed_method.result kind a g
    (span_of ts c.args.it.now.from c.args.it.now.to) (group (held x ts c.args.it.now.parts.entries.now) 0)
    (held x ts c.args.head.now.entries.now) (as_group (valued x ts c.args.body.now)) (valued x ts c.in-Some.key)
    (valued x ts c.in-Some-part.signature) (c.in-Some.ensures.value x ts) (c.in-Some-part.ensures.value x ts)
    (c.keyed_method.ensures.written e kind a g same is by knows known)
