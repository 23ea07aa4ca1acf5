use Rattle.es_lowering.specs.Value.{group, is_there}
use Rattle.es_lowering.specs.Texts.{span_of}
use Rattle.es_syntax.specs.Held.{held, valued}
use Rattle.es_syntax.specs.Roles.{params_in}
use Rattle.dts_members.proofs.PlainLemmas.{plain_there}
use Rattle.dts_members.proofs.methods.method_up_to.Goals as goal

pub returns-in-Some-place-clause-written : goal.returns-in-Some-place-clause-written
returns-in-Some-place-clause-written c = λ e b by knows kind a g is key told.
    let x = c.args.env.now.text.now in
    let ts = c.args.env.now.tokens.now in
    plain_there by x ts c.args.out.now c.method_node.new.out kind a g
    (is_there (group (held x ts c.args.it.now.parts.entries.now) 0)) (span_of ts c.args.it.now.from c.args.it.now.to)
    key
    (params_in (valued x ts c.args.of.now.params)) b (valued x ts c.args.of.now.params)
    (valued x ts c.args.of.now.body) _ _ _ _ (c.in-Some.ensures x ts) (c.in-Some-place.ensures x ts)
    (c.method_node.ensures.written e b by knows kind a g is key told)
