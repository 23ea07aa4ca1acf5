use Rattle.es_lowering.specs.Value.{group, is_there}
use Rattle.es_lowering.specs.Texts.{span_of}
use Rattle.es_lowering.specs.Functions.{plain}
use Rattle.es_lowering.specs.TypedParts.{modifiers_in}
use Rattle.es_syntax.specs.Held.{held, valued}
use Rattle.es_syntax.specs.Roles.{signature_in}
use Rattle.dts_members.proofs.TypedLemmas.{typed_there}
use Rattle.dts_members.proofs.typed_methods.typed_up_to.Goals as goal

pub returns-in-Some-end_of_body-clause-written : goal.returns-in-Some-end_of_body-clause-written
returns-in-Some-end_of_body-clause-written c = λ e b by knows kind a g same is key told.
    let x = c.args.env.now.text.now in
    let ts = c.args.env.now.tokens.now in
    typed_there by x ts c.args.out.now c.typed_node.new.out kind a g
    (is_there (group (held x ts c.args.of.now.head.entries.now) 1))
    (span_of ts c.args.it.now.from c.args.it.now.to) key
    (modifiers_in ts plain (group (held x ts c.args.it.now.parts.entries.now) 0))
    (signature_in (valued x ts c.args.of.now.signature)) b (valued x ts c.args.of.now.signature)
    (held x ts c.group.result.entries.now) (valued x ts c.args.of.now.body) _ _ _ (c.in-Some.ensures x ts)
    (c.group.ensures.value x ts) (c.in-Some-end_of_body.ensures x ts)
    (c.typed_node.ensures.written e b by knows kind a g same is key told)
