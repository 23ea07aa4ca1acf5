use Rattle.std.proofs.Common.{◌∙◌}
use Rattle.es_lowering.specs.Value.{first_of, group, is_there}
use Rattle.es_syntax.specs.Held.{held, valued}
use Rattle.es_syntax.specs.Roles.{signature_in}
use Rattle.dts_members.proofs.TypedLemmas.{typed_node}
use Rattle.dts_members.proofs.typed_methods.typed_node.Goals as goal

-- opened, written, closed
pub returns-clause-written : goal.returns-clause-written
returns-clause-written c = λ e b by knows kind a g same is key told.
    let x = c.args.env.now.text.now in
    let ts = c.args.env.now.tokens.now in
    let f = c.close_node.ensures.before e in
    let h = c.bodyless.ensures.before f in
    let i = c.head_group.ensures.before h in
    let j = c.front.ensures.before i in
    typed_node by x ts c.args.sort.label c.args.sort.setter c.args.sort.worded kind a g
    (held x ts c.args.it.now.parts.entries.now) same is c.args.out.now c.open-place.new.self c.front.new.out
    c.head_group.new.out c.bodyless.new.out c.close_node.new.self _ c.args.it.now.from c.args.it.now.to
    (first_of (valued x ts c.args.of.now.signature)) c.args.to
    (is_there (group (held x ts c.args.of.now.head.entries.now) 1)) key
    (signature_in (valued x ts c.args.of.now.signature)) b (c.open-place.ensures.written j)
    (c.open-place.ensures.place j) (c.front.ensures.written i x ts) (c.front.ensures.state ∙ c.open-place.ensures.state)
    (c.head_group.ensures.written h by knows key told) (c.bodyless.ensures.written f x ts)
    (c.close_node.ensures.written e) (c.close_node.ensures.state ∙ c.bodyless.ensures.state)
