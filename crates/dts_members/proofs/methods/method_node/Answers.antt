use Rattle.std.proofs.Common.{◌∙◌}
use Rattle.es_syntax.specs.Held.{held, valued}
use Rattle.es_syntax.specs.Roles.{params_in}
use Rattle.dts_members.proofs.PlainLemmas.{plain_node}
use Rattle.dts_members.proofs.methods.method_node.Goals as goal

-- opened, written, closed
pub returns-clause-written : goal.returns-clause-written
returns-clause-written c = λ e b by knows kind a g is key told.
    let x = c.args.env.now.text.now in
    let ts = c.args.env.now.tokens.now in
    let f = c.close.ensures.before e in
    let h = c.params_up_to.ensures.before f in
    let i = c.write_key.ensures.before h in
    let j = c.keep_part.ensures.before i in
    plain_node by x ts c.args.of.now.form kind a g is c.args.out.now c.open-place.new.self c.keep_part.new.out
    c.write_key.new.out c.params_up_to.new.out c.close.new.self _ c.args.it.now.from c.args.it.now.to c.args.from
    c.args.to (held x ts c.args.it.now.parts.entries.now) key (params_in (valued x ts c.args.of.now.params)) b
    (c.open-place.ensures.written j) (c.open-place.ensures.place j) (c.keep_part.ensures.written i x ts)
    (c.write_key.ensures.written h x ts key told)
    (c.write_key.ensures.state ∙ (c.keep_part.ensures.state ∙ c.open-place.ensures.state))
    (c.params_up_to.ensures.written f by knows) (c.close.ensures.written e) c.close.ensures.state
