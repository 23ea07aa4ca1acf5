use Rattle.std.proofs.Common.{◌∙◌}
use Rattle.es_syntax.specs.Held.{held, valued}
use Rattle.es_syntax.specs.Roles.{signature_in}
use Rattle.dts_members.proofs.TypedLemmas.{group_made}
use Rattle.dts_members.proofs.typed_methods.head_group.Goals as goal

-- opened, written, closed
pub returns-clause-written : goal.returns-clause-written
returns-clause-written c = λ e by knows key told.
    let x = c.args.env.now.text.now in
    let ts = c.args.env.now.tokens.now in
    let f = c.close_group.ensures.before e in
    let g = c.signature_up_to.ensures.before f in
    let h = c.keep_part.ensures.before g in
    let i = c.write_key.ensures.before h in
    group_made by x ts c.args.setter c.args.out.now c.open-group.new.self c.write_key.new.out c.keep_part.new.out
    c.signature_up_to.new.out c.close_group.new.self _ _ c.args.to (held x ts c.args.of.now.head.entries.now) key
    (signature_in (valued x ts c.args.of.now.signature)) (c.open-group.ensures.written i)
    (c.open-group.ensures.place i) (c.write_key.ensures.written h x ts key told) (c.keep_part.ensures.written g x ts)
    (c.keep_part.ensures.state ∙ (c.write_key.ensures.state ∙ c.open-group.ensures.state))
    (c.signature_up_to.ensures.written f by knows) (c.close_group.ensures.written e) c.close_group.ensures.state
