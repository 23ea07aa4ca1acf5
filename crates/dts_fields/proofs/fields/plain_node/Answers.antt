use Rattle.std.proofs.Common.{◌∙◌}
use Rattle.es_syntax.specs.Held.{held}
use Rattle.dts_fields.proofs.FieldLemmas.{plain_put}
use Rattle.dts_fields.proofs.fields.plain_node.Goals as goal

-- opened, written, closed
pub returns-clause-written : goal.returns-clause-written
returns-clause-written c = λ e by knows o told.
    let x = c.args.env.now.text.now in
    let ts = c.args.env.now.tokens.now in
    let f = c.close.ensures.before e in
    let g = c.value_group.ensures.before f in
    let h = c.write_key.ensures.before g in
    let i = c.keep_part.ensures.before h in
    plain_put by x ts c.args.out.now c.open-place.new.self c.keep_part.new.out c.write_key.new.out c.value_group.new.out
    c.close.new.self _ _ _ (held x ts c.args.parts.now.entries.now) (held x ts c.group_at.result.entries.now) o
    (c.open-place.ensures.written i) (c.open-place.ensures.place i) (c.keep_part.ensures.written h x ts)
    (c.write_key.ensures.written g x ts o told)
    (c.write_key.ensures.state ∙ (c.keep_part.ensures.state ∙ c.open-place.ensures.state))
    (c.group_at.ensures.value x ts) (c.value_group.ensures.written f by knows) (c.close.ensures.written e)
    c.close.ensures.state
