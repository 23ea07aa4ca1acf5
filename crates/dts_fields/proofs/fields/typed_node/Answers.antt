use Rattle.std.proofs.Common.{◌∙◌}
use Rattle.es_syntax.specs.Held.{held}
use Rattle.dts_fields.proofs.FieldLemmas.{typed_put}
use Rattle.dts_fields.proofs.fields.typed_node.Goals as goal

-- opened, written, closed
pub returns-clause-written : goal.returns-clause-written
returns-clause-written c = λ e by knows o told.
    let x = c.args.env.now.text.now in
    let ts = c.args.env.now.tokens.now in
    let f = c.close_node.ensures.before e in
    let g = c.keep_part.ensures.before f in
    let h = c.absent.ensures.before g in
    let i = c.type_group.ensures.before h in
    let j = c.field_mark-end.ensures.before i in
    let k = c.write_key.ensures.before j in
    let m = c.undeclared.ensures.before k in
    typed_put by x ts c.args.out.now c.open-place.new.self c.undeclared.new.out c.write_key.new.out
    c.field_mark-end.new.out c.type_group.new.out c.absent.new.self c.keep_part.new.out c.close_node.new.self _ _ _
    (held x ts c.args.parts.now.entries.now) (held x ts c.group_at.result.entries.now) o
    (c.open-place.ensures.written m) (c.open-place.ensures.place m) (c.group_at.ensures.value x ts)
    (c.undeclared.ensures.written k x) (c.write_key.ensures.written j x ts o told)
    (c.field_mark-end.ensures.written i x)
    (c.field_mark-end.ensures.state ∙ (c.write_key.ensures.state ∙ (c.undeclared.ensures.state
    ∙ c.open-place.ensures.state)))
    (c.type_group.ensures.written h by knows) (c.absent.ensures.written g x ts) (c.keep_part.ensures.written f x ts)
    (c.close_node.ensures.written e)
    (c.close_node.ensures.state ∙ (c.keep_part.ensures.state ∙ c.absent.ensures.state))
