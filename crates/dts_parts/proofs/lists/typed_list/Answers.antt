use Rattle.std.proofs.Common.{◌∙◌}
use Rattle.es_syntax.specs.Held.{held}
use Rattle.dts_parts.proofs.ListLemmas.{typed_list}
use Rattle.dts_parts.proofs.lists.typed_list.Goals as goal

-- opened, written, closed
pub returns-clause-written : goal.returns-clause-written
returns-clause-written c = λ e by knows.
    let x = c.args.env.now.text.now in
    let ts = c.args.env.now.tokens.now in
    let f = c.close_node.ensures.before e in
    let g = c.keep_part.ensures.before f in
    let h = c.close_group.ensures.before g in
    let i = c.all_params.ensures.before h in
    let j = c.open-group.ensures.before i in
    typed_list by x ts c.args.out.now c.open-place.new.self c.open-group.new.self c.all_params.new.out
    c.close_group.new.self
    c.keep_part.new.out c.close_node.new.self _ _ c.args.from c.args.to (held x ts c.args.parts.now.entries.now) _
    (c.group_at.ensures.value x ts) (c.open-place.ensures.written j) (c.open-place.ensures.place j)
    (c.open-group.ensures.written i) (c.open-group.ensures.place i)
    (c.open-group.ensures.state ∙ c.open-place.ensures.state) (c.all_params.ensures.written h by knows)
    (c.close_group.ensures.written g) (c.keep_part.ensures.written f x ts) (c.close_node.ensures.written e)
    (c.close_node.ensures.state ∙ (c.keep_part.ensures.state ∙ c.close_group.ensures.state))
