use Rattle.std.proofs.Common.{◌∙◌}
use Rattle.es_lowering.specs.Texts.{span_of}
use Rattle.es_syntax.specs.Held.{held}
use Rattle.dts_members.proofs.ClassLemmas.{plain_class}
use Rattle.dts_members.proofs.classes.plain_class.Goals as goal

-- opened, written, closed
pub returns-clause-written : goal.returns-clause-written
returns-clause-written c = λ e by knows known.
    let x = c.args.env.now.text.now in
    let ts = c.args.env.now.tokens.now in
    let f = c.close_node.ensures.before e in
    let g = c.close_group.ensures.before f in
    let h = c.all_members.ensures.before g in
    let i = c.open-group.ensures.before h in
    let j = c.keep_part-2.ensures.before i in
    let k = c.keep_part.ensures.before j in
    plain_class by x ts c.args.out.now c.open-place.new.self c.keep_part.new.out c.keep_part-2.new.out
    c.open-group.new.self c.all_members.new.out c.close_group.new.self c.close_node.new.self _ _ c.args.it.now.from
    c.args.it.now.to (span_of ts c.args.it.now.from c.args.it.now.to) (held x ts c.args.it.now.parts.entries.now) _
    (c.group_at.ensures.value x ts) (c.open-place.ensures.written k) (c.open-place.ensures.place k)
    (c.keep_part.ensures.written j x ts) (c.keep_part-2.ensures.written i x ts) (c.open-group.ensures.written h)
    (c.open-group.ensures.place h)
    (c.open-group.ensures.state
    ∙ (c.keep_part-2.ensures.state ∙ (c.keep_part.ensures.state ∙ c.open-place.ensures.state)))
    (c.all_members.ensures.written g by knows known) (c.close_group.ensures.written f) (c.close_node.ensures.written e)
    (c.close_node.ensures.state ∙ c.close_group.ensures.state)
