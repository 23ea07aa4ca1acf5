use Rattle.std.proofs.Common.{◌∙◌}
use Rattle.es_syntax.specs.Held.{held}
use Rattle.dts_names.specs.Names.{Knows}
use Rattle.dts_items.proofs.ProgramLemmas.{module_made}
use Rattle.dts_items.proofs.programs.module.Goals as goal

-- opened, written, closed
pub returns-clause-written : goal.returns-clause-written
returns-clause-written c = λ e by listed.
    let x = c.args.env.now.text.now in
    let ts = c.args.env.now.tokens.now in
    let f = c.close_node.ensures.before e in
    let g = c.close_group.ensures.before f in
    let h = c.items.ensures.before g in
    let i = c.open-group.ensures.before h in
    let j = c.keep_part.ensures.before i in
    module_made x ts by (Knows c.args.env.now) c.args.ranges.now listed.are c.args.out.now c.open-place.new.self
    c.keep_part.new.out c.open-group.new.self c.items.new.out c.close_group.new.self c.close_node.new.self _ _
    c.args.from c.args.to (held x ts c.args.parts.now.entries.now) _ (c.group_at.ensures.value x ts)
    (c.open-place.ensures.written j) (c.open-place.ensures.place j) (c.keep_part.ensures.written i x ts)
    (c.open-group.ensures.written h) (c.open-group.ensures.place h)
    (c.open-group.ensures.state ∙ (c.keep_part.ensures.state ∙ c.open-place.ensures.state))
    (λ env known are. c.items.ensures.items g env known (record { are = are })) (c.close_group.ensures.written f)
    (c.close_node.ensures.written e) (c.close_node.ensures.state ∙ c.close_group.ensures.state)
