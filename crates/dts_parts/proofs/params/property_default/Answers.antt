use Rattle.es_syntax.specs.Held.{held, valued}
use Rattle.es_syntax.specs.Roles.{expr_in}
use Rattle.std.proofs.Common.{◌∙◌}
use Rattle.dts_parts.proofs.ParamLemmas.{default_property}
use Rattle.dts_parts.proofs.params.property_default.Goals as goal

-- opened, written, closed
pub returns-clause-written : goal.returns-clause-written
returns-clause-written c = λ e by knows changes.
    let x = c.args.env.now.text.now in
    let ts = c.args.env.now.tokens.now in
    let f = c.close_node.ensures.before e in
    let g = c.default_tail.ensures.before f in
    let h = c.kept_group.ensures.before g in
    default_property by x ts c.args.out.now c.open-place.new.self c.kept_group.new.out c.default_tail.new.out
    c.close_node.new.self _ c.args.from c.args.to _ (valued x ts c.args.name.now)
    (held x ts c.args.mark.now.entries.now) (held x ts c.args.ty.now.entries.now)
    (expr_in (valued x ts c.args.right.now)) changes (c.open-place.ensures.written h)
    (c.open-place.ensures.place h) (c.kept_group.ensures.written g x ts)
    (c.kept_group.ensures.state ∙ c.open-place.ensures.state) (c.default_tail.ensures.written f by knows)
    (c.close_node.ensures.written e) c.close_node.ensures.state
