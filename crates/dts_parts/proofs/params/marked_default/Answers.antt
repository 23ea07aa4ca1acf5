use Rattle.es_syntax.specs.Held.{held, valued}
use Rattle.es_syntax.specs.Roles.{expr_in}
use Rattle.dts_parts.proofs.ParamLemmas.{default_marked}
use Rattle.dts_parts.proofs.params.marked_default.Goals as goal

-- opened, written, closed
pub returns-clause-written : goal.returns-clause-written
returns-clause-written c = λ e by knows.
    let x = c.args.env.now.text.now in
    let ts = c.args.env.now.tokens.now in
    let f = c.close_node.ensures.before e in
    let g = c.default_tail.ensures.before f in
    default_marked by x ts c.args.out.now c.open-place.new.self c.default_tail.new.out c.close_node.new.self _
    c.args.from
    c.args.to (valued x ts c.args.name.now) (held x ts c.args.mark.now.entries.now)
    (held x ts c.args.ty.now.entries.now) (expr_in (valued x ts c.args.right.now)) (c.open-place.ensures.written g)
    (c.open-place.ensures.place g) c.open-place.ensures.state
    (c.default_tail.ensures.written f by knows) (c.close_node.ensures.written e) c.close_node.ensures.state
