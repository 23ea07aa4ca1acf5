use Rattle.es_syntax.specs.Held.{held, valued}
use Rattle.dts_parts.proofs.ParamLemmas.{any_marked}
use Rattle.dts_parts.proofs.params.marked_any.Goals as goal

-- opened, written, closed
pub returns-clause-written : goal.returns-clause-written
returns-clause-written c = λ e by.
    let x = c.args.env.now.text.now in
    let ts = c.args.env.now.tokens.now in
    let f = c.close_node.ensures.before e in
    let g = c.any_tail.ensures.before f in
    any_marked by x ts c.args.out.now c.open-place.new.self c.any_tail.new.out c.close_node.new.self _ c.args.from
    c.args.to c.args.at (valued x ts c.args.name.now) (held x ts c.args.mark.now.entries.now)
    (c.open-place.ensures.written g) (c.open-place.ensures.place g) c.open-place.ensures.state
    (c.any_tail.ensures.written f by) (c.close_node.ensures.written e) c.close_node.ensures.state
