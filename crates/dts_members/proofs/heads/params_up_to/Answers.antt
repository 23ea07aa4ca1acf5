use Rattle.std.proofs.Common.{◌∙◌}
use Rattle.dts_members.proofs.HeadLemmas.{params_up_to}
use Rattle.dts_members.proofs.heads.params_up_to.Goals as goal

-- opened, written, closed
pub returns-clause-written : goal.returns-clause-written
returns-clause-written c = λ e by knows.
    let x = c.args.env.now.text.now in
    let ts = c.args.env.now.tokens.now in
    let f = c.close_node.ensures.before e in
    let g = c.dropped.ensures.before f in
    let h = c.param_list.ensures.before g in
    params_up_to by x ts c.args.out.now c.open-place.new.self c.param_list.new.out c.dropped.new.self
    c.close_node.new.self _ c.args.from c.args.to _ (c.open-place.ensures.written h) (c.open-place.ensures.place h)
    c.open-place.ensures.state (c.param_list.ensures.written g by knows) (c.dropped.ensures.written f x ts)
    (c.close_node.ensures.written e) (c.close_node.ensures.state ∙ c.dropped.ensures.state)
