use Rattle.dts_items.proofs.DeclLemmas.{ended_changed}
use Rattle.dts_items.proofs.decls.variable_declaration.Goals as goal
use Rattle.std.proofs.Common.{◌∙◌}

-- opened, written, closed
pub returns-clause-written : goal.returns-clause-written
returns-clause-written c = λ e by knows.
    let x = c.args.env.now.text.now in
    let ts = c.args.env.now.tokens.now in
    let f = c.close_node.ensures.before e in
    let g = c.keep_others.ensures.before f in
    let h = c.variables.ensures.before g in
    ended_changed by x ts c.args.out.now c.open-place.new.self c.variables.new.out c.keep_others.new.out
    c.close_node.new.self _ c.args.from c.args.to _ _ (c.open-place.ensures.written h) (c.open-place.ensures.place h)
    c.open-place.ensures.state (c.variables.ensures.written g by knows) (c.keep_others.ensures.written f x ts)
    (c.close_node.ensures.written e) (c.close_node.ensures.state ∙ c.keep_others.ensures.state)
