use Rattle.dts_items.proofs.DeclLemmas.{cleared, stays_declared}
use Rattle.dts_items.proofs.decls.declared_variables.Goals as goal

pub returns-then-top-clause-written : goal.returns-then-top-clause-written
returns-then-top-clause-written c = λ e by knows.
    let x = c.args.env.now.text.now in
    let ts = c.args.env.now.tokens.now in
    stays_declared by x ts c.args.top c.args.out.now c.declared_variables_node.new.out _ c.if-top.true
    (c.declared_variables_node.ensures.written e by knows)

pub returns-else-top-clause-written : goal.returns-else-top-clause-written
returns-else-top-clause-written c = λ e by knows.
    let x = c.args.env.now.text.now in
    let ts = c.args.env.now.tokens.now in
    let f = c.close.ensures.before e in
    let g = c.declared_variables_node-else-top.ensures.before f in
    cleared by x ts c.args.top c.args.out.now c.open-place.new.self c.declared_variables_node-else-top.new.out
    c.close.new.self
    _ c.args.from c.args.to _ c.if-top.false (c.open-place.ensures.written g) (c.open-place.ensures.place g)
    c.open-place.ensures.state (c.declared_variables_node-else-top.ensures.written f by knows)
    (c.close.ensures.written e) c.close.ensures.state
