use Rattle.std.proofs.Common.{◌∙◌}
use Rattle.dts_items.proofs.DeclLemmas.{variables_node}
use Rattle.dts_items.proofs.decls.declared_variables_node.Goals as goal

-- opened, written, closed
pub returns-clause-written : goal.returns-clause-written
returns-clause-written c = λ e by knows.
    let x = c.args.env.now.text.now in
    let ts = c.args.env.now.tokens.now in
    let f = c.close_node.ensures.before e in
    let g = c.keep_others.ensures.before f in
    let h = c.variables.ensures.before g in
    let i = c.drop_word.ensures.before h in
    variables_node by x ts c.args.out.now c.open-place.new.self c.drop_word.new.out c.variables.new.out
    c.keep_others.new.out c.close_node.new.self _ c.args.from c.args.to _ _ (c.open-place.ensures.written i)
    (c.open-place.ensures.place i) (c.drop_word.ensures.written h x ts)
    (c.drop_word.ensures.state ∙ c.open-place.ensures.state) (c.variables.ensures.written g by knows)
    (c.keep_others.ensures.written f x ts) (c.close_node.ensures.written e)
    (c.close_node.ensures.state ∙ c.keep_others.ensures.state)
