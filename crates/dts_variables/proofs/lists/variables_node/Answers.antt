use Rattle.std.proofs.Common.{◌∙◌}
use Rattle.es_syntax.specs.Held.{held, valued}
use Rattle.dts_variables.proofs.ListLemmas.{variables_made}
use Rattle.dts_variables.proofs.lists.variables_node.Goals as goal

-- opened, written, closed
pub returns-in-Some-clause-written : goal.returns-in-Some-clause-written
returns-in-Some-clause-written c = λ e by knows.
    let x = c.args.env.now.text.now in
    let ts = c.args.env.now.tokens.now in
    let f = c.close_node.ensures.before e in
    let g = c.others.ensures.before f in
    let h = c.declarator.ensures.before g in
    let i = c.keep_part.ensures.before h in
    variables_made by x ts c.args.out.now c.open-place.new.self c.keep_part.new.out c.declarator.new.out
    c.others.new.out c.close_node.new.self _ c.args.from c.args.to (held x ts c.args.parts.now.entries.now)
    (valued x ts c.in-Some.first) _ (c.in-Some.ensures.value x ts) (c.group_at.ensures.value x ts)
    (c.open-place.ensures.written i) (c.open-place.ensures.place i) (c.keep_part.ensures.written h x ts)
    (c.keep_part.ensures.state ∙ c.open-place.ensures.state) (c.declarator.ensures.written g by knows)
    (c.others.ensures.written f by knows) (c.close_node.ensures.written e) c.close_node.ensures.state
