use Rattle.std.proofs.Common.{◌∙◌}
use Rattle.es_syntax.specs.Held.{held, valued}
use Rattle.dts_members.proofs.HeadLemmas.{signature_made}
use Rattle.dts_members.proofs.heads.signature_node.Goals as goal

-- opened, written, closed
pub returns-in-Some-clause-written : goal.returns-in-Some-clause-written
returns-in-Some-clause-written c = λ e by knows.
    let x = c.args.env.now.text.now in
    let ts = c.args.env.now.tokens.now in
    let f = c.close_node.ensures.before e in
    let g = c.result_part.ensures.before f in
    let h = c.param_list.ensures.before g in
    let i = c.keep_part.ensures.before h in
    signature_made by x ts c.args.setter c.args.out.now c.open-place.new.self c.keep_part.new.out c.param_list.new.out
    c.result_part.new.out c.close_node.new.self _ c.args.it.now.from c.args.to
    (held x ts c.args.it.now.parts.entries.now) (valued x ts c.in-Some.list) (c.in-Some.ensures.value x ts)
    (c.open-place.ensures.written i) (c.open-place.ensures.place i) (c.keep_part.ensures.written h x ts)
    (c.keep_part.ensures.state ∙ c.open-place.ensures.state) (c.param_list.ensures.written g by knows)
    (c.result_part.ensures.written f x ts by) (c.close_node.ensures.written e)
    (c.close_node.ensures.state ∙ c.result_part.ensures.state)
