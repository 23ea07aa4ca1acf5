use Rattle.es_syntax.specs.Held.{held, valued}
use Rattle.dts_parts.proofs.ListLemmas.{bracketed_label, bracketed_list, list_there, plain_label, typed_label}
use Rattle.dts_parts.proofs.lists.+lists.Goals as goal

-- opened, written, closed
pub bracketed_list-returns-in-Some-clause-written : goal.bracketed_list-returns-in-Some-clause-written
bracketed_list-returns-in-Some-clause-written t c = λ e by knows.
    let x = c.args.env.now.text.now in
    let ts = c.args.env.now.tokens.now in
    let f = c.close_node.ensures.before e in
    let g = c.param_list.ensures.before f in
    bracketed_list by x ts c.args.out.now c.open-place.new.self c.param_list.new.out c.close_node.new.self _ c.args.from
    c.args.to (held x ts c.args.parts.now.entries.now) (valued x ts c.in-Some.inner) (c.in-Some.ensures.value x ts)
    (c.open-place.ensures.written g) (c.open-place.ensures.place g) c.open-place.ensures.state
    (c.param_list.ensures.written f by knows) (c.close_node.ensures.written e) c.close_node.ensures.state

-- by its alternative
pub params_node-returns-in-Parameters-clause-written : goal.params_node-returns-in-Parameters-clause-written
params_node-returns-in-Parameters-clause-written t c = λ e by knows.
    let x = c.args.env.now.text.now in
    let ts = c.args.env.now.tokens.now in
    rw c.in-Parameters.is
    (plain_label by x ts c.args.out.now c.plain_list.new.out (held x ts c.args.parts.now.entries.now)
    (c.plain_list.ensures.written e by knows))

pub params_node-returns-in-TypedParameters-clause-written :
    goal.params_node-returns-in-TypedParameters-clause-written
params_node-returns-in-TypedParameters-clause-written t c = λ e by knows.
    let x = c.args.env.now.text.now in
    let ts = c.args.env.now.tokens.now in
    rw c.in-TypedParameters.is
    (typed_label by x ts c.args.out.now c.typed_list.new.out (held x ts c.args.parts.now.entries.now)
    (c.typed_list.ensures.written e by knows))

pub params_node-returns-in-Signature-clause-written : goal.params_node-returns-in-Signature-clause-written
params_node-returns-in-Signature-clause-written t c = λ e by knows.
    let x = c.args.env.now.text.now in
    let ts = c.args.env.now.tokens.now in
    rw c.in-Signature.is
    (bracketed_label by x ts c.args.out.now c.bracketed_list.new.out (held x ts c.args.parts.now.entries.now)
    (c.bracketed_list.ensures.written e by knows))

pub param_list-returns-in-Node-clause-written : goal.param_list-returns-in-Node-clause-written
param_list-returns-in-Node-clause-written t c = λ e by knows.
    let x = c.args.env.now.text.now in
    let ts = c.args.env.now.tokens.now in
    list_there by x ts c.args.out.now c.params_node.new.out c.args.it.now c.in-Node.label c.in-Node.is
    (c.params_node.ensures.written e by knows)
