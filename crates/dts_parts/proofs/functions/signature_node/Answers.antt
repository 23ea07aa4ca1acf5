use Rattle.std.proofs.Common.{◌∙◌}
use Rattle.es_syntax.specs.Held.{held, valued}
use Rattle.dts_parts.proofs.FunctionLemmas.{typed_signature_made}
use Rattle.dts_parts.proofs.functions.signature_node.Goals as goal

-- opened, written, closed
pub returns-in-Some-clause-written : goal.returns-in-Some-clause-written
returns-in-Some-clause-written c = λ e by knows.
    let x = c.args.env.now.text.now in
    let ts = c.args.env.now.tokens.now in
    let f = c.close_node.ensures.before e in
    let g = c.keep_part-in-Some.ensures.before f in
    let h = c.ruled_params.ensures.before g in
    let i = c.keep_part.ensures.before h in
    typed_signature_made by x ts c.args.out.now c.open-place.new.self c.keep_part.new.out c.ruled_params.new.out
    c.keep_part-in-Some.new.out c.close_node.new.self _ c.args.from c.args.to c.args.ruled
    (held x ts c.args.parts.now.entries.now) (valued x ts c.in-Some.it) (c.in-Some.ensures.value x ts)
    (c.open-place.ensures.written i) (c.open-place.ensures.place i) (c.keep_part.ensures.written h x ts)
    (c.keep_part.ensures.state ∙ c.open-place.ensures.state) (c.ruled_params.ensures.written g by knows)
    (c.keep_part-in-Some.ensures.written f x ts) (c.close_node.ensures.written e)
    (c.close_node.ensures.state ∙ c.keep_part-in-Some.ensures.state)
