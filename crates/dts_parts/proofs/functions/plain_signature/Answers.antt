use Rattle.std.proofs.Common.{◌∙◌}
use Rattle.dts_parts.proofs.FunctionLemmas.{plain_signature}
use Rattle.dts_parts.proofs.functions.plain_signature.Goals as goal

-- opened, written, closed
pub returns-clause-written : goal.returns-clause-written
returns-clause-written c = λ e by knows.
    let x = c.args.env.now.text.now in
    let ts = c.args.env.now.tokens.now in
    let f = c.close_node.ensures.before e in
    let g = c.absent-2.ensures.before f in
    let h = c.ruled_params.ensures.before g in
    let i = c.absent.ensures.before h in
    plain_signature by x ts c.args.out.now c.open-place.new.self c.absent.new.self c.ruled_params.new.out
    c.absent-2.new.self c.close_node.new.self _ c.args.from c.args.to c.args.ruled _ (c.open-place.ensures.written i)
    (c.open-place.ensures.place i) (c.absent.ensures.written h x ts)
    (c.absent.ensures.state ∙ c.open-place.ensures.state)
    (c.ruled_params.ensures.written g by knows) (c.absent-2.ensures.written f x ts) (c.close_node.ensures.written e)
    (c.close_node.ensures.state ∙ c.absent-2.ensures.state)
