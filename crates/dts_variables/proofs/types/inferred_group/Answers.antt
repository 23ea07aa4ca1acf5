use Rattle.std.proofs.Common.{◌∙◌}
use Rattle.dts_variables.proofs.TypeLemmas.{inferred}
use Rattle.dts_variables.proofs.types.inferred_group.Goals as goal

-- opened, written, closed
pub returns-clause-written : goal.returns-clause-written
returns-clause-written c = λ e by knows.
    let x = c.args.env.now.text.now in
    let ts = c.args.env.now.tokens.now in
    let f = c.close_group.ensures.before e in
    let g = c.close.ensures.before f in
    let h = c.infer_or_any.ensures.before g in
    let i = c.open-place.ensures.before h in
    inferred x ts by c.args.out.now c.open-group.new.self c.open-place.new.self c.infer_or_any.new.out c.close.new.self
    c.close_group.new.self _ _ c.args.to c.args.range _ (c.open-group.ensures.written i)
    (c.open-group.ensures.place i) (c.open-place.ensures.written h) (c.open-place.ensures.place h)
    (c.open-place.ensures.state ∙ c.open-group.ensures.state) (c.infer_or_any.ensures.written g by knows)
    (c.close.ensures.written f) (c.close_group.ensures.written e) (c.close_group.ensures.state ∙ c.close.ensures.state)
