use Rattle.std.proofs.Common.{◌∙◌}
use Rattle.dts_types.proofs.ParamLemmas.{simple_written}
use Rattle.dts_types.proofs.params.simple_param.Goals as goal

pub returns-clause-written : goal.returns-clause-written
returns-clause-written c = λ e by x.
    let ts = c.args.tokens.now in
    let f = c.close.ensures.before e in
    let g = c.absent-2.ensures.before f in
    let h = c.absent.ensures.before g in
    let i = c.pattern.ensures.before h in
    let j = c.gone.ensures.before i in
    simple_written by x ts c.args.out.now c.open-place.new.self c.gone.new.self c.pattern.new.out c.absent.new.self
    c.absent-2.new.self c.close.new.self _ _ _ _ _ (c.open-place.ensures.written j) (c.open-place.ensures.place j)
    (c.gone.ensures.written i x ts) (c.pattern.ensures.written h by x) (c.absent.ensures.written g x ts)
    (c.absent-2.ensures.written f x ts) (c.close.ensures.written e)
    (c.close.ensures.state ∙ (c.absent-2.ensures.state ∙ (c.absent.ensures.state ∙ (c.pattern.ensures.state
    ∙ (c.gone.ensures.state ∙ c.open-place.ensures.state)))))
