use Rattle.std.proofs.Common.{◌∙◌}
use Rattle.dts_types.proofs.ParamLemmas.{this_written}
use Rattle.dts_types.proofs.params.this_up_to.Goals as goal

pub returns-clause-written : goal.returns-clause-written
returns-clause-written c = λ e by x ts.
    let f = c.close-2.ensures.before e in
    let g = c.annotation.ensures.before f in
    let h = c.absent.ensures.before g in
    let i = c.close.ensures.before h in
    let j = c.dropped.ensures.before i in
    let k = c.open-pattern.ensures.before j in
    let l = c.gone.ensures.before k in
    this_written by x ts c.args.out.now c.open-place.new.self c.gone.new.self c.open-pattern.new.self
    c.dropped.new.self c.close.new.self c.absent.new.self c.annotation.new.out c.close-2.new.self _ _ _ _ _ _ _
    (c.open-place.ensures.written l) (c.open-place.ensures.place l) (c.gone.ensures.written k x ts)
    (c.open-pattern.ensures.written j) (c.open-pattern.ensures.place j) (c.dropped.ensures.written i x ts)
    (c.close.ensures.written h) (c.absent.ensures.written g x ts) (c.annotation.ensures.written f x ts)
    (c.close-2.ensures.written e)
    (c.close-2.ensures.state ∙ (c.annotation.ensures.state ∙ (c.absent.ensures.state ∙ (c.close.ensures.state
    ∙ (c.dropped.ensures.state ∙ (c.open-pattern.ensures.state ∙ (c.gone.ensures.state
    ∙ c.open-place.ensures.state)))))))
