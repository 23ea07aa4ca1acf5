use Rattle.std.proofs.Common.{◌∙◌}
use Rattle.dts_types.proofs.ParamLemmas.{name_param_written}
use Rattle.dts_types.proofs.params.name_up_to.Goals as goal

pub returns-clause-written : goal.returns-clause-written
returns-clause-written c = λ e by x ts.
    let f = c.close.ensures.before e in
    let g = c.absent-2.ensures.before f in
    let h = c.absent.ensures.before g in
    let i = c.name_pattern.ensures.before h in
    name_param_written by x ts c.args.out.now c.open-place.new.self c.name_pattern.new.out c.absent.new.self
    c.absent-2.new.self c.close.new.self _ _ _ (c.open-place.ensures.written i) (c.open-place.ensures.place i)
    (c.name_pattern.ensures.written h x ts) (c.absent.ensures.written g x ts) (c.absent-2.ensures.written f x ts)
    (c.close.ensures.written e)
    (c.close.ensures.state ∙ (c.absent-2.ensures.state ∙ (c.absent.ensures.state
    ∙ (c.name_pattern.ensures.state ∙ c.open-place.ensures.state))))
