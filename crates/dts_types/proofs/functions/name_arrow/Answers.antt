use Rattle.std.proofs.Common.{◌∙◌}
use Rattle.dts_types.proofs.FunctionLemmas.{name_made}
use Rattle.dts_types.proofs.functions.name_arrow.Goals as goal

pub returns-clause-written : goal.returns-clause-written
returns-clause-written c = λ e by x ts.
    let f = c.close_form.ensures.before e in
    let g = c.word.ensures.before f in
    let h = c.name_params.ensures.before g in
    let i = c.absent.ensures.before h in
    name_made by x ts c.args.out.now c.open-place.new.self c.absent.new.self c.name_params.new.out c.word.new.self
    c.close_form.new.self _ _ (c.open-place.ensures.written i) (c.open-place.ensures.place i)
    (c.absent.ensures.state ∙ c.open-place.ensures.state) (c.absent.ensures.written h x ts)
    (c.name_params.ensures.written g by x ts) (c.word.ensures.written f x ts) c.word.ensures.state
    (c.close_form.ensures.written e) c.close_form.ensures.state
