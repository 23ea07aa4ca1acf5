use Rattle.dts_types.proofs.ParamLemmas.{one_made}
use Rattle.dts_types.proofs.params.name_params.Goals as goal

pub returns-clause-written : goal.returns-clause-written
returns-clause-written c = λ e by x ts.
    let f = c.close_form.ensures.before e in
    let g = c.one_name.ensures.before f in
    one_made by x ts c.args.out.now c.open-list.new.self c.one_name.new.out c.close_form.new.self _ _
    (c.open-list.ensures.written g) (c.open-list.ensures.place g) c.open-list.ensures.state
    (c.one_name.ensures.written f by x ts) (c.close_form.ensures.written e) c.close_form.ensures.state
