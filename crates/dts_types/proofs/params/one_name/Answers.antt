use Rattle.dts_types.proofs.ParamLemmas.{name_there}
use Rattle.dts_types.proofs.params.one_name.Goals as goal

pub returns-in-Some-clause-written : goal.returns-in-Some-clause-written
returns-in-Some-clause-written c = λ e by x ts.
    name_there by x ts c.args.out.now c.name_up_to.new.out c.args.at c.in-Some.to c.in-Some.ensures
    (c.name_up_to.ensures.written e by x ts)
