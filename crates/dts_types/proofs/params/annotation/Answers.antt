use Rattle.dts_types.proofs.ParamLemmas.{annotation_there, annotation_none}
use Rattle.dts_types.proofs.params.annotation.Goals as goal

pub returns-in-Some-clause-written : goal.returns-in-Some-clause-written
returns-in-Some-clause-written c = λ e x ts.
    annotation_there x ts c.args.out.now.row _ _ _ _ (c.in-Some.ensures.value x ts)
    (c.annotation_group.ensures.written e x ts)

pub returns-in-None-clause-written : goal.returns-in-None-clause-written
returns-in-None-clause-written c = λ e x ts.
    annotation_none x ts c.args.out.now.row _ _ (c.in-None.ensures.value x ts) (c.absent.ensures.written e x ts)
