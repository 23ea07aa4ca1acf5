use Rattle.dts_types.proofs.FunctionLemmas.{group_there, group_none}
use Rattle.dts_types.proofs.functions.type_params_group.Goals as goal

pub returns-in-Some-clause-written : goal.returns-in-Some-clause-written
returns-in-Some-clause-written c = λ e x ts.
    let f = c.close_group.ensures.before e in
    let g = c.keep.ensures.before f in
    group_there x ts c.args.out.now.row _ _ _ _ _ _ _ (c.in-Some.ensures.value x ts) (c.open-group.ensures.written g)
    (c.open-group.ensures.place g) (c.keep.ensures.written f x ts) (c.close_group.ensures.written e)

pub returns-in-None-clause-written : goal.returns-in-None-clause-written
returns-in-None-clause-written c = λ e x ts.
    group_none x ts c.args.out.now.row _ _ (c.in-None.ensures.value x ts) (c.absent.ensures.written e x ts)
