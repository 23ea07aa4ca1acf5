use Rattle.dts_types.proofs.FunctionLemmas.{result_there, result_none}
use Rattle.dts_types.proofs.functions.result_type.Goals as goal

pub returns-in-Some-clause-written : goal.returns-in-Some-clause-written
returns-in-Some-clause-written c = λ e x ts.
    result_there x ts c.args.out.now.row _ _ _ _ (c.in-Some.ensures.value x ts) (c.keep.ensures.written e x ts)

pub returns-in-None-clause-written : goal.returns-in-None-clause-written
returns-in-None-clause-written c = λ e x ts.
    result_none x ts c.args.out.now.row _ _ (c.in-None.ensures.value x ts) (c.word.ensures.written e x ts)
