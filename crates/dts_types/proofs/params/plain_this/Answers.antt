use Rattle.dts_types.proofs.ParamLemmas.{this_placed}
use Rattle.dts_types.proofs.params.plain_this.Goals as goal

pub returns-in-Some-end_in-clause-written : goal.returns-in-Some-end_in-clause-written
returns-in-Some-end_in-clause-written c = λ e by x ts.
    this_placed by x ts c.args.out.now c.this_up_to.new.out _ _ _ _ _ c.args.word.now _ (c.in-Some.ensures x ts)
    (c.in-Some-end_in.ensures x ts) (c.this_up_to.ensures.written e by x ts)
