use Rattle.dts_operands.proofs.CalleeLemmas.{one_argument_in}
use Rattle.dts_operands.proofs.callees.only_in.Goals as goal

-- one alone
pub returns-in-None-split-clause-is : goal.returns-in-None-split-clause-is
returns-in-None-split-clause-is c = λ by x ts.
    one_argument_in by x ts c.argument_in.result _ _ _ (c.in-Some.ensures.value x ts)
    (c.in-None-split.ensures.value x ts) (c.argument_in.ensures.is by x ts)
