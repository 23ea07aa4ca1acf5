use Rattle.dts_operands.proofs.CalleeLemmas.{freezes_one, freezes_others}
use Rattle.dts_operands.proofs.callees.frozen_by.Goals as goal

pub returns-in-One-clause-leads : goal.returns-in-One-clause-leads
returns-in-One-clause-leads c = λ by x ts r types.
    freezes_one by x ts c.in-One.value r types _ (c.in-One.ensures.is by x ts)

pub returns-in-Others-clause-leads : goal.returns-in-Others-clause-leads
returns-in-Others-clause-leads c = λ by x ts r types. freezes_others by x ts r types _ (c.in-Others.ensures.is by x ts)
