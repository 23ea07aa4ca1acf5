use Rattle.dts_operands.proofs.CalleeLemmas.{call_object, call_value, call_neither}
use Rattle.dts_operands.proofs.callees.call_callee.Goals as goal

pub returns-in-Freeze-clause-leads : goal.returns-in-Freeze-clause-leads
returns-in-Freeze-clause-leads c = λ by x ts r types. rw c.in-Freeze.is (c.frozen_by.ensures.leads by x ts r types)

pub returns-in-Object-clause-leads : goal.returns-in-Object-clause-leads
returns-in-Object-clause-leads c = λ by x ts r types. rw c.in-Object.is (call_object by x ts r types _)

pub returns-in-Value-clause-leads : goal.returns-in-Value-clause-leads
returns-in-Value-clause-leads c = λ by x ts r types.
    rw c.in-Value.is (call_value by x ts c.in-Value.field-0 r types _)

pub returns-in-Neither-clause-leads : goal.returns-in-Neither-clause-leads
returns-in-Neither-clause-leads c = λ by x ts r types. rw c.in-Neither.is (call_neither by x ts r types _)
