use Rattle.std.proofs.Common.{arith}
use Rattle.dts_operands.proofs.CalleeLemmas.{chain_makes, under_more}
use Rattle.dts_operands.proofs.callees.chain_callee.Goals as goal

pub returns-clause-makes : goal.returns-clause-makes
returns-clause-makes c = λ by knows r.
    chain_makes by c.args.env.now.text.now c.args.env.now.tokens.now c.base_callee-begun.result
    c.next_callee-second.result c.last_callee.result r _ _ _ (c.base_callee-begun.ensures.is by knows)
    (c.next_callee-second.ensures.leads by) (c.last_callee.ensures.leads by)

pub returns-clause-below : goal.returns-clause-below
returns-clause-below c = λ n less most.
    c.last_callee.ensures.below n (under_more _ _ n (omega arith) c.next_callee-second.ensures.below) most
