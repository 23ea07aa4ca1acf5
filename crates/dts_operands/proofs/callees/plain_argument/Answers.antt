use Rattle.std.proofs.Common.{◌∙◌}
use Rattle.dts_operands.proofs.CalleeLemmas.{plain_one, lean_one}
use Rattle.dts_operands.proofs.callees.plain_argument.Goals as goal

pub returns-else-is_spread-clause-is : goal.returns-else-is_spread-clause-is
returns-else-is_spread-clause-is c = λ by x ts.
    plain_one by x ts c.args.it.now _ c.in-Node.is (c.is_spread.ensures ∙ c.if-is_spread.false)

pub returns-in-Lean-clause-is : goal.returns-in-Lean-clause-is
returns-in-Lean-clause-is c = λ by x ts. lean_one by x ts c.args.it.now _ c.in-Lean.is
