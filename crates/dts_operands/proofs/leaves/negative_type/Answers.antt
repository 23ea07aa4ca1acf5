use Rattle.std.proofs.Common.{◌∙◌}
use Rattle.dts_operands.proofs.LeafLemmas.{no_negative, no_negative_lean}
use Rattle.dts_operands.proofs.leaves.negative_type.Goals as goal

-- no number
pub returns-else-is_number-clause-written : goal.returns-else-is_number-clause-written
returns-else-is_number-clause-written c = λ e by x.
    no_negative by x _ _ _ _ c.args.arg.now _ c.in-Node.is (c.is_number.ensures ∙ c.if-is_number.false)

pub returns-in-Lean-clause-written : goal.returns-in-Lean-clause-written
returns-in-Lean-clause-written c = λ e by x. no_negative_lean by x _ _ _ _ c.args.arg.now _ c.in-Lean.is
