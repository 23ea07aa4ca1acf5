use Rattle.std.proofs.Common.{◌∙◌}
use Rattle.dts_operands.proofs.LeafLemmas.{no_new, no_new_lean}
use Rattle.dts_operands.proofs.leaves.class_type.Goals as goal

-- no name
pub returns-else-is_name-clause-written : goal.returns-else-is_name-clause-written
returns-else-is_name-clause-written c = λ e by knows.
    no_new by _ _ _ c.args.callee.now _ c.in-Node.is (c.is_name.ensures ∙ c.if-is_name.false)

pub returns-in-Lean-clause-written : goal.returns-in-Lean-clause-written
returns-in-Lean-clause-written c = λ e by knows. no_new_lean by _ _ _ c.args.callee.now _ c.in-Lean.is
