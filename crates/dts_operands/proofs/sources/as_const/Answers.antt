use Rattle.dts_operands.proofs.SourceLemmas.{const_operand, const_untyped}
use Rattle.dts_operands.proofs.sources.as_const.Goals as goal

pub returns-in-Operand : goal.returns-in-Operand
returns-in-Operand c = λ by x ts r first e d. const_operand by x ts first e r _ (rw c.in-Operand.is at d)

pub returns-in-Untyped : goal.returns-in-Untyped
returns-in-Untyped c = λ by x ts r first e d. const_untyped by x ts first e r (rw c.in-Untyped.is at d)
