use Rattle.std.proofs.Common.{◌∙◌}
use Rattle.dts_operands.proofs.CalleeLemmas.{argument_spread}
use Rattle.dts_operands.proofs.callees.argument_in.Goals as goal

-- one after `...`
pub returns-then-has-clause-is : goal.returns-then-has-clause-is
returns-then-has-clause-is c = λ by x ts.
    argument_spread by x ts _ _ (c.group-parts.ensures.value x ts) (c.has.ensures x ts ∙ c.if-has.true)
