use Rattle.std.proofs.Common.{refl, inr}
use Rattle.es_rules.proofs.wraps.open_chain.Goals as goal

-- the operand is a chain that goes on
pub returns-then-is_chain-clause-opened : goal.returns-then-is_chain-clause-opened
returns-then-is_chain-clause-opened c = inr (refl, c.is_chain.ensures c.if-is_chain.true)
