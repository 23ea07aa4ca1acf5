use Rattle.dts_keys.proofs.KeyLemmas.{lean_at}
use Rattle.dts_keys.proofs.keys.bracketed_key.Goals as goal

-- what leans left is none
pub returns-in-Lean-clause-written : goal.returns-in-Lean-clause-written
returns-in-Lean-clause-written c = λ e env x. lean_at env x _ _ c.args.it.now _ c.in-Lean.is
