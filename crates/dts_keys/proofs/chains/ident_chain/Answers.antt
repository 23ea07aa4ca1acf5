use Rattle.dts_keys.proofs.ChainLemmas.{named_chain}
use Rattle.dts_keys.proofs.chains.ident_chain.Goals as goal

pub returns-clause-written : goal.returns-clause-written
returns-clause-written c = λ e env x. named_chain env x _ _ _ _ _ _ _ _ (c.path_key.ensures.written e env x)
