use Rattle.dts_keys.proofs.KeyLemmas.{str_is}
use Rattle.dts_keys.proofs.keys.plain_str.Goals as goal

pub returns-clause-written : goal.returns-clause-written
returns-clause-written c = λ e env x ts.
    str_is env x ts (c.gone.ensures.written (c.leaf_node.ensures.before e) x ts) (c.leaf_node.ensures.written e x ts)
