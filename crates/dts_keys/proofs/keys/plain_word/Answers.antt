use Rattle.dts_keys.proofs.KeyLemmas.{word_is}
use Rattle.dts_keys.proofs.keys.plain_word.Goals as goal

pub returns-clause-written : goal.returns-clause-written
returns-clause-written c = λ e env x ts.
    word_is env x ts (c.gone.ensures.written (c.leaf_node.ensures.before e) x ts) (c.leaf_node.ensures.written e x ts)
