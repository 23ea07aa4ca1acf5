use Rattle.dts_keys.proofs.KeyLemmas.{str_written}
use Rattle.dts_keys.proofs.keys.str_key.Goals as goal

pub returns-clause-written : goal.returns-clause-written
returns-clause-written c = λ e env x ts.
    str_written env x ts (c.gone.ensures.written (c.leaf_form.ensures.before e) x ts)
    (c.leaf_form.ensures.written e x ts)
