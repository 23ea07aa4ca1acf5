use Rattle.dts_keys.proofs.KeyLemmas.{number_written}
use Rattle.dts_keys.proofs.keys.number_key.Goals as goal

pub returns-clause-written : goal.returns-clause-written
returns-clause-written c = λ e env x ts.
    number_written env x ts (c.gone.ensures.written (c.leaf_form.ensures.before e) x ts)
    (c.leaf_form.ensures.written e x ts)
