use Rattle.dts_names.proofs.NameLemmas.{named_written}
use Rattle.dts_names.proofs.names.named_type.Goals as goal

pub returns-clause-written : goal.returns-clause-written
returns-clause-written c = λ e x ts.
    named_written x ts (c.gone.ensures.written (c.leaf_form.ensures.before e) x ts) (c.leaf_form.ensures.written e x ts)
