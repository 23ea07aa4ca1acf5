use Rattle.dts_parts.proofs.FunctionLemmas.{no_body}
use Rattle.dts_parts.proofs.functions.no_body.Goals as goal

pub returns-clause-written : goal.returns-clause-written
returns-clause-written c = λ e x ts.
    no_body x ts _ _ _ (c.absent.ensures.written (c.gone.ensures.before e) x ts) (c.gone.ensures.written e x ts)
