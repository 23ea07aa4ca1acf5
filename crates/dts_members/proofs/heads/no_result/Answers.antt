use Rattle.es_changed.proofs.Written.{both_written}
use Rattle.dts_members.proofs.heads.no_result.Goals as goal

pub returns-clause-written : goal.returns-clause-written
returns-clause-written c = λ e x ts.
    both_written x ts _ _ _ _ _ (c.absent.ensures.written (c.dropped.ensures.before e) x ts)
    (c.dropped.ensures.written e x ts)
