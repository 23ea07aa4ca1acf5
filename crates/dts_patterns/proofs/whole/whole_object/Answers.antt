use Rattle.dts_patterns.proofs.WholeLemmas.{object_marked}
use Rattle.dts_patterns.proofs.whole.whole_object.Goals as goal

pub returns-clause-written : goal.returns-clause-written
returns-clause-written c = λ e env x.
    object_marked env x _ _ (c.gone.ensures.written (c.object_pattern.ensures.before e) x _)
    (c.object_pattern.ensures.written e env x)
