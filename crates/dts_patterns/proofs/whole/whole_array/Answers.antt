use Rattle.dts_patterns.proofs.WholeLemmas.{array_at}
use Rattle.dts_patterns.proofs.whole.whole_array.Goals as goal

-- it begins where its node does
pub returns-then-from-it-clause-written : goal.returns-then-from-it-clause-written
returns-then-from-it-clause-written c = λ e env x.
    array_at env x _ _ _ _ _ c.if-from-it.true (c.gone.ensures.written (c.array_pattern.ensures.before e) x _)
    (c.array_pattern.ensures.written e env x)
