-- A character or an escape is read, and what is left stands for the rest.
use Rattle.es_literal.proofs.ValueLemmas.{units_next}
use Rattle.es_literal.proofs.value.units_of.Goals as goal

pub loop-rest-preserved : goal.loop-rest-preserved
loop-rest-preserved c =
    units_next _ _ _ _ _ _ _ _ c.in-len1-up.len_at_least c.c-item.is c.loop-rest.invariant c.unit_of-code.ensures.code
    c.unit_of-code.ensures.len c.in_ok-push_code.ensures c.skip-rest.ensures.value
