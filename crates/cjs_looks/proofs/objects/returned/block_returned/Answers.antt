use Rattle.cjs_looks.proofs.objects_lemmas.Statements.{block_more}
use Rattle.cjs_looks.proofs.objects.returned.block_returned.Goals as goal

-- two statements or more
pub returns-in-Some-split : goal.returns-in-Some-split
returns-in-Some-split c = λ x ts r.
    block_more r _ _ _ _ _ (c.in-Some.ensures.value x ts) (c.in-Some-split.ensures.value x ts)
