use Rattle.cjs_looks.proofs.objects_lemmas.Statements.{returns_end, returns_value}
use Rattle.cjs_looks.proofs.objects.returned.return_value.Goals as goal

-- an end behind a value
pub returns-in-Some-split : goal.returns-in-Some-split
returns-in-Some-split c = λ x ts r.
    returns_value r _ _ _ _ _ (c.in-Some.ensures.value x ts) (c.in-Some-split.ensures.value x ts)

-- an end alone
pub returns-in-None-split : goal.returns-in-None-split
returns-in-None-split c = λ x ts r.
    returns_end r _ _ _ (c.in-Some.ensures.value x ts) (c.in-None-split.ensures.value x ts)
