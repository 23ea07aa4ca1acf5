use Rattle.std.proofs.Common.{refl}
use Rattle.es_lowering.specs.Functions.{function}
use Rattle.es_view_expressions.specs.function.Head.{plain_function}
use Rattle.es_view_expressions.proofs.function.head.plain_function.Goals as goal

-- part by part
pub returns-in-Some-part-clause-form : goal.returns-in-Some-part-clause-form
unfolding function plain_function
returns-in-Some-part-clause-form c = λ x ts r.
    rw (
      c.has.ensures x ts,
      c.part-in-Some-part.ensures.value x ts,
      c.in-Some.ensures.value x ts,
      c.in-Some-part.ensures.value x ts,
    ) refl
