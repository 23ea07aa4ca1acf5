use Rattle.std.proofs.Common.{refl}
use Rattle.es_lowering.specs.TypedFunctions.{typed_function}
use Rattle.es_view_expressions.specs.function.Head.{typed_function as the_typed_function}
use Rattle.es_view_expressions.proofs.function.head.typed_function.Goals as goal

-- part by part
pub returns-in-Some-clause-form : goal.returns-in-Some-clause-form
unfolding typed_function the_typed_function
returns-in-Some-clause-form c = λ x ts r.
    rw (
      c.has.ensures x ts,
      c.part-in-Some.ensures.value x ts,
      c.in-Some.ensures.value x ts,
      c.group_at.ensures.value x ts,
    ) refl
