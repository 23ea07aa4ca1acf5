use Rattle.std.proofs.Common.{refl}
use Rattle.es_lowering.specs.TypedFunctions.{typed_class}
use Rattle.es_view_expressions.specs.function.Class.{typed_class as the_typed_class}
use Rattle.es_view_expressions.proofs.function.class.typed_class.Goals as goal

-- part by part
pub returns-clause-form : goal.returns-clause-form
unfolding typed_class the_typed_class
returns-clause-form c = λ x ts r.
    rw (
      c.part.ensures.value x ts,
      c.group_at.ensures.value x ts,
      c.group_at-2.ensures.value x ts,
      c.group_at-3.ensures.value x ts,
      c.group_at-4.ensures.value x ts,
    ) refl
