use Rattle.std.proofs.Common.{refl}
use Rattle.es_lowering.specs.TypedFunctions.{typed_method_property}
use Rattle.es_view_expressions.specs.member.Prop.{typed_method}
use Rattle.es_view_expressions.proofs.member.prop.typed_async_method.Goals as goal

-- part by part
pub returns-in-Some-part-2-clause-form : goal.returns-in-Some-part-2-clause-form
unfolding typed_method_property typed_method
returns-in-Some-part-2-clause-form c = λ x ts r.
    rw (
      c.has.ensures x ts,
      ← c.group_at-head.ensures.value x ts,
      c.in-Some.ensures.value x ts,
      c.in-Some-part.ensures.value x ts,
      c.in-Some-part-2.ensures.value x ts,
    ) refl
