use Rattle.std.proofs.Common.{refl}
use Rattle.es_lowering.specs.Functions.{method_property, method_at}
use Rattle.es_view_expressions.specs.member.Prop.{method}
use Rattle.es_view_expressions.proofs.member.prop.async_method.Goals as goal

-- part by part
pub returns-in-Some-part-2-clause-form : goal.returns-in-Some-part-2-clause-form
unfolding method_property method_at method
returns-in-Some-part-2-clause-form c = λ x ts r.
    rw (
      c.has.ensures x ts,
      c.in-Some.ensures.value x ts,
      c.in-Some-part.ensures.value x ts,
      c.in-Some-part-2.ensures.value x ts,
    ) refl
