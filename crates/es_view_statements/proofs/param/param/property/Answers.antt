use Rattle.std.proofs.Common.{refl}
use Rattle.es_lowering.specs.TypedParts.{property_parameter}
use Rattle.es_view_statements.specs.param.Param.{property}
use Rattle.es_view_statements.proofs.param.param.property.Goals as goal

-- part by part
pub returns-in-Some-clause-form : goal.returns-in-Some-clause-form
unfolding property_parameter property
returns-in-Some-clause-form c = λ x ts r.
    rw (
      c.in-Some.ensures.value x ts,
      c.group_at.ensures.value x ts,
      c.group_at-in-Some.ensures.value x ts,
      c.group_at-in-Some-2.ensures.value x ts,
      c.group_at-in-Some-3.ensures.value x ts,
    ) refl
