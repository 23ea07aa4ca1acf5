use Rattle.std.proofs.Common.{refl}
use Rattle.es_lowering.specs.Types.{rest_element}
use Rattle.es_view_types.specs.types.Element.{rest}
use Rattle.es_view_types.proofs.types.element.rest.Goals as goal

-- part by part
pub returns-in-Some-clause-form : goal.returns-in-Some-clause-form
unfolding rest_element rest
returns-in-Some-clause-form c = λ x ts r.
    rw (
      c.has.ensures x ts,
      c.in-Some.ensures.value x ts,
      c.group_at.ensures.value x ts,
    ) refl
