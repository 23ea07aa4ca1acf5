use Rattle.std.proofs.Common.{refl}
use Rattle.es_lowering.specs.Types.{labelled_element}
use Rattle.es_view_types.specs.types.Element.{labelled}
use Rattle.es_view_types.proofs.types.element.labelled.Goals as goal

-- part by part
pub returns-in-Some-part-clause-form : goal.returns-in-Some-part-clause-form
unfolding labelled_element labelled
returns-in-Some-part-clause-form c = λ x ts r.
    rw (
      c.has.ensures x ts,
      c.has-in-Some-part.ensures x ts,
      c.in-Some.ensures x ts,
      c.in-Some-part.ensures.value x ts,
    ) refl
