use Rattle.std.proofs.Common.{refl}
use Rattle.es_lowering.specs.Types.{constructor_type}
use Rattle.es_view_types.specs.types.Function.{constructor}
use Rattle.es_view_types.proofs.types.function.constructor.Goals as goal

-- part by part
pub returns-in-Some-part-clause-form : goal.returns-in-Some-part-clause-form
unfolding constructor_type constructor
returns-in-Some-part-clause-form c = λ x ts r.
    rw (
      c.has.ensures x ts,
      c.group_at.ensures.value x ts,
      c.in-Some.ensures.value x ts,
      c.in-Some-part.ensures.value x ts,
    ) refl
