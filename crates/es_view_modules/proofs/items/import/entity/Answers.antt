use Rattle.std.proofs.Common.{refl}
use Rattle.es_lowering.specs.Modules.{entity_import}
use Rattle.es_view_modules.specs.items.Import.{aliased}
use Rattle.es_view_modules.proofs.items.import.entity.Goals as goal

-- part by part
pub returns-in-Some-part-clause-form : goal.returns-in-Some-part-clause-form
unfolding entity_import aliased
returns-in-Some-part-clause-form c = λ x ts r.
    rw (
      c.has.ensures x ts,
      c.in-Some.ensures x ts,
      c.in-Some-part.ensures.value x ts,
    ) refl
