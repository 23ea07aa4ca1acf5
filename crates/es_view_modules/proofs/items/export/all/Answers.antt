use Rattle.std.proofs.Common.{refl}
use Rattle.es_lowering.specs.Modules.{export_all}
use Rattle.es_view_modules.specs.items.Export.{all}
use Rattle.es_view_modules.proofs.items.export.all.Goals as goal

-- part by part
pub returns-in-Some-clause-form : goal.returns-in-Some-clause-form
unfolding export_all all
returns-in-Some-clause-form c = λ x ts r.
    rw (
      c.has.ensures x ts,
      c.in-Some.ensures x ts,
      c.group_at.ensures.value x ts,
      c.group_at-in-Some.ensures.value x ts,
    ) refl
