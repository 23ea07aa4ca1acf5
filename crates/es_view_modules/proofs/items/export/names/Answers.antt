use Rattle.std.proofs.Common.{refl}
use Rattle.es_lowering.specs.Modules.{export_names}
use Rattle.es_view_modules.specs.items.Export.{names}
use Rattle.es_view_modules.proofs.items.export.names.Goals as goal

-- part by part
pub returns-clause-form : goal.returns-clause-form
unfolding export_names names
returns-clause-form c = λ x ts r.
    rw (
      c.has.ensures x ts,
      c.group_at.ensures.value x ts,
      c.group_at-2.ensures.value x ts,
    ) refl
