use Rattle.std.proofs.Common.{refl}
use Rattle.es_lowering.specs.Modules.{exported_name}
use Rattle.es_view_modules.specs.names.ExportSpecifier.{exported_as}
use Rattle.es_view_modules.proofs.names.export_specifier.exported.Goals as goal

-- part by part
pub returns-in-Some-clause-form : goal.returns-in-Some-clause-form
unfolding exported_name exported_as
returns-in-Some-clause-form c = λ x ts r.
    rw (
      c.has.ensures x ts,
      ← c.group_at.ensures.value x ts,
      c.in-Some.ensures x ts,
      c.group_at-in-Some.ensures.value x ts,
    ) refl
