use Rattle.std.proofs.Common.{refl}
use Rattle.es_lowering.specs.Modules.{phase_import}
use Rattle.es_view_modules.specs.items.Import.{phased}
use Rattle.es_view_modules.proofs.items.import.phased.Goals as goal

-- part by part
pub returns-in-Some-token_at-clause-form : goal.returns-in-Some-token_at-clause-form
unfolding phase_import phased
returns-in-Some-token_at-clause-form c = λ x ts r.
    rw (
      c.in-Some.ensures.value x ts,
      c.in-Some-token_at.ensures x ts,
      c.group_at.ensures.value x ts,
    ) refl
