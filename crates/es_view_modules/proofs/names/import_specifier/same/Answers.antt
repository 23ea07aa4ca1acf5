use Rattle.std.proofs.Common.{refl}
use Rattle.es_lowering.specs.Modules.{imported_name}
use Rattle.es_view_modules.specs.names.ImportSpecifier.{same}
use Rattle.es_view_modules.proofs.names.import_specifier.same.Goals as goal

-- part by part
pub returns-in-Some-clause-form : goal.returns-in-Some-clause-form
unfolding imported_name same
returns-in-Some-clause-form c = λ x ts r.
    rw (
      c.has.ensures x ts,
      c.in-Some.ensures x ts,
    ) refl
