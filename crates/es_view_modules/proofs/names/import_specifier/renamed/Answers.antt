use Rattle.std.proofs.Common.{refl}
use Rattle.es_lowering.specs.Modules.{renamed_import}
use Rattle.es_view_modules.specs.names.ImportSpecifier.{renamed}
use Rattle.es_view_modules.proofs.names.import_specifier.renamed.Goals as goal

-- part by part
pub returns-in-Some-token_at-clause-form : goal.returns-in-Some-token_at-clause-form
unfolding renamed_import renamed
returns-in-Some-token_at-clause-form c = λ x ts r.
    rw (
      c.has.ensures x ts,
      ← c.group_at.ensures.value x ts,
      c.in-Some.ensures x ts,
      c.in-Some-token_at.ensures x ts,
    ) refl
