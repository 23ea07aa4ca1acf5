use Rattle.std.proofs.Common.{refl}
use Rattle.es_lowering.specs.Modules.{from_import}
use Rattle.es_view_modules.specs.items.Import.{from_of}
use Rattle.es_view_modules.proofs.items.import.from_.Goals as goal

-- part by part
pub returns-in-Some-token_at-clause-form : goal.returns-in-Some-token_at-clause-form
unfolding from_import from_of
returns-in-Some-token_at-clause-form c = λ x ts r.
    rw (
      c.has.ensures x ts,
      c.in-Some.ensures.value x ts,
      c.in-Some-token_at.ensures x ts,
      c.group_at.ensures.value x ts,
    ) refl
