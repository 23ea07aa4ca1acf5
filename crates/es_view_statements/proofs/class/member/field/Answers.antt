use Rattle.std.proofs.Common.{refl}
use Rattle.es_lowering.specs.Classes.{field_member}
use Rattle.es_view_statements.specs.class.Member.{field}
use Rattle.es_view_statements.proofs.class.member.field.Goals as goal

-- part by part
pub returns-in-Some-clause-form : goal.returns-in-Some-clause-form
unfolding field_member field
returns-in-Some-clause-form c = λ x ts r.
    rw (
      c.has.ensures x ts,
      c.in-Some.ensures.value x ts,
      c.group_at.ensures.value x ts,
    ) refl
