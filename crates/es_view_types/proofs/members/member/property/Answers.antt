use Rattle.std.proofs.Common.{refl}
use Rattle.es_lowering.specs.TypeMembers.{property_by}
use Rattle.es_view_types.specs.members.Member.{property}
use Rattle.es_view_types.proofs.members.member.property.Goals as goal

-- part by part
pub returns-in-Some-clause-form : goal.returns-in-Some-clause-form
unfolding property_by property
returns-in-Some-clause-form c = λ x ts r.
    rw (
      c.in-Some.ensures.value x ts,
      c.has.ensures x ts,
      c.group_at.ensures.value x ts,
    ) refl
