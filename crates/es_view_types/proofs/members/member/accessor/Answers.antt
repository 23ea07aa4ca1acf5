use Rattle.std.proofs.Common.{refl}
use Rattle.es_lowering.specs.TypeMembers.{accessor_signature, method_by}
use Rattle.es_view_types.specs.members.Member.{accessor}
use Rattle.es_view_types.proofs.members.member.accessor.Goals as goal

-- part by part
pub returns-in-Some-part-2-clause-form : goal.returns-in-Some-part-2-clause-form
unfolding accessor_signature method_by accessor
returns-in-Some-part-2-clause-form c = λ x ts r.
    rw (
      c.in-Some.ensures x ts,
      c.in-Some-part.ensures.value x ts,
      c.has.ensures x ts,
      c.group_at.ensures.value x ts,
      c.in-Some-part-2.ensures.value x ts,
      c.group_at-in-Some-part-2.ensures.value x ts,
    ) refl
