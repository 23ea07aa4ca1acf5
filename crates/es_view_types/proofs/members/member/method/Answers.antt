use Rattle.std.proofs.Common.{refl}
use Rattle.es_lowering.specs.TypeMembers.{method_by}
use Rattle.es_view_types.specs.members.Member.{method}
use Rattle.es_view_types.proofs.members.member.method.Goals as goal

-- part by part
pub returns-in-Some-part-clause-form : goal.returns-in-Some-part-clause-form
unfolding method_by method
returns-in-Some-part-clause-form c = λ x ts r.
    rw (
      c.in-Some.ensures.value x ts,
      c.has.ensures x ts,
      c.group_at.ensures.value x ts,
      c.in-Some-part.ensures.value x ts,
      c.group_at-in-Some-part.ensures.value x ts,
    ) refl
