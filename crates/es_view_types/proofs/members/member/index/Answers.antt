use Rattle.std.proofs.Common.{refl}
use Rattle.es_lowering.specs.TypeMembers.{index_signature}
use Rattle.es_view_types.specs.members.Member.{index}
use Rattle.es_view_types.proofs.members.member.index.Goals as goal

-- part by part
pub returns-in-Some-part-clause-form : goal.returns-in-Some-part-clause-form
unfolding index_signature index
returns-in-Some-part-clause-form c = λ x ts r.
    rw (
      c.has.ensures x ts,
      c.in-Some.ensures x ts,
      c.in-Some-part.ensures.value x ts,
      c.group_at.ensures.value x ts,
    ) refl
