use Rattle.std.proofs.Common.{refl}
use Rattle.es_lowering.specs.TypedFunctions.{index_member}
use Rattle.es_view_statements.specs.class.Member.{index}
use Rattle.es_view_statements.proofs.class.member.index.Goals as goal

-- part by part
pub returns-in-Some-part-clause-form : goal.returns-in-Some-part-clause-form
unfolding index_member index
returns-in-Some-part-clause-form c = λ x ts r.
    rw (
      c.in-Some.ensures x ts,
      c.in-Some-part.ensures.value x ts,
      c.group_at.ensures.value x ts,
      c.group_at-in-Some-part.ensures.value x ts,
    ) refl
