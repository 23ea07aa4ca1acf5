use Rattle.std.proofs.Common.{refl}
use Rattle.es_lowering.specs.Classes.{accessor_member, method_member}
use Rattle.es_lowering.specs.Functions.{method_at}
use Rattle.es_view_statements.specs.class.Member.{accessor, method}
use Rattle.es_view_statements.proofs.class.member.accessor.Goals as goal

-- part by part
pub returns-in-Some-part-3-clause-form : goal.returns-in-Some-part-3-clause-form
unfolding accessor_member method_member method_at accessor method
returns-in-Some-part-3-clause-form c = λ x ts r.
    rw (
      c.has.ensures x ts,
      c.in-Some.ensures x ts,
      c.in-Some-part.ensures.value x ts,
      c.in-Some-part-2.ensures.value x ts,
      c.in-Some-part-3.ensures.value x ts,
    ) refl
