use Rattle.std.proofs.Common.{refl}
use Rattle.es_lowering.specs.TypedFunctions.{typed_method_member}
use Rattle.es_view_statements.specs.class.Member.{typed_method}
use Rattle.es_view_statements.proofs.class.member.typed_async_method.Goals as goal

-- part by part
pub returns-in-Some-part-clause-form : goal.returns-in-Some-part-clause-form
unfolding typed_method_member typed_method
returns-in-Some-part-clause-form c = λ x ts r.
    rw (
      ← c.group_at-head.ensures.value x ts,
      c.has.ensures x ts,
      c.has-in-Some-part.ensures x ts,
      c.in-Some.ensures.value x ts,
      c.in-Some-part.ensures.value x ts,
      c.group_at.ensures.value x ts,
      c.group_at-in-Some-part.ensures.value x ts,
    ) refl
