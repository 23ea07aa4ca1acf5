use Rattle.std.proofs.Common.{refl}
use Rattle.es_lowering.specs.TypedFunctions.{typed_field}
use Rattle.es_view_statements.specs.class.Member.{typed_field_of}
use Rattle.es_view_statements.proofs.class.member.typed_field.Goals as goal

-- part by part
pub returns-in-Some-clause-form : goal.returns-in-Some-clause-form
unfolding typed_field typed_field_of
returns-in-Some-clause-form c = λ x ts r.
    rw (
      c.in-Some.ensures.value x ts,
      c.group_at.ensures.value x ts,
      c.group_at-in-Some.ensures.value x ts,
      c.group_at-in-Some-2.ensures.value x ts,
      c.group_at-in-Some-3.ensures.value x ts,
    ) refl
