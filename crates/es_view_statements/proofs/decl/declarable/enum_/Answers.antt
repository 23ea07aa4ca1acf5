use Rattle.std.proofs.Common.{refl}
use Rattle.es_lowering.specs.TypedStatements.{enum_}
use Rattle.es_view_statements.specs.decl.Declarable.{enum_of}
use Rattle.es_view_statements.proofs.decl.declarable.enum_.Goals as goal

-- part by part
pub returns-in-Some-clause-form : goal.returns-in-Some-clause-form
unfolding enum_ enum_of
returns-in-Some-clause-form c = λ x ts r.
    rw (
      c.has.ensures x ts,
      c.in-Some.ensures x ts,
      c.group_at.ensures.value x ts,
    ) refl
