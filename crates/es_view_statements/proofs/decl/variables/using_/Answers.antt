use Rattle.std.proofs.Common.{refl}
use Rattle.es_lowering.specs.Statements.{using_}
use Rattle.es_view_statements.specs.decl.Variables.{using_of}
use Rattle.es_view_statements.proofs.decl.variables.using_.Goals as goal

-- part by part
pub returns-in-Some-clause-form : goal.returns-in-Some-clause-form
unfolding using_ using_of
returns-in-Some-clause-form c = λ x ts.
    rw (
      c.has.ensures x ts,
      c.in-Some.ensures.value x ts,
      c.group_at.ensures.value x ts,
    ) refl
