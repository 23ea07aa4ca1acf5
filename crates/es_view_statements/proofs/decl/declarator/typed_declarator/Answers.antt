use Rattle.std.proofs.Common.{refl}
use Rattle.es_lowering.specs.TypedStatements.{typed_declarator}
use Rattle.es_view_statements.specs.decl.Declarator.{typed}
use Rattle.es_view_statements.proofs.decl.declarator.typed_declarator.Goals as goal

-- part by part
pub returns-in-Some-clause-form : goal.returns-in-Some-clause-form
unfolding typed_declarator typed
returns-in-Some-clause-form c = λ x ts r.
    rw (
      c.has.ensures x ts,
      c.in-Some.ensures.value x ts,
      c.group_at.ensures.value x ts,
      c.group_at-in-Some.ensures.value x ts,
    ) refl
