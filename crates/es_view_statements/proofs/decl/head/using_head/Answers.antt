use Rattle.std.proofs.Common.{refl}
use Rattle.es_lowering.specs.Statements.{using_head}
use Rattle.es_view_statements.specs.decl.Head.{using_of}
use Rattle.es_view_statements.proofs.decl.head.using_head.Goals as goal

-- part by part
pub returns-in-Some-clause-form : goal.returns-in-Some-clause-form
unfolding using_head using_of
returns-in-Some-clause-form c = λ x ts.
    rw (
      c.has.ensures x ts,
      c.in-Some.ensures x ts,
    ) refl
