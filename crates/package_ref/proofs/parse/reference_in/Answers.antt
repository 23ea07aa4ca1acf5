use Rattle.std.proofs.Common.{ap, subst}
use Rattle.package_ref.specs.Steps.{IsAnswer, read_body}
use Rattle.package_ref.proofs.AnswerLemmas.{answers_read, answers_none}
use Rattle.package_ref.proofs.parse.reference_in.Goals as goal

pub returns-in-Some : goal.returns-in-Some
returns-in-Some c =
    answers_read _ c.in-Some.rest.now c.in-Some.kind _ c.in-Some.ensures
    (subst (λ t. IsAnswer (read_body c.in-Some.kind t) c.read_body.result) c.body_of.ensures c.read_body.ensures)

pub returns-in-None : goal.returns-in-None
returns-in-None c = answers_none _ c.in-None.ensures
