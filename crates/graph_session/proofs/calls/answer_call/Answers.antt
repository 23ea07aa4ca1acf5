use Rattle.std.proofs.Common.{refl, subst, Ok, Err}
use Rattle.graph_session.specs.Calls.{Answer, IsAnswer, with_answer}
use Rattle.graph_session.proofs.CallsLemmas.{answered_by}
use Rattle.graph_session.proofs.calls.answer_call.Goals as goal

-- there is an answer
pub returns-in-Ok-Ok : goal.returns-in-Ok-Ok
returns-in-Ok-Ok g c =
    rw c.given_status.ensures
    (answered_by _ _ _ _ _ _ c.in-Ok-Ok.answer c.answer.result
    (subst (λ (a : Answer). IsAnswer c.args.kind c.args.bytes.now c.args.content_type.now a) c.in-Ok-Ok.field-0-is
    c.in-Ok-Ok.ensures) c.answer.ensures.given c.answer.ensures.kept)

-- there is none
pub returns-in-Ok-Err : goal.returns-in-Ok-Err
returns-in-Ok-Err g c =
    with_answer (Err c.in-Ok-Err.status)
    (subst (λ (a : Answer). IsAnswer c.args.kind c.args.bytes.now c.args.content_type.now a) c.in-Ok-Err.field-0-is
    c.in-Ok-Err.ensures) (refl, refl)
