use Rattle.std.proofs.Common.{rules, subst}
use Rattle.graph_session.specs.Calls.{AnswersBy}
use Rattle.graph_c.specs.declared.held.Held.{Held}
use Rattle.graph_c.proofs.GraphLemmas.{was_there, at_answer}
use Rattle.graph_c.proofs.graph.answer.Goals as goal

-- the session that the handle had was answered
pub returns : goal.returns
returns c = at_answer _ _ c.in-Some.held.value c.answer_call-status.new.session _ _ _ _ _
    (was_there _ _ c.in-Some.ensures.value) (search rules)
    (subst (λ (held : Held). AnswersBy c.args.number c.args.kind c.args.bytes.now c.args.content_type.now held.session
    c.answer_call-status.new.session c.answer_call-status.result) c.deref_mut.ensures.value c.answer_call-status.ensures)
