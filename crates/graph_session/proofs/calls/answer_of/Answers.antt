use Rattle.std.proofs.Common.{rules, refl}
use Rattle.graph_session.specs.Calls.{of_external, of_absent, of_failed, of_none}
use Rattle.graph_session.proofs.CallsLemmas.{is_content, is_redirect}
use Rattle.graph_session.proofs.calls.answer_of.Goals as goal

-- by the kind
pub returns-in-0 : goal.returns-in-0
returns-in-0 c = is_content _ _ _ _ c.in-0.is c.content.ensures

pub returns-in-1 : goal.returns-in-1
returns-in-1 c = is_redirect _ _ _ _ c.in-1.is c.redirect.ensures

pub returns-in-2 : goal.returns-in-2
returns-in-2 c = of_external c.in-2.is refl

pub returns-in-3 : goal.returns-in-3
returns-in-3 c = of_absent c.in-3.is refl

pub returns-in-4 : goal.returns-in-4
returns-in-4 c = of_failed c.in-4.is refl

pub returns-in_default : goal.returns-in_default
returns-in_default c = of_none (search rules) refl
