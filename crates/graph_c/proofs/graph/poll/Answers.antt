use Rattle.std.proofs.Common.{rules}
use Rattle.graph_c.proofs.GraphLemmas.{was_there, at_poll}
use Rattle.graph_c.proofs.graph.poll.Goals as goal

-- the session that the handle had was polled
pub returns : goal.returns
returns c = at_poll _ _ c.in-Some.held.value c.poll_call-status.new.session _ _
    (was_there _ _ c.in-Some.ensures.value) (search rules) (search rules)
