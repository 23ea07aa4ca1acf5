use Rattle.graph_session.proofs.AskingLemmas.{from_open, from_closed}
use Rattle.graph_session.proofs.loader.is_open.Goals as goal

-- by what is at the place
pub returns-clause-here : goal.returns-clause-here
returns-clause-here c on = from_open c.args.marks.now c.args.at c.requires on

pub returns-clause-next : goal.returns-clause-next
returns-clause-next c off = from_closed c.args.marks.now c.args.at c.requires off
