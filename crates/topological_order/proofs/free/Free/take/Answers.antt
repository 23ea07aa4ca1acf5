use Rattle.topological_order.proofs.PlacingLemmas.{taken_least, taken_gone}
use Rattle.topological_order.proofs.free.Free.take.Goals as goal

pub returns-clause-least : goal.returns-clause-least
returns-clause-least c =
    rw (← c.self.view_is)
    (taken_least c.pop_first.result c.self.inside.set.keys _ c.pop_first.ensures.removal c.pop_first.ensures.all_above)

pub returns-clause-gone : goal.returns-clause-gone
returns-clause-gone c = taken_gone c.pop_first.result _ c.pop_first.ensures.all_above
