use Rattle.topological_order.proofs.PlacingLemmas.{placed_more}
use Rattle.topological_order.proofs.placing.Placing.place.Goals as goal

pub advance_all-requires-clause-placing : goal.advance_all-requires-clause-placing
advance_all-requires-clause-placing c =
    rw (c.targets_of.ensures, c.in_ok-push.ensures.ok, c.set.ensures)
    (placed_more c.args.links.now c.args.back.now c.args.self.now.order c.args.self.now.placed c.args.self.now.cursor
    c.args.self.now.free c.args.node c.requires.back c.requires.placing c.requires.least c.requires.gone)
