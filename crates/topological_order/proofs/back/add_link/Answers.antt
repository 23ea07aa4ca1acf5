use Rattle.topological_order.proofs.OrderLemmas.{on_ok}
use Rattle.topological_order.proofs.PlacingLemmas.{put_back}
use Rattle.topological_order.proofs.back.add_link.Goals as goal

pub returns-clause-put : goal.returns-clause-put
returns-clause-put c =
    on_ok c.push.result _ _
    (λ is. put_back c.args.back.now.items c.args.target c.args.node c.index_mut.result.now c.push.new.self c.requires
    c.index_mut.ensures.value is)
    c.push.ensures.ok
