use Rattle.std.proofs.Common.{◌+◌}
use Rattle.topological_order.proofs.PlacingLemmas.{in_hand_more, from_here, from_next}
use Rattle.topological_order.proofs.placing.begun.Goals as goal

pub loop-node-preserved : goal.loop-node-preserved
loop-node-preserved c =
    c.in_ok-advance.ensures.placing (from_here (c.loop-node.node + 1))
    (in_hand_more c.args.links.now (from_here c.loop-node.node) _ _ _ _ _
    (λ v l off. from_next c.loop-node.node v off) c.loop-node.invariant)
