use Rattle.std.proofs.Common.{◌∙◌, drop, ◌+◌, arith}
use Rattle.topological_order.specs.Order.{has}
use Rattle.topological_order.proofs.PlacingLemmas.{in_hand_more, next_in_hand}
use Rattle.topological_order.proofs.placing.Placing.advance_all.Goals as goal

pub loop-node-preserved : goal.loop-node-preserved
loop-node-preserved c = (
  c.in_ok-advance.ensures.placing (has (drop (c.loop-node.node-index + 1) c.args.nodes.now))
      (in_hand_more c.args.links.now (has (drop c.loop-node.node-index c.args.nodes.now)) _ _ _ _ _
      (λ v l off. next_in_hand c.args.nodes.now c.loop-node.node-index v c.loop-node-test.true off)
      c.loop-node.invariant.0),
  c.in_ok-advance.ensures.placed ∙ c.loop-node.invariant.1,
)
