use Rattle.std.proofs.Common.{arith}
use Rattle.strong_components.proofs.FinishLemmas.{walk_done}
use Rattle.strong_components.proofs.finish.finish_order.Goals as goal

pub returns : goal.returns
returns c =
    walk_done c.args.links.now c.loop-node.walk.finished c.loop-node.walk.met c.loop-node.walk.cursor
    c.loop-node.walk.stack
    c.loop-node.invariant.0 c.loop-node.invariant.1
    (λ v l. c.loop-node.invariant.2 v (omega (arith, l, c.loop-node-test.false)))
