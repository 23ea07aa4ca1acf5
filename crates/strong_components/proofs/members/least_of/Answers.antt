use Rattle.std.proofs.Common.{arith}
use Rattle.strong_components.proofs.MemberLemmas.{least_members}
use Rattle.strong_components.proofs.members.least_of.Goals as goal

pub returns : goal.returns
returns c =
    least_members c.args.links.now c.args.roots.now c.args.members.now c.requires.within c.requires.roots
    c.requires.members c.loop-node.least
    (omega (arith, c.loop-node.invariant.0, c.loop-node-test.false, c.loop-node.auto.node-end, c.requires.roots.len))
    (λ v l. c.loop-node.invariant.1 v (omega (arith, l, c.loop-node-test.false, c.requires.roots.len)))
