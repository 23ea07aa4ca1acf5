use Rattle.strong_components.proofs.MemberLemmas.{members_begun, members_more}
use Rattle.strong_components.proofs.members.members_of.Goals as goal

pub loop-node-init : goal.loop-node-init
loop-node-init c =
    members_begun c.args.roots.now c.in_ok-members.members.items c.in_ok-members.ensures.len
    c.in_ok-members.ensures.none

pub loop-node-preserved : goal.loop-node-preserved
loop-node-preserved c =
    rw c.in_ok-add.ensures.put
    (members_more c.args.roots.now c.loop-node.node c.loop-node.members.items c.loop-node.invariant
    (c.requires c.loop-node.node c.loop-node-test.true))
