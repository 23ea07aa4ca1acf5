use Rattle.std.proofs.Common.{◌∙◌}
use Rattle.dts_kept.proofs.MemberLemmas.{member_own, member_none}
use Rattle.dts_kept.proofs.members.frozen_member.Goals as goal

-- a node of an alternative that may be `readonly`
pub returns-then-may_mark-clause-written : goal.returns-then-may_mark-clause-written
returns-then-may_mark-clause-written c = λ e x ts.
    member_own x ts _ _ _ c.args.member.now _ c.in-Node.is (λ known.
    c.member_node.ensures.written e (c.may_mark.ensures ∙ c.if-may_mark.true) x ts known)

-- and of one that may not
pub returns-else-may_mark-clause-written : goal.returns-else-may_mark-clause-written
returns-else-may_mark-clause-written c = λ e x ts.
    member_none x ts _ c.args.member.now _ c.in-Node.is (c.may_mark.ensures ∙ c.if-may_mark.false)
