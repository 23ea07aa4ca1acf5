use Rattle.std.proofs.Common.{◌∙◌}
use Rattle.dts_kept.proofs.MemberLemmas.{members_next, members_end, members_done}
use Rattle.dts_kept.proofs.members.all_members.Goals as goal

-- one turn less is left
pub loop-turn-preserved : goal.loop-turn-preserved
loop-turn-preserved c = (
  λ e. c.loop-turn.invariant.0 (c.member_turn.ensures.before e),
  c.member_turn.ensures.state ∙ c.loop-turn.invariant.1,
  λ e x ts.
      members_next x ts (c.in-Some.ensures.value x ts)
      (c.loop-turn.invariant.2 (c.member_turn.ensures.before e) x ts) c.if-not-member_turn.false
      (c.member_turn.ensures.written e x ts),
)

-- the first that can't be `readonly` ends them
pub returns-then-not-member_turn-clause-written : goal.returns-then-not-member_turn-clause-written
returns-then-not-member_turn-clause-written c = λ e x ts.
    members_end x ts _ (c.in-Some.ensures.value x ts)
    (c.loop-turn.invariant.2 (c.member_turn.ensures.before e) x ts) c.if-not-member_turn.true
    (c.member_turn.ensures.written e x ts)

-- and where none is left, all are
pub returns-clause-written : goal.returns-clause-written
returns-clause-written c =
    λ e x ts. members_done x ts (c.in_default.ensures.value x ts) (c.loop-turn.invariant.2 e x ts)
