use Rattle.dts_members.proofs.TurnLemmas.{members_all, members_done, members_next}
use Rattle.dts_members.proofs.classes.all_members.Goals as goal

pub loop-turn-init : goal.loop-turn-init
loop-turn-init c = (
  λ e. e,
  λ e by knows known.
      let x = c.args.env.now.text.now in
      let ts = c.args.env.now.tokens.now in
      members_all by x ts _ _,
)

-- one turn less is left
pub loop-turn-preserved : goal.loop-turn-preserved
loop-turn-preserved c = (
  λ e. c.loop-turn.invariant.0 (c.member_turn.ensures.before e),
  λ e by knows known.
      let x = c.args.env.now.text.now in
      let ts = c.args.env.now.tokens.now in
      members_next by x ts _ _ _ _ _ _ _ (c.in-Some.ensures.value x ts)
      (c.loop-turn.invariant.1 (c.member_turn.ensures.before e) by knows known)
      (c.member_turn.ensures.written e by knows known),
)

pub returns-clause-written : goal.returns-clause-written
returns-clause-written c = λ e by knows known.
    let x = c.args.env.now.text.now in
    let ts = c.args.env.now.tokens.now in
    members_done by x ts _ _ _ _ (c.in_default.ensures.value x ts) (c.loop-turn.invariant.1 e by knows known)
