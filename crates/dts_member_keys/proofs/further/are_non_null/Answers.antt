use Rattle.dts_member_keys.proofs.LinkLemmas.{links_next, links_none}
use Rattle.dts_member_keys.proofs.further.are_non_null.Goals as goal

-- one turn less is left
pub loop-turn-preserved : goal.loop-turn-preserved
loop-turn-preserved c = λ by x ts after left.
    c.loop-turn.invariant by x ts after
    (links_next by _ _ _ _ _ _ after (c.in-Some.ensures.value x ts) c.both-all.ensures
    (c.is_non_null_turn-bang.ensures by x ts) left)

pub returns : goal.returns
returns c = λ by x ts. c.loop-turn.invariant by x ts _ (links_none by _ _ (c.in_default.ensures.value x ts))
