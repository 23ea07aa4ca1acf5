use Rattle.es_syntax.specs.Held.{parts_of, valued}
use Rattle.dts_member_keys.proofs.CastLemmas.{leaned_next, leaned_none}
use Rattle.dts_member_keys.proofs.looks.are_casts.Goals as goal

-- one turn less is left
pub loop-turn-preserved : goal.loop-turn-preserved
loop-turn-preserved c = λ by x ts after left.
    c.loop-turn.invariant by x ts after
    (leaned_next by x ts _ (parts_of x ts c.loop-turn.row.entries.now) (parts_of x ts c.in-Some.rest.entries.now)
    (c.in-Some.turn.to, valued x ts c.in-Some.turn) c.is_cast_turn-cast.result c.loop-turn.casts c.both-casts.result after
    (c.in-Some.ensures.parts x ts) c.both-casts.ensures (c.is_cast_turn-cast.ensures by x ts c.in-Some.turn.to) left)

pub returns : goal.returns
returns c = λ by x ts. c.loop-turn.invariant by x ts _ (leaned_none by x ts _ _ _ (c.in_default.ensures.parts x ts))
