use Rattle.es_syntax.specs.Held.{held, valued}
use Rattle.dts_enums.proofs.PostLemmas.{along_next}
use Rattle.dts_enums.proofs.posts.are_accesses.Goals as goal

-- one turn less is left
pub loop-turn-preserved : goal.loop-turn-preserved
loop-turn-preserved c = λ x ts env after left.
    c.loop-turn.invariant x ts env after
    (along_next env (held x ts c.loop-turn.row.entries.now) (valued x ts c.in-Some.turn)
    (held x ts c.in-Some.rest.entries.now) c.loop-turn.there c.is_access_in-access.result c.both-there.result after
    (c.in-Some.ensures.value x ts) c.both-there.ensures (c.is_access_in-access.ensures x ts env) left)
