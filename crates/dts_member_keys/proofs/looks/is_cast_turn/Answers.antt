use Rattle.es_syntax.specs.Held.{held, valued}
use Rattle.dts_member_keys.proofs.CastLemmas.{leaning_binary, leaning_typed}
use Rattle.dts_member_keys.proofs.looks.is_cast_turn.Goals as goal

pub returns-in-Binary : goal.returns-in-Binary
returns-in-Binary c = λ by x ts to. rw c.in-Binary.is (leaning_binary by x ts to (valued x ts c.args.turn.now))

pub returns-in-TypedBinary : goal.returns-in-TypedBinary
returns-in-TypedBinary c = λ by x ts to.
    rw c.in-TypedBinary.is
    (leaning_typed by x ts to (valued x ts c.args.turn.now) (held x ts c.group.result.entries.now)
    (held x ts c.group_at.result.entries.now) c.is_cast.result (c.group_at.ensures.value x ts)
    (c.group.ensures.value x ts) (c.is_cast.ensures by x ts))
