use Rattle.es_syntax.specs.Held.{held, valued}
use Rattle.dts_member_keys.proofs.CastLemmas.{group_right}
use Rattle.dts_member_keys.proofs.looks.is_cast.Goals as goal

-- a word, and what is behind it
pub returns-in-Some-split : goal.returns-in-Some-split
returns-in-Some-split c = λ by x ts.
    group_right by ts (held x ts c.args.turn.now.entries.now) (valued x ts c.in-Some.right)
    (held x ts c.group.result.entries.now) _ _ (c.in-Some.ensures.value x ts) (c.group.ensures.value x ts)
    (c.in-Some-split.ensures.value x ts)
