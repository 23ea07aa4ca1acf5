use Rattle.es_syntax.specs.Held.{held, valued}
use Rattle.dts_enums.proofs.PostLemmas.{group_named}
use Rattle.dts_enums.proofs.posts.is_named_group.Goals as goal

pub returns-in-Some : goal.returns-in-Some
returns-in-Some c = λ x ts env r.
    group_named env x ts r (held x ts c.args.group.now.entries.now) (valued x ts c.in-Some.first)
    (held x ts c.in-Some.field-0-1.entries.now) c.is_named.result (c.in-Some.ensures.value x ts)
    (c.is_named.ensures x ts env r)
