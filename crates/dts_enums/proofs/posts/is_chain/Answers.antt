use Rattle.es_syntax.specs.Held.{held, valued}
use Rattle.dts_enums.proofs.PostLemmas.{chain_along}
use Rattle.dts_enums.proofs.posts.is_chain.Goals as goal

pub returns-in-Some : goal.returns-in-Some
returns-in-Some c = λ x ts env r known.
    chain_along env r (held x ts c.args.parts.now.entries.now) (valued x ts c.in-Some.first)
    (held x ts c.group_at.result.entries.now) c.args.before c.is_access-access.result c.both.result
    c.are_accesses.result (c.in-Some.ensures.value x ts) (c.group_at.ensures.value x ts) c.both.ensures
    (c.is_access-access.ensures x ts env) (c.are_accesses.ensures x ts env) known
