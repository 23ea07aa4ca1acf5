use Rattle.es_syntax.specs.Roles.{expr_in}
use Rattle.es_syntax.specs.Held.{valued}
use Rattle.dts_parts.proofs.GroupLemmas.{type_kept, type_made}
use Rattle.dts_parts.proofs.annotations.type_group.Goals as goal

-- its own type
pub returns-in-Some-clause-written : goal.returns-in-Some-clause-written
returns-in-Some-clause-written c = λ e by knows.
    let x = c.args.env.now.text.now in
    let ts = c.args.env.now.tokens.now in
    type_kept x ts by c.args.out.now c.kept_group.new.out _ _ _ _ (expr_in (valued x ts c.args.right.now))
    (c.in-Some.ensures.value x ts) (c.kept_group.ensures.written e x ts) c.kept_group.ensures.state

-- that of the default
pub returns-in-None-clause-written : goal.returns-in-None-clause-written
returns-in-None-clause-written c = λ e by knows.
    let x = c.args.env.now.text.now in
    let ts = c.args.env.now.tokens.now in
    type_made x ts by c.args.out.now c.default_after.new.out _ _ _ (c.in-None.ensures.value x ts)
    (c.default_after.ensures.written e by knows)
