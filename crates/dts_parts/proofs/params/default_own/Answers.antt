use Rattle.dts_parts.proofs.ParamLemmas.{default_own}
use Rattle.dts_parts.proofs.params.default_own.Goals as goal

pub returns-clause-written : goal.returns-clause-written
returns-clause-written c = λ e by knows span.
    let x = c.args.env.now.text.now in
    let ts = c.args.env.now.tokens.now in
    default_own by x ts c.args.out.now c.marked_default.new.out c.args.left.now _ span _ _ _
    (c.own_pattern.ensures c.if-not-own_pattern.false x ts) (c.nothing.ensures x ts) (c.nothing-2.ensures x ts)
    (c.marked_default.ensures.written e by knows)
