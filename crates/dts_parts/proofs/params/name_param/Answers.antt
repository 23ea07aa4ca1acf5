use Rattle.dts_parts.proofs.ParamLemmas.{any_own}
use Rattle.dts_parts.proofs.params.name_param.Goals as goal

pub returns-in-Some-Ident-clause-written : goal.returns-in-Some-Ident-clause-written
returns-in-Some-Ident-clause-written c = λ e by.
    let x = c.args.env.now.text.now in
    let ts = c.args.env.now.tokens.now in
    any_own by x ts c.args.out.now c.marked_any.new.out c.args.node.now _ _ _
    (c.own_pattern.ensures c.if-not-own_pattern.false x ts) (c.nothing.ensures x ts)
    (rw c.in-Some-Ident.field-0-is at (c.in-Some-Ident.ensures.form x ts)) (c.marked_any.ensures.written e by)
