use Rattle.dts_variables.proofs.DeclaratorLemmas.{own_made}
use Rattle.dts_variables.proofs.declarators.own_declarator.Goals as goal

pub returns-clause-written : goal.returns-clause-written
returns-clause-written c = λ e by knows.
    let x = c.args.env.now.text.now in
    let ts = c.args.env.now.tokens.now in
    own_made by x ts c.args.out.now c.marked_declarator.new.out _ c.args.name.now _ _ _
    (c.own_pattern.ensures c.if-not-own_pattern.false x ts) (c.nothing.ensures x ts) (c.nothing-2.ensures x ts)
    (c.marked_declarator.ensures.written e by knows)
