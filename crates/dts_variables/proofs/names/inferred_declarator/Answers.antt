use Rattle.dts_variables.proofs.names.inferred_declarator.Goals as goal

pub returns-in-Some-clause-written : goal.returns-in-Some-clause-written
returns-in-Some-clause-written c = λ e by knows.
    let x = c.args.env.now.text.now in
    let ts = c.args.env.now.tokens.now in
    c.inferred_up_to.ensures.written e (c.in-Some.ensures x ts) by knows
