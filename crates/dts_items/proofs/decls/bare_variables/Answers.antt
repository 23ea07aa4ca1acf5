use Rattle.dts_items.proofs.DeclLemmas.{bare_there}
use Rattle.dts_items.proofs.decls.bare_variables.Goals as goal

pub returns-in-Variables-clause-written : goal.returns-in-Variables-clause-written
returns-in-Variables-clause-written c = λ e by knows.
    let x = c.args.env.now.text.now in
    let ts = c.args.env.now.tokens.now in
    bare_there by x ts c.args.out.now c.variables.new.out c.args.it.now c.in-Node.label c.in-Node.is c.in-Variables.is
    (c.variables.ensures.written e by knows)
