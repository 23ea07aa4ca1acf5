use Rattle.dts_variables.proofs.ListLemmas.{variables_there}
use Rattle.dts_variables.proofs.lists.variables.Goals as goal

pub returns-in-Variables-clause-written : goal.returns-in-Variables-clause-written
returns-in-Variables-clause-written c = λ e by knows.
    let x = c.args.env.now.text.now in
    let ts = c.args.env.now.tokens.now in
    variables_there by x ts c.args.out.now c.variables_node.new.out c.args.it.now c.in-Node.label c.in-Node.is
    c.in-Variables.is (c.variables_node.ensures.written e by knows)
