use Rattle.es_syntax.specs.Held.{held, valued}
use Rattle.dts_variables.proofs.DeclaratorLemmas.{assigned}
use Rattle.dts_variables.proofs.declarators.assigned_node.Goals as goal

pub returns-in-Some-part-clause-written : goal.returns-in-Some-part-clause-written
returns-in-Some-part-clause-written c = λ e by knows.
    let x = c.args.env.now.text.now in
    let ts = c.args.env.now.tokens.now in
    assigned by x ts c.args.out.now c.own_declarator.new.out _ (held x ts c.args.parts.now.entries.now)
    (valued x ts c.in-Some.name) (valued x ts c.in-Some-part.value) (c.in-Some.ensures.value x ts)
    (c.in-Some-part.ensures.value x ts) (c.own_declarator.ensures.written e by knows)
