use Rattle.es_syntax.specs.Held.{held, valued}
use Rattle.dts_variables.proofs.NameLemmas.{typed_made, untyped_made}
use Rattle.dts_variables.proofs.declarators.name_declarator.Goals as goal

-- with a type
pub returns-in-Some-clause-written : goal.returns-in-Some-clause-written
returns-in-Some-clause-written c = λ e same by knows.
    let x = c.args.env.now.text.now in
    let ts = c.args.env.now.tokens.now in
    typed_made x ts by c.args.out.now c.kept_declarator.new.out _ _ c.args.at (valued x ts c.args.name.now)
    (held x ts c.args.ty.now.entries.now) _ _ _ (c.in-Some.ensures.value x ts) same c.kept_declarator.ensures.state
    (c.kept_declarator.ensures.written e x ts)

-- without one
pub returns-in-None-clause-written : goal.returns-in-None-clause-written
returns-in-None-clause-written c = λ e same by knows.
    let x = c.args.env.now.text.now in
    let ts = c.args.env.now.tokens.now in
    untyped_made x ts by c.args.out.now c.inferred_declarator.new.out _ _ (valued x ts c.args.name.now)
    (held x ts c.args.ty.now.entries.now) _ (c.in-None.ensures.value x ts)
    (c.inferred_declarator.ensures.written e by knows same)
