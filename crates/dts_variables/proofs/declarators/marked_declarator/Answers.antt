use Rattle.es_syntax.specs.Held.{held, valued}
use Rattle.dts_variables.proofs.NameLemmas.{other_made}
use Rattle.dts_variables.proofs.RuleLemmas.{other_array, other_object}
use Rattle.dts_variables.proofs.declarators.marked_declarator.Goals as goal

pub returns-in-Some-Ident-clause-written : goal.returns-in-Some-Ident-clause-written
returns-in-Some-Ident-clause-written c = λ e by knows.
    let x = c.args.env.now.text.now in
    let ts = c.args.env.now.tokens.now in
    c.name_declarator.ensures.written e (rw c.in-Some-Ident.field-0-is at (c.in-Some-Ident.ensures.form x ts)) by knows

pub returns-in-Some-Array-clause-written : goal.returns-in-Some-Array-clause-written
returns-in-Some-Array-clause-written c = λ e by knows.
    let x = c.args.env.now.text.now in
    let ts = c.args.env.now.tokens.now in
    other_made x ts by c.args.out.now c.noted_declarator.new.out _ _ (valued x ts c.args.name.now)
    (held x ts c.args.ty.now.entries.now) _
    (other_array by ts _ _ (valued x ts c.args.name.now)
    (rw c.in-Some-Array.field-0-is at (c.in-Some-Array.ensures.form x ts)))
    (c.noted_declarator.ensures.noted e) (c.noted_declarator.ensures.written e x ts)

pub returns-in-Some-Object-clause-written : goal.returns-in-Some-Object-clause-written
returns-in-Some-Object-clause-written c = λ e by knows.
    let x = c.args.env.now.text.now in
    let ts = c.args.env.now.tokens.now in
    other_made x ts by c.args.out.now c.noted_declarator-in-Some-Object.new.out _ _ (valued x ts c.args.name.now)
    (held x ts c.args.ty.now.entries.now) _
    (other_object by _ (valued x ts c.args.name.now)
    (rw c.in-Some-Object.field-0-is at (c.in-Some-Object.ensures.form x ts)))
    (c.noted_declarator-in-Some-Object.ensures.noted e) (c.noted_declarator-in-Some-Object.ensures.written e x ts)
