use Rattle.es_syntax.specs.Held.{valued}
use Rattle.es_syntax.specs.Roles.{decl_in}
use Rattle.dts_draft.proofs.There.{same}
use Rattle.dts_items.specs.Changed.{DeclChanged}
use Rattle.dts_items.proofs.DeclLemmas.{class_changed, plain_changed, variables_form, Unless}
use Rattle.dts_items.proofs.decls.other_decl.Goals as goal

pub returns-in-Some-Function-clause-written : goal.returns-in-Some-Function-clause-written
returns-in-Some-Function-clause-written c = λ e by knows listed.
    let x = c.args.env.now.text.now in
    let ts = c.args.env.now.tokens.now in
    same (Unless by (DeclChanged x ts by c.args.out.now c.plain_function.new.out)) (decl_in (valued x ts c.args.it.now))
    _ (rw c.in-Some-Function.field-0-is at (c.in-Some-Function.ensures.form x ts))
    (plain_changed by x ts c.args.out.now c.plain_function.new.out _ _
    (c.plain_function.ensures.written e by knows))

pub returns-in-Some-Class-clause-written : goal.returns-in-Some-Class-clause-written
returns-in-Some-Class-clause-written c = λ e by knows listed.
    let x = c.args.env.now.text.now in
    let ts = c.args.env.now.tokens.now in
    class_changed by x ts c.args.out.now c.class.new.out _ (c.class.ensures.decl e by knows listed)

pub returns-in-Some-Variables-clause-written : goal.returns-in-Some-Variables-clause-written
returns-in-Some-Variables-clause-written c = λ e by knows listed.
    let x = c.args.env.now.text.now in
    let ts = c.args.env.now.tokens.now in
    same (Unless by (DeclChanged x ts by c.args.out.now c.variable_declaration.new.out))
    (decl_in (valued x ts c.args.it.now)) _
    (variables_form by x ts (decl_in (valued x ts c.args.it.now)) _ _
    (rw c.in-Some-Variables.field-0-is at (c.in-Some-Variables.ensures.form x ts)))
    (c.variable_declaration.ensures.written e by knows)

pub returns-in-Some-Var-clause-written : goal.returns-in-Some-Var-clause-written
returns-in-Some-Var-clause-written c = λ e by knows listed. c.bare_variables.ensures.written e by knows
