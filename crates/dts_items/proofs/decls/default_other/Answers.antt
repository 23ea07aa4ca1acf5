use Rattle.es_syntax.specs.Held.{valued}
use Rattle.es_syntax.specs.Roles.{decl_in}
use Rattle.dts_draft.proofs.There.{same}
use Rattle.dts_items.specs.Decls.{DefaultPuts}
use Rattle.dts_items.proofs.DeclLemmas.{class_defaulted, plain_defaulted}
use Rattle.dts_items.proofs.decls.default_other.Goals as goal

pub returns-in-Some-Function-clause-written : goal.returns-in-Some-Function-clause-written
returns-in-Some-Function-clause-written c = λ e by knows listed.
    let x = c.args.env.now.text.now in
    let ts = c.args.env.now.tokens.now in
    same (DefaultPuts x ts by c.args.out.now c.plain_function.new.out) (decl_in (valued x ts c.args.it.now)) _
    (rw c.in-Some-Function.field-0-is at (c.in-Some-Function.ensures.form x ts))
    (plain_defaulted by x ts c.args.out.now c.plain_function.new.out _ _
    (c.plain_function.ensures.written e by knows))

pub returns-in-Some-Class-clause-written : goal.returns-in-Some-Class-clause-written
returns-in-Some-Class-clause-written c = λ e by knows listed.
    let x = c.args.env.now.text.now in
    let ts = c.args.env.now.tokens.now in
    class_defaulted by x ts c.args.out.now c.class.new.out _ (c.class.ensures.decl e by knows listed)
