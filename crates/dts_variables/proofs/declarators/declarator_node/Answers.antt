use Rattle.dts_variables.proofs.DeclaratorLemmas.{array_alone, assigned_there, name_alone, object_alone, typed_there}
use Rattle.dts_variables.proofs.declarators.declarator_node.Goals as goal

pub returns-in-Declarator-clause-written : goal.returns-in-Declarator-clause-written
returns-in-Declarator-clause-written c = λ e by knows.
    let x = c.args.env.now.text.now in
    let ts = c.args.env.now.tokens.now in
    assigned_there by x ts c.args.out.now c.assigned_node.new.out c.args.it.now c.args.label c.requires.is
    c.in-Declarator.is (c.assigned_node.ensures.written e by knows)

pub returns-in-TypedDeclarator-clause-written : goal.returns-in-TypedDeclarator-clause-written
returns-in-TypedDeclarator-clause-written c = λ e by knows.
    let x = c.args.env.now.text.now in
    let ts = c.args.env.now.tokens.now in
    typed_there by x ts c.args.out.now c.typed_node.new.out c.args.it.now c.args.label c.requires.is
    c.in-TypedDeclarator.is (c.typed_node.ensures.written e by knows)

pub returns-in-NamePattern-clause-written : goal.returns-in-NamePattern-clause-written
returns-in-NamePattern-clause-written c = λ e by knows.
    let x = c.args.env.now.text.now in
    let ts = c.args.env.now.tokens.now in
    name_alone by x ts c.args.out.now c.own_declarator.new.out c.args.it.now c.args.label c.requires.is
    c.in-NamePattern.is (c.own_declarator.ensures.written e by knows)

pub returns-in-ArrayPattern-clause-written : goal.returns-in-ArrayPattern-clause-written
returns-in-ArrayPattern-clause-written c = λ e by knows.
    let x = c.args.env.now.text.now in
    let ts = c.args.env.now.tokens.now in
    array_alone by x ts c.args.out.now c.own_declarator-in-ArrayPattern.new.out c.args.it.now c.args.label
    c.requires.is
    c.in-ArrayPattern.is (c.own_declarator-in-ArrayPattern.ensures.written e by knows)

pub returns-in-ObjectPattern-clause-written : goal.returns-in-ObjectPattern-clause-written
returns-in-ObjectPattern-clause-written c = λ e by knows.
    let x = c.args.env.now.text.now in
    let ts = c.args.env.now.tokens.now in
    object_alone by x ts c.args.out.now c.own_declarator-in-ObjectPattern.new.out c.args.it.now c.args.label
    c.requires.is
    c.in-ObjectPattern.is (c.own_declarator-in-ObjectPattern.ensures.written e by knows)
