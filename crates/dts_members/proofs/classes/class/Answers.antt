use Rattle.dts_members.proofs.ClassLemmas.{abstract_decl, abstract_declarable, plain_decl, plain_declarable, typed_decl, typed_declarable}
use Rattle.dts_members.proofs.classes.class.Goals as goal

pub returns-in-Class-clause-decl : goal.returns-in-Class-clause-decl
returns-in-Class-clause-decl c = λ e by knows known.
    let x = c.args.env.now.text.now in
    let ts = c.args.env.now.tokens.now in
    plain_decl by x ts c.args.out.now c.plain_class.new.out c.args.it.now c.in-Node.label c.in-Node.is c.in-Class.is
    (c.plain_class.ensures.written e by knows known)

pub returns-in-Class-clause-declarable : goal.returns-in-Class-clause-declarable
returns-in-Class-clause-declarable c = λ e by knows known.
    let x = c.args.env.now.text.now in
    let ts = c.args.env.now.tokens.now in
    plain_declarable by x ts c.args.out.now c.plain_class.new.out c.args.it.now c.in-Node.label c.in-Node.is
    c.in-Class.is

pub returns-in-TypedClass-clause-decl : goal.returns-in-TypedClass-clause-decl
returns-in-TypedClass-clause-decl c = λ e by knows known.
    let x = c.args.env.now.text.now in
    let ts = c.args.env.now.tokens.now in
    typed_decl by x ts c.args.out.now c.typed_class.new.out c.args.it.now c.in-Node.label c.in-Node.is
    c.in-TypedClass.is
    (c.typed_class.ensures.written e by knows known)

pub returns-in-TypedClass-clause-declarable : goal.returns-in-TypedClass-clause-declarable
returns-in-TypedClass-clause-declarable c = λ e by knows known.
    let x = c.args.env.now.text.now in
    let ts = c.args.env.now.tokens.now in
    typed_declarable by x ts c.args.out.now c.typed_class.new.out c.args.it.now c.in-Node.label c.in-Node.is
    c.in-TypedClass.is
    (c.typed_class.ensures.written e by knows known)

pub returns-in-AbstractClass-clause-decl : goal.returns-in-AbstractClass-clause-decl
returns-in-AbstractClass-clause-decl c = λ e by knows known.
    let x = c.args.env.now.text.now in
    let ts = c.args.env.now.tokens.now in
    abstract_decl by x ts c.args.out.now c.typed_class-in-AbstractClass.new.out c.args.it.now c.in-Node.label
    c.in-Node.is c.in-AbstractClass.is
    (c.typed_class-in-AbstractClass.ensures.written e by knows known)

pub returns-in-AbstractClass-clause-declarable : goal.returns-in-AbstractClass-clause-declarable
returns-in-AbstractClass-clause-declarable c = λ e by knows known.
    let x = c.args.env.now.text.now in
    let ts = c.args.env.now.tokens.now in
    abstract_declarable by x ts c.args.out.now c.typed_class-in-AbstractClass.new.out c.args.it.now c.in-Node.label
    c.in-Node.is c.in-AbstractClass.is
    (c.typed_class-in-AbstractClass.ensures.written e by knows known)
