use Rattle.dts_member_keys.proofs.LookLemmas.{name_told, number_told, paren_sees, str_told}
use Rattle.dts_member_keys.proofs.looks.node_look.Goals as goal

pub returns-in-Some-Ident-clause-tells : goal.returns-in-Some-Ident-clause-tells
returns-in-Some-Ident-clause-tells c = λ by knows.
    let x = c.args.env.now.text.now in
    let ts = c.args.env.now.tokens.now in
    name_told by x ts c.args.it.now _ (rw c.in-Some-Ident.field-0-is at (c.in-Some-Ident.ensures.form x ts))

pub returns-in-Some-Str-clause-tells : goal.returns-in-Some-Str-clause-tells
returns-in-Some-Str-clause-tells c = λ by knows.
    let x = c.args.env.now.text.now in
    let ts = c.args.env.now.tokens.now in
    rw (c.in-Some-Str.ensures.form x ts, c.in-Some-Str.field-0-is) (str_told by x ts _)

pub returns-in-Some-Number-clause-tells : goal.returns-in-Some-Number-clause-tells
returns-in-Some-Number-clause-tells c = λ by knows.
    let x = c.args.env.now.text.now in
    let ts = c.args.env.now.tokens.now in
    rw (c.in-Some-Number.ensures.form x ts, c.in-Some-Number.field-0-is) (number_told by x ts _)

pub returns-in-Some-Paren-clause-tells : goal.returns-in-Some-Paren-clause-tells
returns-in-Some-Paren-clause-tells c = λ by knows.
    let x = c.args.env.now.text.now in
    let ts = c.args.env.now.tokens.now in
    rw (c.in-Some-Paren.ensures.form x ts, c.in-Some-Paren.field-0-is) (paren_sees by x ts _ _)
