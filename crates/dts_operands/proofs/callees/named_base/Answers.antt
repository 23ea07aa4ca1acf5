use Rattle.dts_operands.proofs.CalleeLemmas.{base_object, base_neither}
use Rattle.dts_operands.proofs.callees.named_base.Goals as goal

pub returns-then-is_unresolved-clause-is : goal.returns-then-is_unresolved-clause-is
returns-then-is_unresolved-clause-is c = λ by knows.
    let x = c.args.env.now.text.now in
    let ts = c.args.env.now.tokens.now in
    rw (c.in-Some-Ident.ensures.form x ts, c.in-Some-Ident.field-0-is)
    (base_object by x ts c.is_unresolved.result _ c.if-is_unresolved.true (c.is_unresolved.ensures by knows))

pub returns-else-is_unresolved-clause-is : goal.returns-else-is_unresolved-clause-is
returns-else-is_unresolved-clause-is c = λ by knows.
    let x = c.args.env.now.text.now in
    let ts = c.args.env.now.tokens.now in
    rw (c.in-Some-Ident.ensures.form x ts, c.in-Some-Ident.field-0-is)
    (base_neither by x ts c.is_unresolved.result _ c.if-is_unresolved.false (c.is_unresolved.ensures by knows))
