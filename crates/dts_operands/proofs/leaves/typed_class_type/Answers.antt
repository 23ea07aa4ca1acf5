use Rattle.es_syntax.specs.Held.{held, valued}
use Rattle.es_syntax.specs.Roles.{expr_in}
use Rattle.dts_operands.proofs.LeafLemmas.{typed_new_some}
use Rattle.dts_operands.proofs.leaves.typed_class_type.Goals as goal

-- with types
pub returns-in-Some-clause-written : goal.returns-in-Some-clause-written
returns-in-Some-clause-written c = λ e by knows r args.
    let x = c.args.env.now.text.now in
    let ts = c.args.env.now.tokens.now in
    typed_new_some by x ts c.args.literal c.args.out.now.row r (expr_in (valued x ts c.args.callee.now))
    (held x ts c.args.type_args.now.entries.now) args _ _ (c.in-Some.ensures.value x ts)
