use Rattle.dts_leaves.proofs.Words.{str_own}
use Rattle.dts_leaves.proofs.literals.str_type.Goals as goal

-- the string itself
pub returns-then-literal-clause-written : goal.returns-then-literal-clause-written
returns-then-literal-clause-written c = λ e env x ts.
    str_own env x ts c.if-literal.true (c.gone.ensures.written (c.leaf_node.ensures.before e) x ts)
    (c.leaf_node.ensures.written e x ts)
