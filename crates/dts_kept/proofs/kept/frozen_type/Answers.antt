use Rattle.std.proofs.Common.{◌∙◌}
use Rattle.dts_kept.proofs.KeptLemmas.{own, other}
use Rattle.dts_kept.proofs.kept.frozen_type.Goals as goal

-- a node of an alternative that has such a type
pub returns-then-may_freeze-clause-written : goal.returns-then-may_freeze-clause-written
returns-then-may_freeze-clause-written c = λ e x.
    own x _ _ _ _ c.args.ty.now _ c.in-Node.is (λ known.
    c.frozen_node.ensures.written e (c.may_freeze.ensures ∙ c.if-may_freeze.true) x known)

-- and of one that hasn't
pub returns-else-may_freeze-clause-written : goal.returns-else-may_freeze-clause-written
returns-else-may_freeze-clause-written c = λ e x.
    other x _ _ c.args.ty.now _ c.in-Node.is (c.may_freeze.ensures ∙ c.if-may_freeze.false)
