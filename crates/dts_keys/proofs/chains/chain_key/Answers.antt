use Rattle.std.proofs.Common.{◌∙◌}
use Rattle.dts_keys.proofs.ChainLemmas.{node_at, lean_at}
use Rattle.dts_keys.proofs.chains.chain_key.Goals as goal

-- a node that begins no name
pub returns-else-may_begin-clause-written : goal.returns-else-may_begin-clause-written
returns-else-may_begin-clause-written c = λ e env x.
    node_at env x _ _ _ _ _ _ _ c.args.base.now _ c.in-Node.is (c.may_begin.ensures ∙ c.if-may_begin.false)
    (c.nameless_key.ensures.written e env x)

-- what leans left
pub returns-in-Lean-clause-written : goal.returns-in-Lean-clause-written
returns-in-Lean-clause-written c = λ e env x.
    lean_at env x _ _ _ _ _ _ _ c.args.base.now _ c.in-Lean.is (c.nameless_key-in-Lean.ensures.written e env x)
