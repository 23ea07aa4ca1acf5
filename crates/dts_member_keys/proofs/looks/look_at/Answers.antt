use Rattle.std.proofs.Common.{◌∙◌}
use Rattle.dts_member_keys.proofs.LookLemmas.{broken, lean_at, node_none}
use Rattle.dts_member_keys.proofs.looks.look_at.Goals as goal

pub returns-else-may_be_key-clause-tells : goal.returns-else-may_be_key-clause-tells
returns-else-may_be_key-clause-tells c = λ by knows.
    node_none by c.args.env.now.text.now c.args.env.now.tokens.now c.args.it.now _ c.in-Node.is
    (c.may_be_key.ensures ∙ c.if-may_be_key.false)

pub returns-in-Lean-clause-tells : goal.returns-in-Lean-clause-tells
returns-in-Lean-clause-tells c = λ by knows.
    let x = c.args.env.now.text.now in
    let ts = c.args.env.now.tokens.now in
    lean_at by x ts c.lean_look.result c.args.it.now _ c.in-Lean.is
    (c.lean_look.ensures.tells by x ts c.args.it.now.from)

pub returns-in-Leaf-clause-tells : goal.returns-in-Leaf-clause-tells
returns-in-Leaf-clause-tells c = λ by knows. broken by c.args.env.now.text.now c.args.env.now.tokens.now _

pub returns-in-Role-clause-tells : goal.returns-in-Role-clause-tells
returns-in-Role-clause-tells c = λ by knows. broken by c.args.env.now.text.now c.args.env.now.tokens.now _

pub returns-in-Parts-clause-tells : goal.returns-in-Parts-clause-tells
returns-in-Parts-clause-tells c = λ by knows. broken by c.args.env.now.text.now c.args.env.now.tokens.now _
