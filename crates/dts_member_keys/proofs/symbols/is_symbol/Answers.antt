use Rattle.std.proofs.Common.{◌∙◌}
use Rattle.dts_member_keys.proofs.LookLemmas.{own_symbol, other_symbol, lean_symbol_at, leaf_symbol, role_symbol, parts_symbol}
use Rattle.dts_member_keys.proofs.symbols.is_symbol.Goals as goal

pub returns-then-is_name : goal.returns-then-is_name
returns-then-is_name c = λ by knows.
    own_symbol by c.args.env.now.text.now c.args.env.now.tokens.now c.args.it.now _ c.own_symbol.result c.in-Node.is
    (λ from r. c.own_symbol.ensures (c.is_name.ensures ∙ c.if-is_name.true) from r by knows)

pub returns-else-is_name : goal.returns-else-is_name
returns-else-is_name c = λ by knows.
    other_symbol by c.args.env.now.text.now c.args.env.now.tokens.now c.args.it.now _ c.in-Node.is
    (c.is_name.ensures ∙ c.if-is_name.false)

pub returns-in-Lean : goal.returns-in-Lean
returns-in-Lean c = λ by knows.
    lean_symbol_at by c.args.env.now.text.now c.args.env.now.tokens.now c.args.it.now _ c.in-Lean.is

pub returns-in-Leaf : goal.returns-in-Leaf
returns-in-Leaf c = λ by knows.
    leaf_symbol by c.args.env.now.text.now c.args.env.now.tokens.now c.args.it.now _ c.in-Leaf.is

pub returns-in-Role : goal.returns-in-Role
returns-in-Role c = λ by knows.
    role_symbol by c.args.env.now.text.now c.args.env.now.tokens.now c.args.it.now _ _ c.in-Role.is

pub returns-in-Parts : goal.returns-in-Parts
returns-in-Parts c = λ by knows.
    parts_symbol by c.args.env.now.text.now c.args.env.now.tokens.now c.args.it.now _ c.in-Parts.is
