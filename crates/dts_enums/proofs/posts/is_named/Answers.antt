use Rattle.dts_enums.proofs.PostLemmas.{leaf_named, node_named, parts_named, lean_named}
use Rattle.es_syntax.specs.Held.{held}
use Rattle.dts_enums.proofs.posts.is_named.Goals as goal

-- by what is first
pub returns-in-Leaf : goal.returns-in-Leaf
returns-in-Leaf c = λ x ts env r vs. rw c.in-Leaf.is (leaf_named env x ts r c.args.first.now.from vs)

pub returns-in-Node : goal.returns-in-Node
returns-in-Node c = λ x ts env r vs.
    let i = c.args.first.now in
    rw c.in-Node.is (node_named env x ts r c.in-Node.field-0 i.from i.to (held x ts i.parts.entries.now) vs)

pub returns-in-Parts : goal.returns-in-Parts
returns-in-Parts c = λ x ts env r vs. rw c.in-Parts.is (parts_named env x ts r c.args.first.now.parts.entries.now vs)

pub returns-in-Lean : goal.returns-in-Lean
returns-in-Lean c = λ x ts env r vs.
    let i = c.args.first.now in
    rw c.in-Lean.is (lean_named env x ts r c.in-Lean.field-0 i.from i.parts.entries.now vs)
