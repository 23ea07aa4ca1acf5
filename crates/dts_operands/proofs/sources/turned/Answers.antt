use Rattle.es_syntax.specs.Held.{held}
use Rattle.dts_operands.proofs.SourceLemmas.{broken_right, node_right, lean_right, group_right}
use Rattle.dts_operands.proofs.sources.turned.Goals as goal

pub returns-in-None : goal.returns-in-None
returns-in-None c = λ by x. broken_right by x _ _
    (held x c.args.tokens.now c.args.turn.now.entries.now)

pub returns-in-Leaf : goal.returns-in-Leaf
returns-in-Leaf c = λ by x. broken_right by x _ _
    (held x c.args.tokens.now c.args.turn.now.entries.now)

pub returns-in-Role : goal.returns-in-Role
returns-in-Role c = λ by x. broken_right by x _ _
    (held x c.args.tokens.now c.args.turn.now.entries.now)

pub returns-in-None-split : goal.returns-in-None-split
returns-in-None-split c = λ by x. broken_right by x _ _
    (held x c.args.tokens.now c.args.turn.now.entries.now)

-- an operand
pub returns-in-Node : goal.returns-in-Node
returns-in-Node c = λ by x. node_right by x _ _ (held x c.args.tokens.now c.args.turn.now.entries.now)
    c.in-Some.right _ (c.in-Some.ensures.value x _) c.in-Node.is

pub returns-in-Lean : goal.returns-in-Lean
returns-in-Lean c = λ by x. lean_right by x _ _ (held x c.args.tokens.now c.args.turn.now.entries.now)
    c.in-Some.right _ (c.in-Some.ensures.value x _) c.in-Lean.is

-- a word, and what is behind it
pub returns-in-Some-split : goal.returns-in-Some-split
returns-in-Some-split c = λ by x.
    group_right by x _ _ _ (held x c.args.tokens.now c.args.turn.now.entries.now) c.in-Some.right _ _
    c.token_at-word.result _ (c.in-Some.ensures.value x _) c.in-Parts.is
    (c.in-Some-split.ensures.value x _) (c.token_at-word.ensures x _) c.is_as.ensures
    (λ r kind first e s d. c.asserted.ensures by x _ r kind first e s d)
