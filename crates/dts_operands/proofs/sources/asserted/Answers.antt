use Rattle.dts_operands.proofs.SourceLemmas.{anything, asserted_leaf, as_node, satisfies_node}
use Rattle.dts_operands.proofs.sources.asserted.Goals as goal

pub returns-in-Leaf : goal.returns-in-Leaf
returns-in-Leaf c = λ by x ts r kind first e s d.
    asserted_leaf by x ts first e _ r c.args.it.now kind c.in-Leaf.is (c.as_const.ensures by x ts r first e d)

pub returns-then-is_as : goal.returns-then-is_as
returns-then-is_as c = λ by x ts r kind first e s d.
    as_node by x ts first e r c.args.it.now _ kind _ c.in-Node.is s c.if-is_as.true

pub returns-else-is_as : goal.returns-else-is_as
returns-else-is_as c = λ by x ts r kind first e s d.
    satisfies_node by x ts first e _ r c.args.it.now _ kind _ c.in-Node.is s c.if-is_as.false d

pub returns-in-Role : goal.returns-in-Role
returns-in-Role c = λ by x ts r kind first e s d. anything by x ts first _

pub returns-in-Parts : goal.returns-in-Parts
returns-in-Parts c = λ by x ts r kind first e s d. anything by x ts first _

pub returns-in-Lean : goal.returns-in-Lean
returns-in-Lean c = λ by x ts r kind first e s d. anything by x ts first _
