use Rattle.dts_items.proofs.BlockLemmas.{first_name}
use Rattle.dts_items.proofs.blocks.first_name.Goals as goal

pub returns-in-Some-clause-written : goal.returns-in-Some-clause-written
returns-in-Some-clause-written c = λ e x ts.
    first_name x ts c.args.out.now.row _ _ c.args.at (c.leaf_node.ensures.written (c.dropped.ensures.before e) x ts)
    (c.dropped.ensures.written e x ts)
