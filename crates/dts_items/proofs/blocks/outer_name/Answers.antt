use Rattle.dts_items.proofs.BlockLemmas.{outer_there}
use Rattle.dts_items.proofs.blocks.outer_name.Goals as goal

pub returns-in-Entity-clause-written : goal.returns-in-Entity-clause-written
returns-in-Entity-clause-written c = λ e x by.
    outer_there by x c.args.tokens.now c.args.out.now.row c.outer_entity.new.out.row c.args.name.now c.in-Node.label
    c.in-Node.is c.in-Entity.is (c.outer_entity.ensures.written e x by _)
