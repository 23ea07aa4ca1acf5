use Rattle.std.proofs.Common.{◌∙◌}
use Rattle.topological_order.proofs.OrderLemmas.{links_at}
use Rattle.topological_order.proofs.placing.targets_of.Goals as goal

pub returns : goal.returns
returns c =
    c.as_slice.ensures ∙ c.index-links-node.is
    ∙ links_at c.args.links.now c.args.node c.index-links-node.result c.requires
