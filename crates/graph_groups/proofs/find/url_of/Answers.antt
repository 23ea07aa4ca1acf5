use Rattle.graph_order.proofs.NodeLemmas.{name_at}
use Rattle.graph_groups.proofs.find.url_of.Goals as goal

pub returns : goal.returns
returns c =
    name_at c.args.names.now c.args.node c.index-names-node.result c.requires c.index-names-node.is
