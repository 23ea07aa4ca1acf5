use Rattle.std.proofs.Common.{◌≡◌, rules, true}
use Rattle.graph_builder.specs.ByText.{keys_at}
use Rattle.graph_order.specs.Names.{LeadsTo}
use Rattle.graph_order.proofs.CheckLemmas.{all_more}
use Rattle.graph_order.proofs.check.leads_back.Goals as goal

pub loop-edge-preserved : goal.loop-edge-preserved
loop-edge-preserved c =
    let yes : c.leads_to.result ≡ true = search rules in
    all_more (LeadsTo c.args.graph.now.entries (keys_at c.args.placed.now)) c.edges-all.result.now
    c.loop-edge.edge-index c.edge-item.result c.loop-edge-test.true c.edge-item.is c.loop-edge.invariant
    (c.leads_to.ensures.0 yes)
