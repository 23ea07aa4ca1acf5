use Rattle.std.proofs.Common.{◌∙◌}
use Rattle.graph_vendor.proofs.FileLemmas.{sites_more, sites_not}
use Rattle.graph_vendor.proofs.files.sites_of.Goals.{in-Some+in_ok-site_of+in_ok-push, in_default}
use Rattle.graph_vendor.proofs.files.sites_of.Goals as goal

-- one more edge, which is a site's only where it has a range
pub loop-edge-preserved : goal.loop-edge-preserved
loop-edge-preserved c =
    elim c.match-edge.branch [
      | in-Some+in_ok-site_of+in_ok-push w ↦
          sites_more c.args.edges.now c.loop-edge.edge-index c.edge-item.result c.edge-item.result c.loop-edge.sites
          c.match-edge.sites _ w.in-Some.range c.loop-edge-test.true c.edge-item.is c.loop-edge.invariant w.in-Some.is
          w.in_ok-site_of.ensures (w.sites-is ∙ w.in_ok-push.ensures.ok)
      | in_default w ↦
          sites_not c.args.edges.now c.loop-edge.edge-index c.edge-item.result c.edge-item.result c.match-edge.sites
          c.loop-edge-test.true c.edge-item.is w.in_default.is
    ]
