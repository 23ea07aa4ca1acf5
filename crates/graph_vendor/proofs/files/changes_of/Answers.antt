use Rattle.std.proofs.Common.{refl}
use Rattle.graph_vendor.proofs.FileLemmas.{literals_more}
use Rattle.graph_vendor.proofs.files.changes_of.Goals as goal

-- one more change
pub loop-number-preserved : goal.loop-number-preserved
loop-number-preserved c =
    literals_more c.args.graph.now.entries c.args.names.now c.args.edges.now c.loop-number.number
    c.index-edges-number.result c.index-edges-number.result c.loop-number.changes.items c.push.new.self.items _
    c.loop-number-test.true c.index-edges-number.is c.loop-number.invariant refl c.in_ok-literal_to.ensures
    c.in_ok-push.ensures.items
