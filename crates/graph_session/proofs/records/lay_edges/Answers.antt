use Rattle.std.proofs.Common.{arith}
use Rattle.graph_session.proofs.RecordsLemmas.{texts_more, filled_more, records_more}
use Rattle.graph_session.proofs.records.lay_edges.Goals as goal

-- the edge's record and texts were put after the others
pub loop-edge-preserved : goal.loop-edge-preserved
loop-edge-preserved c =
    let found = c.args.found.now in
    let i = c.loop-edge.edge-index in
    let edge = c.edge-item.result in
    record {
      edges = records_more _ found i edge _ _ _ _ _ c.loop-edge-test.true c.edge-item.is c.loop-edge.invariant.edges
          c.loop-edge.invariant.filled c.in_ok-laid.ensures.record_is c.in_ok-push.ensures.items;
      texts = texts_more found i edge _ _ _ c.loop-edge-test.true c.edge-item.is c.loop-edge.invariant.texts
          c.in_ok-laid.ensures.texts;
      counted = omega (arith, c.in_ok-push.ensures.len, c.loop-edge.invariant.counted);
      filled = filled_more found i edge _ _ _ c.loop-edge-test.true c.edge-item.is c.loop-edge.invariant.filled
          c.in_ok-laid.ensures.filled;
    }
