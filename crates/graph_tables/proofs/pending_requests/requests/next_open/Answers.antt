use Rattle.std.proofs.Common.{rules, ◌≡◌, false, get_or, arith}
use Rattle.graph_tables.proofs.pending_requests_lemmas.RequestLemmas.{passed_more}
use Rattle.graph_tables.proofs.pending_requests.requests.next_open.Goals as goal

pub loop-at-preserved : goal.loop-at-preserved
loop-at-preserved c =
    let off : get_or c.args.marks.now c.loop-at.at false ≡ false = search rules in
    record {
      within = omega (arith, c.loop-at-test.true);
      passed = passed_more c.loop-at.at c.args.marks.now false c.loop-at.invariant.passed
          (omega (arith, c.loop-at-test.true)) off;
    }
