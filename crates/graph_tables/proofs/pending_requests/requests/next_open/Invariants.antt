use Rattle.std.proofs.Common.{◌≤◌, ◌-◌, length}
use Rattle.graph_tables.specs.pending_requests.Inside.{IsPassed}
use Rattle.graph_tables.proofs.pending_requests.requests.next_open.Given as goal

abbrev pub invariant-loop-at : goal.invariant-loop-at
invariant-loop-at l = record {
  within : l.at ≤ length l.marks;
  passed : IsPassed l.at l.marks;
}

abbrev pub decreases-loop-at : goal.decreases-loop-at
decreases-loop-at l = length l.marks - l.at
