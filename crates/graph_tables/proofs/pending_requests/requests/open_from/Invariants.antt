use Rattle.std.proofs.Common.{◌≡◌, ◌≤◌, ◌-◌, length}
use Rattle.graph_tables.specs.pending_requests.Inside.{found_from}
use Rattle.graph_tables.proofs.pending_requests.requests.open_from.Given as goal

abbrev pub invariant-loop-at : goal.invariant-loop-at
invariant-loop-at l = record {
  within : l.at ≤ length l.marks;
  same : found_from l.from l.marks l.all l.url ≡ found_from l.at l.marks l.all l.url;
}

abbrev pub decreases-loop-at : goal.decreases-loop-at
decreases-loop-at l = length l.marks - l.at
