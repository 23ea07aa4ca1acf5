use Rattle.std.proofs.Common.{◌≡◌, length, map}
use Rattle.std.specs.List.{sum_by}
use Rattle.graph_builder.specs.Entries.{entry_pair}
use Rattle.graph_report.specs.Summary.{edge_count, fault_count}
use Rattle.graph_report.proofs.counts.counts_of.Given as goal

-- the entries so far were counted
abbrev pub invariant-loop-specifier : goal.invariant-loop-specifier
invariant-loop-specifier l = record {
  entries : l.entries ≡ length l.yielded;
  edges : l.edge_total ≡ sum_by edge_count (map entry_pair l.yielded);
  faults : l.faults ≡ sum_by fault_count (map entry_pair l.yielded);
}
