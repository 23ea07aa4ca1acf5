use Rattle.std.proofs.Common.{◌≡◌, length, map}
use Rattle.std.specs.List.{flat_map}
use Rattle.graph_builder.specs.Entries.{entry_pair}
use Rattle.graph_report.specs.Report.{entry_lines}
use Rattle.graph_report.specs.Adds.{Adds}
use Rattle.graph_report.proofs.reports.add_entries.Given as goal

-- the lines of the entries so far were added, and these were counted
abbrev pub invariant-loop-specifier : goal.invariant-loop-specifier
invariant-loop-specifier l = record {
  lines : Adds l.initial.out l.out (flat_map entry_lines (map entry_pair l.yielded));
  count : l.count ≡ length l.yielded;
}
