use Rattle.std.proofs.Common.{◌≡◌, ◌++◌}
use Rattle.graph_builder.specs.Entries.{entries_left}
use Rattle.graph_vendor.specs.Names.{modules_of}
use Rattle.graph_vendor.specs.Plan.{files_of}
use Rattle.graph_vendor.specs.Files.{AreOwn}
use Rattle.graph_vendor.proofs.files.files_of.Given as goal

-- the files so far, and behind them those of the entries that are left, are all
abbrev pub invariant-loop-specifier : goal.invariant-loop-specifier
invariant-loop-specifier l = record {
  files : files_of l.graph.entries l.names (modules_of l.graph.entries)
      ≡ l.files ++ files_of l.graph.entries l.names (modules_of (entries_left l.specifier-iterator));
  own : AreOwn (entries_left l.specifier-iterator);
}
