use Rattle.std.proofs.Common.{◌≡◌}
use Rattle.graph_builder.specs.Entries.{entries_left}
use Rattle.graph_vendor.specs.Kept.{first_taken}
use Rattle.graph_vendor.proofs.kept.first_taken.Given as goal

-- the entries that are left decide
abbrev pub invariant-loop-specifier : goal.invariant-loop-specifier
invariant-loop-specifier l =
    first_taken l.graph.entries l.names l.graph.entries
    ≡ first_taken l.graph.entries l.names (entries_left l.specifier-iterator)
