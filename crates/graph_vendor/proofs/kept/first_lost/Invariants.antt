use Rattle.std.proofs.Common.{Option}
use Rattle.url.specs.Parts.{Parts}
use Rattle.graph_builder.specs.Entries.{entries_left}
use Rattle.graph_vendor.specs.Kept.{IsFirstLost}
use Rattle.graph_vendor.proofs.kept.first_lost.Given as goal

-- the entries that are left decide
abbrev pub invariant-loop-specifier : goal.invariant-loop-specifier
invariant-loop-specifier l =
    (found : Option Parts) → IsFirstLost l.graph.entries l.names (entries_left l.specifier-iterator) found
    → IsFirstLost l.graph.entries l.names l.graph.entries found
