use Rattle.std.proofs.Common.{◌≡◌, ◌≤◌, ◌^◌, ◌++◌, length}
use Rattle.graph_builder.specs.Entries.{entries_left}
use Rattle.graph_vendor.specs.Names.{names_in, names_from, modules_of}
use Rattle.graph_vendor.proofs.names.names_of.Given as goal

-- the names so far, and behind them those of the entries that are left, are all
abbrev pub invariant-loop-specifier : goal.invariant-loop-specifier
invariant-loop-specifier l =
    (names_in l.base l.graph.entries
    ≡ l.names ++ names_from l.base (length l.names) (modules_of (entries_left l.specifier-iterator)))
    × (length l.names ≤ 2 ^ 63)
