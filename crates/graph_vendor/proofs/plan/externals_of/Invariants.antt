use Rattle.std.proofs.Common.{◌≡◌, ◌++◌}
use Rattle.std.specs.List.{filter_map}
use Rattle.graph_builder.specs.Entries.{entries_left}
use Rattle.graph_vendor.specs.Plan.{external}
use Rattle.graph_vendor.proofs.plan.externals_of.Given as goal

-- those so far, and behind them those of the entries that are left, are all
abbrev pub invariant-loop-specifier : goal.invariant-loop-specifier
invariant-loop-specifier l =
    filter_map external l.graph.entries ≡ l.urls ++ filter_map external (entries_left l.specifier-iterator)
