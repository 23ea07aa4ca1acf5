use Rattle.std.proofs.Common.{◌≡◌, ◌++◌}
use Rattle.graph_builder.specs.Entries.{entries_left}
use Rattle.graph_order.specs.Names.{named, named_at}
use Rattle.graph_order.proofs.names.names_of.Given as goal

-- the modules' specifiers so far, and behind them those of the entries that are left, are all
abbrev pub invariant-loop-specifier : goal.invariant-loop-specifier
invariant-loop-specifier l =
    named l.graph.entries ≡ named_at l.names.items ++ named (entries_left l.specifier-iterator)
