use Rattle.std.proofs.Common.{◌≡◌, ◌++◌, map}
use Rattle.graph_builder.specs.Entries.{entries_left}
use Rattle.graph_order.specs.Names.{named, links_of_held, links_in, modules_of}
use Rattle.graph_order.proofs.names.links_of.Given as goal

-- the links so far, and behind them those of the entries that are left, are all
abbrev pub invariant-loop-entry : goal.invariant-loop-entry
invariant-loop-entry l =
    links_in (named l.graph.entries) l.graph.entries
    ≡ l.links ++ map (links_of_held (named l.graph.entries) l.graph.entries)
    (modules_of (entries_left l.entry-iterator))
