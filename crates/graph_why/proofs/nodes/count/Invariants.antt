use Rattle.std.proofs.Common.{◌≡◌, ◌+◌, length}
use Rattle.graph_builder.specs.Entries.{entries_left}
use Rattle.graph_why.proofs.nodes.count.Given as goal

-- one for each entry that was there
abbrev pub invariant-loop : goal.invariant-loop
invariant-loop l = length l.units + length (entries_left l.iterator') ≡ length l.graph.entries
