use Rattle.std.proofs.Common.{◌≡◌, ◌+◌, ℕ, None, length}
use Rattle.std.specs.Prelude.{slice_index_or}
use Rattle.graph_builder.specs.Entries.{entries_left}
use Rattle.graph_order.proofs.nodes.unknown.Given as goal

-- one for each entry that was there
abbrev pub invariant-loop : goal.invariant-loop
invariant-loop l = record {
  len : length l.nodes + length (entries_left l.iterator') ≡ length l.graph.entries;
  none : (n : ℕ) → slice_index_or l.nodes n None ≡ None;
}
