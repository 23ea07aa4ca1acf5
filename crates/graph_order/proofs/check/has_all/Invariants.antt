use Rattle.graph_builder.specs.ByText.{keys_at}
use Rattle.graph_builder.specs.Entries.{entries_left}
use Rattle.graph_order.specs.Names.{HoldsEach}
use Rattle.graph_order.proofs.check.has_all.Given as goal

-- all modules stand there exactly if those of the entries that are left do
abbrev pub invariant-loop-specifier : goal.invariant-loop-specifier
invariant-loop-specifier l = record {
  to : HoldsEach (keys_at l.placed) (entries_left l.specifier-iterator)
      → HoldsEach (keys_at l.placed) l.graph.entries;
  back : HoldsEach (keys_at l.placed) l.graph.entries
      → HoldsEach (keys_at l.placed) (entries_left l.specifier-iterator);
}
