use Rattle.std.proofs.Common.{◌≡◌, ◌++◌, length, take}
use Rattle.std.specs.Vec.Iter.{into_iter_items}
use Rattle.graph_builder.specs.Settling.{judged_edges}
use Rattle.graph_builder.proofs.settle.judged_edges.Given as goal

-- the edges so far became these, and the others are to come
abbrev pub invariant-loop-edge : goal.invariant-loop-edge
invariant-loop-edge l = record {
  made : l.made ≡ judged_edges (take (length l.yielded) l.refused) l.yielded;
  counted : length l.made ≡ length l.yielded;
  whole : l.fn.edges ≡ l.yielded ++ into_iter_items l.edge-iterator;
}
