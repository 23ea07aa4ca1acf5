use Rattle.std.proofs.Common.{◌≡◌, ◌++◌, length, take}
use Rattle.std.specs.Vec.Iter.{into_iter_items}
use Rattle.graph_builder.specs.Settling.{all_judged}
use Rattle.graph_builder.proofs.settle.judged_each.Given as goal

-- the entries so far became these, and the others are to come
abbrev pub invariant-loop-first : goal.invariant-loop-first
invariant-loop-first l = record {
  made : l.made ≡ all_judged (take (length l.yielded) l.verdicts) l.yielded;
  counted : length l.made ≡ length l.yielded;
  whole : l.fn.values ≡ l.yielded ++ into_iter_items l.first-iterator;
}
