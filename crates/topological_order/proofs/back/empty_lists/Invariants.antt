use Rattle.std.proofs.Common.{◌≡◌, length}
use Rattle.topological_order.proofs.back.empty_lists.Given as goal

abbrev pub invariant-loop-count : goal.invariant-loop-count
invariant-loop-count l = length l.lists.items ≡ l.count-index
