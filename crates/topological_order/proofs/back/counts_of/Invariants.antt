use Rattle.std.proofs.Common.{◌≡◌, length}
use Rattle.topological_order.proofs.back.counts_of.Given as goal

abbrev pub invariant-loop-node : goal.invariant-loop-node
invariant-loop-node l = length l.counts.items ≡ length l.links
