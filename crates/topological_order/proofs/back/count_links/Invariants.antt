use Rattle.std.proofs.Common.{◌≡◌, length}
use Rattle.topological_order.proofs.back.count_links.Given as goal

abbrev pub invariant-loop-target : goal.invariant-loop-target
invariant-loop-target l = length l.counts.items ≡ length l.initial.counts.items
