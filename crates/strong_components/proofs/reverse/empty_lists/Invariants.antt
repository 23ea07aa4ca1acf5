use Rattle.std.proofs.Common.{◌≡◌, ℕ, [], length}
use Rattle.topological_order.specs.Order.{links_of}
use Rattle.strong_components.proofs.reverse.empty_lists.Given as goal

abbrev pub invariant-loop : goal.invariant-loop
invariant-loop l = (length l.lists.items ≡ l.counter) × ((u : ℕ) → links_of l.lists.items u ≡ [])
