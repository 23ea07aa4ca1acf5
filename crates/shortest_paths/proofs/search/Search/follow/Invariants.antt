use Rattle.std.proofs.Common.{◌≡◌, ◌+◌, ◌≤◌, ◌<◌, ℕ, true, drop, length}
use Rattle.topological_order.specs.Order.{links_of}
use Rattle.shortest_paths.specs.Paths.{keeps}
use Rattle.shortest_paths.specs.Search.{IsSearch, IsKept, IsFollowed, unmarked}
use Rattle.shortest_paths.proofs.search.Search.follow.Given as goal

abbrev pub invariant-loop-place : goal.invariant-loop-place
invariant-loop-place l =
    ((depth : ℕ)
    × IsSearch l.scope.links.now l.scope.roots.now l.scope.without (drop l.at l.front) l.self.met l.self.level
    l.self.from
    l.self.next depth)
    × IsKept l.fn.self.met l.fn.self.level l.self.met l.self.level
    × (unmarked l.self.met + length l.self.next ≤ unmarked l.fn.self.met + length l.fn.self.next)
    × ((k : ℕ) → k < l.place → k < length (links_of l.scope.links.now l.node)
    → keeps l.scope.without l.scope.links.now (l.node, k) ≡ true
    → IsFollowed l.scope.links.now l.self.met l.self.level (l.node, k))
