use Rattle.std.proofs.Common.{◌+◌, ◌≤◌, ℕ, drop, length}
use Rattle.shortest_paths.specs.Search.{IsSearch, IsKept, unmarked}
use Rattle.shortest_paths.proofs.search.Search.follow_all.Given as goal

abbrev pub invariant-loop-at : goal.invariant-loop-at
invariant-loop-at l =
    ((depth : ℕ)
    × IsSearch l.scope.links.now l.scope.roots.now l.scope.without (drop l.at l.front) l.self.met l.self.level
    l.self.from
    l.self.next depth)
    × IsKept l.fn.self.met l.fn.self.level l.self.met l.self.level
    × (unmarked l.self.met + length l.self.next ≤ unmarked l.fn.self.met + length l.fn.self.next)
