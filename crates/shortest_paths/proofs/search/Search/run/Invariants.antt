use Rattle.std.proofs.Common.{◌+◌, ℕ, [], length}
use Rattle.shortest_paths.specs.Search.{IsSearch, AreRootsMet, unmarked}
use Rattle.shortest_paths.proofs.search.Search.run.Given as goal

abbrev pub invariant-loop-alloc : goal.invariant-loop-alloc
invariant-loop-alloc l =
    ((depth : ℕ)
    × IsSearch l.scope.links.now l.scope.roots.now l.scope.without [] l.self.met l.self.level l.self.from l.self.next
    depth)
    × AreRootsMet l.scope.roots.now l.scope.without l.self.met l.self.level

abbrev pub decreases-loop-alloc : goal.decreases-loop-alloc
decreases-loop-alloc l = unmarked l.self.met + length l.self.next
