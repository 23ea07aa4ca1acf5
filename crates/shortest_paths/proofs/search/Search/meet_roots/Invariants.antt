use Rattle.std.proofs.Common.{◌≡◌, ◌<◌, ℕ, true, [], length}
use Rattle.std.specs.Prelude.{slice_index}
use Rattle.shortest_paths.specs.Paths.{keeps_root}
use Rattle.shortest_paths.specs.Search.{IsSearch, is_met}
use Rattle.shortest_paths.proofs.search.Search.meet_roots.Given as goal

abbrev pub invariant-loop-root : goal.invariant-loop-root
invariant-loop-root l =
    IsSearch l.scope.links.now l.scope.roots.now l.scope.without [] l.self.met l.self.level l.self.from l.self.next 0
    × ((k : ℕ) → k < l.root-index → k < length l.scope.roots.now
    → keeps_root l.scope.without (slice_index l.scope.roots.now k) ≡ true
    → (is_met l.self.met (slice_index l.scope.roots.now k) ≡ true)
    × (slice_index l.self.level (slice_index l.scope.roots.now k) ≡ 0))
