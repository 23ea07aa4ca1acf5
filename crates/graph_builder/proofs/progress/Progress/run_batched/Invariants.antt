use Rattle.std.proofs.Common.{◌≡◌, ◌-◌, true}
use Rattle.graph_builder.specs.Rules.{rules_by}
use Rattle.graph_builder.specs.Progress.{at, IsLive, GoesOnAt}
use Rattle.graph_builder.proofs.progress.Progress.run_batched.Given as goal

-- the builder goes on, and the pending count is what it was
abbrev pub invariant-turns : goal.invariant-turns
invariant-turns g l = record {
  live : IsLive (rules_by (g.W.Ways.means l.ways) (g.W.Ways.follows l.ways)) (at (g.L.Loader.seen l.loader) l.self);
  begun : l.self.begun ≡ true;
  goes : GoesOnAt (at (g.L.Loader.seen l.fn.loader) l.fn.self) (at (g.L.Loader.seen l.loader) l.self);
  pending : (g.L.Loader.seen l.loader).pending ≡ (g.L.Loader.seen l.fn.loader).pending;
}

-- the answers that can still be taken
abbrev pub decreases-turns : goal.decreases-turns
decreases-turns g l = l.self.reaching.limit - l.self.taken
