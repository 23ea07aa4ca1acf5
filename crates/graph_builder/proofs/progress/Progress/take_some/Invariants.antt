use Rattle.std.proofs.Common.{◌≡◌, ◌+◌, ◌-◌, length}
use Rattle.graph_builder.specs.Rules.{rules_by}
use Rattle.graph_builder.specs.Progress.{at, GoesOnAt}
use Rattle.graph_builder.specs.Batch.{IsTaking}
use Rattle.graph_builder.proofs.progress.Progress.take_some.Given as goal

-- the answers so far are in hand
abbrev pub invariant-taking : goal.invariant-taking
invariant-taking g l = record {
  taking : IsTaking (rules_by (g.W.Ways.means l.ways) (g.W.Ways.follows l.ways)) (at (g.L.Loader.seen l.loader) l.self)
      l.answers.items;
  goes : GoesOnAt (at (g.L.Loader.seen l.fn.loader) l.fn.self) (at (g.L.Loader.seen l.loader) l.self);
  pending : (g.L.Loader.seen l.loader).pending ≡ (g.L.Loader.seen l.fn.loader).pending;
  asked : l.self.asked ≡ l.fn.self.asked;
  taken : l.self.taken ≡ l.fn.self.taken + length l.answers.items;
}

-- the answers that the batch still takes
abbrev pub decreases-taking : goal.decreases-taking
decreases-taking g l = l.batch - length l.answers.items
