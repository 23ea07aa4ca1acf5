use Rattle.std.proofs.Common.{◌+◌, ◌-◌, length}
use Rattle.graph_builder.specs.Rules.{rules_by}
use Rattle.graph_builder.specs.Progress.{at, IsLive, OnlyAsks}
use Rattle.graph_builder.specs.Reaching.{todo_of}
use Rattle.graph_builder.proofs.progress.Progress.ask_all.Given as goal

-- the builder goes on, and the loader was only asked
abbrev pub invariant-asking : goal.invariant-asking
invariant-asking g l = record {
  live : IsLive (rules_by (g.W.Ways.means l.ways) (g.W.Ways.follows l.ways)) (at (g.L.Loader.seen l.loader) l.self);
  asks : OnlyAsks (at (g.L.Loader.seen l.fn.loader) l.fn.self) (at (g.L.Loader.seen l.loader) l.self);
}

-- what is on the worklist, and what can still come
abbrev pub decreases-asking : goal.decreases-asking
decreases-asking g l = length (todo_of l.self.reaching) + (l.self.reaching.limit - length l.self.reaching.reached)
