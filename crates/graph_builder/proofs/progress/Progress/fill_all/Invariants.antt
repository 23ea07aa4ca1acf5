use Rattle.std.proofs.Common.{◌≡◌, length}
use Rattle.std.specs.Vec.Iter.{into_iter_items, into_iter_len}
use Rattle.graph_builder.specs.Rules.{rules_by}
use Rattle.graph_builder.specs.Progress.{at, OnlyAsks}
use Rattle.graph_builder.specs.Batch.{Hand, IsHolding, AreMeant}
use Rattle.graph_builder.proofs.progress.Progress.fill_all.Given as goal

-- the entries to come are those of the answers that are still in hand
abbrev pub invariant-loop-url : goal.invariant-loop-url
invariant-loop-url g l = record {
  hand : Hand;
  holding : IsHolding (rules_by (g.W.Ways.means l.ways) (g.W.Ways.follows l.ways)) (at (g.L.Loader.seen l.loader) l.self)
      hand;
  meant : AreMeant (g.W.Ways.means l.ways) hand (into_iter_items l.url-iterator);
  len : into_iter_len l.url-iterator ≡ length (into_iter_items l.url-iterator);
  asks : OnlyAsks (at (g.L.Loader.seen l.fn.loader) l.fn.self) (at (g.L.Loader.seen l.loader) l.self);
}
