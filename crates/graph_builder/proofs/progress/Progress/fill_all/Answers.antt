use Rattle.std.proofs.Common.{rules, refl, arith, sym, ◌∙◌, ap, length}
use Rattle.graph_builder.specs.Progress.{at}
use Rattle.graph_builder.proofs.ProgressLemmas.{asks_still, only_asks_same, only_asks_more}
use Rattle.graph_builder.proofs.HandLemmas.{first_slot, filled_more, fills_err, live_at_end}
use Rattle.graph_builder.proofs.progress.Progress.fill_all.Goals as goal

pub loop-url-init : goal.loop-url-init
loop-url-init g c = record {
  hand = c.requires.held.0;
  holding = c.requires.held.1.holding;
  meant = rw c.into_iter-url-iterator.ensures.into_iter_gives.0 c.requires.held.2;
  len = search rules;
  asks = only_asks_same (at (g.L.Loader.seen c.args.loader.now) c.args.self.now);
}

pub fill_in_hand-requires-clause-room : goal.fill_in_hand-requires-clause-room
fill_in_hand-requires-clause-room g c = c.loop-url.invariant.holding.room

pub fill_in_hand-requires-clause-there : goal.fill_in_hand-requires-clause-there
fill_in_hand-requires-clause-there g c =
    first_slot (g.W.Ways.means c.args.ways.now) (g.W.Ways.follows c.args.ways.now)
    (at (g.L.Loader.seen c.args.loader.now) c.loop-url.self) c.loop-url.invariant.hand _ _ c.in-Some.url c.in-Some.entry
    c.loop-url.invariant.holding c.loop-url.invariant.meant c.in-Some.ensures.steps.0

pub loop-url-preserved : goal.loop-url-preserved
loop-url-preserved g c =
    let x = at (g.L.Loader.seen c.args.loader.now) c.loop-url.self in
    let more = filled_more (g.W.Ways.means c.args.ways.now) (g.W.Ways.follows c.args.ways.now) x
    c.loop-url.invariant.hand _ _ c.in-Some.url c.in-Some.entry c.loop-url.invariant.holding c.loop-url.invariant.meant
    c.in-Some.ensures.steps.0 c.fill_in_hand.new.self c.in-Ok.ensures.fills in record {
      hand = more.0;
      holding = more.1;
      meant = more.2;
      len = search rules;
      asks = only_asks_more _ _ _ c.loop-url.invariant.asks (asks_still x (record {
        starts = c.loop-url.self.starts;
        reaching = c.fill_in_hand.new.self;
        asked = c.loop-url.self.asked;
        taken = c.loop-url.self.taken;
        begun = c.loop-url.self.begun;
      }) refl c.in-Ok.ensures.limit refl refl refl);
    }

pub returns-in-Err-clause-fills : goal.returns-in-Err-clause-fills
returns-in-Err-clause-fills g c =
    fills_err (g.W.Ways.means c.args.ways.now) (g.W.Ways.follows c.args.ways.now)
    (at (g.L.Loader.seen c.args.loader.now) c.loop-url.self) c.loop-url.invariant.hand _ _ c.in-Some.url c.in-Some.entry
    c.loop-url.invariant.holding c.loop-url.invariant.meant c.in-Some.ensures.steps.0
    (at (g.L.Loader.seen c.args.loader.now) c.args.self.now)
    (at (g.L.Loader.seen c.args.loader.now) (record {
      starts = c.loop-url.self.starts;
      reaching = c.fill_in_hand.new.self;
      asked = c.loop-url.self.asked;
      taken = c.loop-url.self.taken;
      begun = c.loop-url.self.begun;
    })) c.fill_in_hand.new.self c.in-Err.error
    c.requires.held.1.holding.kept c.loop-url.invariant.asks c.in-Err.ensures.fills

pub returns-in-Err-clause-asks : goal.returns-in-Err-clause-asks
returns-in-Err-clause-asks g c =
    only_asks_more _ _ _ c.loop-url.invariant.asks
    (asks_still (at (g.L.Loader.seen c.args.loader.now) c.loop-url.self) (record {
      starts = c.loop-url.self.starts;
      reaching = c.fill_in_hand.new.self;
      asked = c.loop-url.self.asked;
      taken = c.loop-url.self.taken;
      begun = c.loop-url.self.begun;
    }) refl c.in-Err.ensures.limit refl refl refl)

pub returns-clause-fills : goal.returns-clause-fills
returns-clause-fills g c =
    live_at_end (g.W.Ways.means c.args.ways.now) (at (g.L.Loader.seen c.args.loader.now) c.loop-url.self)
    c.loop-url.invariant.hand _ c.loop-url.invariant.holding c.loop-url.invariant.meant
    (sym c.loop-url.invariant.len ∙ c.in-None.ensures.steps.0)
