use Rattle.std.proofs.Common.{refl}
use Rattle.graph_builder.specs.Rules.{rules_by}
use Rattle.graph_builder.specs.Progress.{at}
use Rattle.graph_builder.proofs.ProgressLemmas.{live_taken, asks_still, only_asks_more}
use Rattle.graph_builder.proofs.progress.Progress.ask_next.Goals as goal

pub deal-requires : goal.deal-requires
deal-requires g c = record {
  in_hand = live_taken (rules_by (g.W.Ways.means c.args.ways.now) (g.W.Ways.follows c.args.ways.now)) _
      c.take_next.new.self c.in-Some.number c.requires.live c.in-Some.ensures.takes;
}

-- taking a number from the worklist asks nothing
pub returns-in_default-clause-asks : goal.returns-in_default-clause-asks
returns-in_default-clause-asks g c =
    asks_still (at (g.L.Loader.seen c.args.loader.now) c.args.self.now) (record {
      starts = c.args.self.now.starts;
      reaching = c.take_next.new.self;
      asked = c.args.self.now.asked;
      taken = c.args.self.now.taken;
      begun = c.args.self.now.begun;
    }) refl c.take_next.ensures.limit refl refl refl

pub returns-in-Ok-clause-asks : goal.returns-in-Ok-clause-asks
returns-in-Ok-clause-asks g c =
    only_asks_more _ _ _
    (asks_still (at (g.L.Loader.seen c.args.loader.now) c.args.self.now) (record {
      starts = c.args.self.now.starts;
      reaching = c.take_next.new.self;
      asked = c.args.self.now.asked;
      taken = c.args.self.now.taken;
      begun = c.args.self.now.begun;
    }) refl c.take_next.ensures.limit refl refl refl)
    c.deal.ensures.asks

pub returns-in-Err-clause-asks : goal.returns-in-Err-clause-asks
returns-in-Err-clause-asks g c =
    only_asks_more _ _ _
    (asks_still (at (g.L.Loader.seen c.args.loader.now) c.args.self.now) (record {
      starts = c.args.self.now.starts;
      reaching = c.take_next.new.self;
      asked = c.args.self.now.asked;
      taken = c.args.self.now.taken;
      begun = c.args.self.now.begun;
    }) refl c.take_next.ensures.limit refl refl refl)
    c.deal.ensures.asks
