use Rattle.std.proofs.Common.{refl, sym, ◌∙◌}
use Rattle.graph_entry.specs.Specifier.{text_of}
use Rattle.graph_builder.specs.Rules.{rules_by}
use Rattle.graph_builder.specs.Progress.{at}
use Rattle.graph_builder.proofs.ProgressLemmas.{in_hand_here, deals_alone, asks_still}
use Rattle.graph_builder.proofs.progress.Progress.deal.Goals as goal

pub returns-else-is_loadable-clause-deals : goal.returns-else-is_loadable-clause-deals
returns-else-is_loadable-clause-deals g c =
    let s = text_of c.specifier.result.now in
    deals_alone (at (g.L.Loader.seen c.args.loader.now) c.args.self.now) s c.fill_unasked.new.self
    c.fill_unasked.result
    (in_hand_here (rules_by (g.W.Ways.means c.args.ways.now) (g.W.Ways.follows c.args.ways.now))
    (at (g.L.Loader.seen c.args.loader.now) c.args.self.now) c.args.number s c.requires.in_hand c.specifier.ensures)
    (sym c.is_loadable.ensures ∙ c.if-is_loadable.false)
    (c.fill_unasked.ensures.fills s c.specifier.ensures) c.fill_unasked.ensures.limit

pub returns-else-is_loadable-clause-asks : goal.returns-else-is_loadable-clause-asks
returns-else-is_loadable-clause-asks g c =
    asks_still (at (g.L.Loader.seen c.args.loader.now) c.args.self.now) (record {
      starts = c.args.self.now.starts;
      reaching = c.fill_unasked.new.self;
      asked = c.args.self.now.asked;
      taken = c.args.self.now.taken;
      begun = c.args.self.now.begun;
    }) refl c.fill_unasked.ensures.limit refl refl refl
