use Rattle.std.proofs.Common.{◌+◌, refl}
use Rattle.graph_entry.specs.Specifier.{text_of}
use Rattle.graph_builder.specs.declared.slot.Slot.TheVariants.{Asked}
use Rattle.graph_builder.specs.Rules.{rules_by}
use Rattle.graph_builder.specs.Progress.{at}
use Rattle.graph_builder.proofs.ReachingLemmas.{todo_marked}
use Rattle.graph_builder.proofs.ProgressLemmas.{in_hand_here, live_asked, kept_started, asks_one, asks_none}
use Rattle.graph_builder.proofs.progress.Progress.ask.Goals as goal

pub returns-clause-deals : goal.returns-clause-deals
returns-clause-deals g c =
    let rules = rules_by (g.W.Ways.means c.args.ways.now) (g.W.Ways.follows c.args.ways.now) in
    let x = at (g.L.Loader.seen c.args.loader.now) c.args.self.now in
    let s = text_of c.specifier.result.now in
    let marks = c.mark_asked.ensures.marked s c.specifier.ensures in (
      live_asked rules x s (g.L.Loader.seen c.start.new.self) c.mark_asked.new.self
          (in_hand_here rules x c.args.number s c.requires.in_hand c.specifier.ensures)
          (c.requires.loads s c.specifier.ensures) c.in-Ok.ensures.started marks c.mark_asked.ensures.limit,
      rw (marks.counted, todo_marked s Asked c.args.self.now.reaching c.mark_asked.new.self marks) refl,
    )

pub returns-clause-kept : goal.returns-clause-kept
returns-clause-kept g c =
    let rules = rules_by (g.W.Ways.means c.args.ways.now) (g.W.Ways.follows c.args.ways.now) in
    let x = at (g.L.Loader.seen c.args.loader.now) c.args.self.now in
    let s = text_of c.specifier.result.now in
    kept_started x
    (at (g.L.Loader.seen c.start.new.self) (record {
      starts = c.args.self.now.starts;
      reaching = c.mark_asked.new.self;
      asked = c.args.self.now.asked + 1;
      taken = c.args.self.now.taken;
      begun = c.args.self.now.begun;
    })) s (in_hand_here rules x c.args.number s c.requires.in_hand c.specifier.ensures)
    (c.requires.loads s c.specifier.ensures) c.in-Ok.ensures.started refl refl refl

pub returns-clause-asks : goal.returns-clause-asks
returns-clause-asks g c =
    asks_one (at (g.L.Loader.seen c.args.loader.now) c.args.self.now) (text_of c.specifier.result.now)
    (g.L.Loader.seen c.start.new.self) _ c.in-Ok.ensures.started refl c.mark_asked.ensures.limit refl refl refl

pub returns-in-Err-clause-asks : goal.returns-in-Err-clause-asks
returns-in-Err-clause-asks g c =
    asks_none (at (g.L.Loader.seen c.args.loader.now) c.args.self.now) _ (g.L.Loader.seen c.start.new.self) _
    c.in-Err.ensures.started
