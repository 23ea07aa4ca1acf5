use Rattle.std.proofs.Common.{Bool}
use Rattle.graph_builder.specs.Rules.{rules_by}
use Rattle.graph_builder.specs.Progress.{at}
use Rattle.graph_builder.proofs.ProgressLemmas.{goes_more, in_time_after}
use Rattle.graph_builder.proofs.HandLemmas.{turns_entered, entered_in_time}
use Rattle.graph_builder.proofs.progress.Progress.poll_some.Goals as goal

pub returns-in-Ok-analyse_all-clause-turns : goal.returns-in-Ok-analyse_all-clause-turns
returns-in-Ok-analyse_all-clause-turns g c =
    turns_entered c.args.batch
    (at (g.L.Loader.seen c.args.loader.now) c.args.self.now)
    (at (g.L.Loader.seen c.take_some.new.loader) c.take_some.new.self)
    (at (g.L.Loader.seen c.enter.new.loader) c.enter.new.self)
    c.in-Ok.taken.answers.items c.in-Ok.taken.waits c.enter.result
    c.in-Ok.ensures.takes.0 c.in-Ok.ensures.takes.1 c.take_some.ensures.goes c.enter.ensures.asks c.enter.ensures.enters

pub returns-in-Ok-analyse_all-clause-in_time : goal.returns-in-Ok-analyse_all-clause-in_time
returns-in-Ok-analyse_all-clause-in_time g c =
    in_time_after {A = Bool} (rules_by (g.W.Ways.means c.args.ways.now) (g.W.Ways.follows c.args.ways.now))
    (at (g.L.Loader.seen c.args.loader.now) c.args.self.now)
    (at (g.L.Loader.seen c.take_some.new.loader) c.take_some.new.self)
    c.enter.result _ c.take_some.ensures.goes
    (entered_in_time
    (at (g.L.Loader.seen c.take_some.new.loader) c.take_some.new.self)
    (at (g.L.Loader.seen c.enter.new.loader) c.enter.new.self)
    c.in-Ok.taken.answers.items c.in-Ok.taken.waits c.enter.result
    c.in-Ok.ensures.takes.0.holding c.enter.ensures.asks c.enter.ensures.enters)

pub returns-in-Ok-analyse_all-clause-goes : goal.returns-in-Ok-analyse_all-clause-goes
returns-in-Ok-analyse_all-clause-goes g c =
    goes_more _ _ _ c.take_some.ensures.goes c.enter.ensures.asks.goes
