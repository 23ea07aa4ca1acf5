use Rattle.graph_builder.specs.Rules.{rules_by}
use Rattle.graph_builder.specs.Progress.{at}
use Rattle.graph_builder.proofs.ProgressLemmas.{turns_after, goes_more, too_many_later, asked_in_time, in_time_after}
use Rattle.graph_builder.proofs.progress.Progress.turn_batched.Goals as goal

pub returns-clause-turns : goal.returns-clause-turns
returns-clause-turns g c =
    turns_after c.args.batch
    (at (g.L.Loader.seen c.args.loader.now) c.args.self.now)
    (at (g.L.Loader.seen c.ask_all.new.loader) c.ask_all.new.self)
    (at (g.L.Loader.seen c.poll_some.new.loader) c.poll_some.new.self)
    c.poll_some.result c.requires.live.kept c.ask_all.ensures.asks c.poll_some.ensures.goes c.poll_some.ensures.turns

pub returns-clause-in_time : goal.returns-clause-in_time
returns-clause-in_time g c =
    in_time_after (rules_by (g.W.Ways.means c.args.ways.now) (g.W.Ways.follows c.args.ways.now))
    (at (g.L.Loader.seen c.args.loader.now) c.args.self.now)
    (at (g.L.Loader.seen c.ask_all.new.loader) c.ask_all.new.self)
    c.poll_some.result _ c.ask_all.ensures.asks.goes c.poll_some.ensures.in_time

pub returns-clause-goes : goal.returns-clause-goes
returns-clause-goes g c = goes_more _ _ _ c.ask_all.ensures.asks.goes c.poll_some.ensures.goes

pub returns-in-Err-TooMany-clause-turns : goal.returns-in-Err-TooMany-clause-turns
returns-in-Err-TooMany-clause-turns g c =
    rw c.in-Err-TooMany.field-0-is
    (too_many_later (at (g.L.Loader.seen c.args.loader.now) c.args.self.now)
    (at (g.L.Loader.seen c.ask_all.new.loader) c.ask_all.new.self) c.args.self.now.reaching.limit
    c.in-Err-TooMany.seen c.requires.live.kept c.ask_all.ensures.asks
    (rw c.in-Err-TooMany.field-0-is at c.in-Err-TooMany.ensures.all))

pub returns-in-Err-TooMany-clause-in_time : goal.returns-in-Err-TooMany-clause-in_time
returns-in-Err-TooMany-clause-in_time g c =
    asked_in_time (at (g.L.Loader.seen c.args.loader.now) c.args.self.now)
    (at (g.L.Loader.seen c.ask_all.new.loader) c.ask_all.new.self) c.requires.live c.ask_all.ensures.asks

pub returns-in-Err-OutOfMemory-clause-in_time : goal.returns-in-Err-OutOfMemory-clause-in_time
returns-in-Err-OutOfMemory-clause-in_time g c =
    asked_in_time (at (g.L.Loader.seen c.args.loader.now) c.args.self.now)
    (at (g.L.Loader.seen c.ask_all.new.loader) c.ask_all.new.self) c.requires.live c.ask_all.ensures.asks
