use Rattle.std.proofs.Common.{Bool, Err, ◌∙◌}
use Rattle.graph_builder.specs.Rules.{rules_by}
use Rattle.graph_builder.specs.Progress.{at}
use Rattle.graph_builder.proofs.ProgressLemmas.{goes_more, errs_after, runs_err, in_time_after, in_time_err}
use Rattle.graph_builder.proofs.progress.Progress.run.Goals as goal

pub turns-preserved : goal.turns-preserved
turns-preserved g c =
    let t = rw c.in-Ok-true.field-0-test at c.in-Ok-true.ensures.turns in record {
      live = t.0;
      begun = t.1;
      goes = goes_more _ _ _ c.turns.invariant.goes c.turn.ensures.goes;
      pending = t.3 ∙ c.turns.invariant.pending;
    }

pub returns-in-Ok-false-clause-goes : goal.returns-in-Ok-false-clause-goes
returns-in-Ok-false-clause-goes g c = goes_more _ _ _ c.turns.invariant.goes c.turn.ensures.goes

pub returns-in-Err-clause-goes : goal.returns-in-Err-clause-goes
returns-in-Err-clause-goes g c = goes_more _ _ _ c.turns.invariant.goes c.turn.ensures.goes

pub returns-in-Err-clause-runs : goal.returns-in-Err-clause-runs
returns-in-Err-clause-runs g c =
    runs_err (rules_by (g.W.Ways.means c.args.ways.now) (g.W.Ways.follows c.args.ways.now)) 1
    (at (g.L.Loader.seen c.args.loader.now) c.args.self.now)
    (at (g.L.Loader.seen c.turn.new.loader) c.turn.new.self)
    c.in-Err.error
    (errs_after 1
    (at (g.L.Loader.seen c.args.loader.now) c.args.self.now)
    (at (g.L.Loader.seen c.turns.loader) c.turns.self)
    (at (g.L.Loader.seen c.turn.new.loader) c.turn.new.self)
    c.in-Err.error c.requires.live.kept c.turns.invariant.goes c.turns.invariant.pending c.in-Err.ensures.turns)

pub returns-in-Err-clause-in_time : goal.returns-in-Err-clause-in_time
returns-in-Err-clause-in_time g c =
    in_time_err (rules_by (g.W.Ways.means c.args.ways.now) (g.W.Ways.follows c.args.ways.now)) Bool (Unit {0}) _ _
    c.in-Err.error
    (in_time_after {A = Bool} (rules_by (g.W.Ways.means c.args.ways.now) (g.W.Ways.follows c.args.ways.now))
    (at (g.L.Loader.seen c.args.loader.now) c.args.self.now)
    (at (g.L.Loader.seen c.turns.loader) c.turns.self) (Err c.in-Err.error) _
    c.turns.invariant.goes c.in-Err.ensures.in_time)
