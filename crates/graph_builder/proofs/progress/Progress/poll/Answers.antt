use Rattle.std.proofs.Common.{◌+◌, Bool, refl, arith, []}
use Rattle.graph_builder.specs.Progress.{at}
use Rattle.graph_builder.proofs.ProgressLemmas.{live_answered, kept_polled, goes_polled, taken_in_time, live_in_time, only_asks_same}
use Rattle.graph_builder.proofs.HandLemmas.{turns_refused, live_again, taking_none, taking_still, has_waited, paused}
use Rattle.graph_builder.proofs.progress.Progress.poll.Goals as goal

-- ---- an answer is taken, and becomes an entry

pub returns-in-Ok-clause-turns : goal.returns-in-Ok-clause-turns
returns-in-Ok-clause-turns g c =
    let polled = rw c.in-Ok-Answer.field-0-is at c.in-Ok-Answer.ensures.polled in
    let t = c.in-Ok.ensures.takes in (
      live_answered (at (g.L.Loader.seen c.args.loader.now) c.args.self.now) c.in-Ok-Answer.specifier
          c.in-Ok-Answer.answer t.1.0
          (g.L.Loader.seen c.poll.new.self) c.take.new.self c.requires.live c.requires.open_yet polled t.0 t.1.1 t.1.2,
      c.requires.begun,
      omega arith,
      polled.pending,
    )

pub returns-in-Ok-clause-in_time : goal.returns-in-Ok-clause-in_time
returns-in-Ok-clause-in_time g c =
    let polled = rw c.in-Ok-Answer.field-0-is at c.in-Ok-Answer.ensures.polled in
    let t = c.in-Ok.ensures.takes in
    live_in_time _
    (live_answered (at (g.L.Loader.seen c.args.loader.now) c.args.self.now) c.in-Ok-Answer.specifier
    c.in-Ok-Answer.answer t.1.0
    (g.L.Loader.seen c.poll.new.self) c.take.new.self c.requires.live c.requires.open_yet polled t.0 t.1.1 t.1.2)

pub returns-in-Ok-clause-kept : goal.returns-in-Ok-clause-kept
returns-in-Ok-clause-kept g c =
    kept_polled (at (g.L.Loader.seen c.args.loader.now) c.args.self.now) (at (g.L.Loader.seen c.poll.new.self) (record {
      starts = c.args.self.now.starts;
      reaching = c.take.new.self;
      asked = c.args.self.now.asked;
      taken = c.args.self.now.taken + 1;
      begun = c.args.self.now.begun;
    })) c.in-Ok-Answer.specifier c.in-Ok-Answer.answer c.requires.live
    (rw c.in-Ok-Answer.field-0-is at c.in-Ok-Answer.ensures.polled) refl refl refl

pub returns-in-Ok-clause-goes : goal.returns-in-Ok-clause-goes
returns-in-Ok-clause-goes g c =
    goes_polled (at (g.L.Loader.seen c.args.loader.now) c.args.self.now) _ c.in-Ok-Answer.specifier
    c.in-Ok-Answer.answer
    (rw c.in-Ok-Answer.field-0-is at c.in-Ok-Answer.ensures.polled) refl c.in-Ok.ensures.limit refl refl

-- ---- an answer is taken, and refused

pub returns-in-Err-take-clause-turns : goal.returns-in-Err-take-clause-turns
returns-in-Err-take-clause-turns g c =
    turns_refused (at (g.L.Loader.seen c.args.loader.now) c.args.self.now) _ c.in-Ok-Answer.specifier
    c.in-Ok-Answer.answer c.take.new.self
    c.in-Err-take.error c.requires.live c.requires.begun c.requires.asked_all c.requires.open_yet
    c.in-Err-take.ensures.takes
    (rw c.in-Ok-Answer.field-0-is at c.in-Ok-Answer.ensures.polled) refl refl

pub returns-in-Err-take-clause-in_time : goal.returns-in-Err-take-clause-in_time
returns-in-Err-take-clause-in_time g c =
    taken_in_time Bool (at (g.L.Loader.seen c.args.loader.now) c.args.self.now)
    (at (g.L.Loader.seen c.poll.new.self) (record {
      starts = c.args.self.now.starts;
      reaching = c.take.new.self;
      asked = c.args.self.now.asked;
      taken = c.args.self.now.taken + 1;
      begun = c.args.self.now.begun;
    })) c.in-Ok-Answer.specifier c.in-Ok-Answer.answer c.take.new.self
    c.in-Err-take.error c.requires.live c.in-Err-take.ensures.takes
    (rw c.in-Ok-Answer.field-0-is at c.in-Ok-Answer.ensures.polled) refl refl

pub returns-in-Err-take-clause-kept : goal.returns-in-Err-take-clause-kept
returns-in-Err-take-clause-kept g c =
    kept_polled (at (g.L.Loader.seen c.args.loader.now) c.args.self.now) (at (g.L.Loader.seen c.poll.new.self) (record {
      starts = c.args.self.now.starts;
      reaching = c.take.new.self;
      asked = c.args.self.now.asked;
      taken = c.args.self.now.taken + 1;
      begun = c.args.self.now.begun;
    })) c.in-Ok-Answer.specifier c.in-Ok-Answer.answer c.requires.live
    (rw c.in-Ok-Answer.field-0-is at c.in-Ok-Answer.ensures.polled) refl refl refl

pub returns-in-Err-take-clause-goes : goal.returns-in-Err-take-clause-goes
returns-in-Err-take-clause-goes g c =
    goes_polled (at (g.L.Loader.seen c.args.loader.now) c.args.self.now) _ c.in-Ok-Answer.specifier
    c.in-Ok-Answer.answer
    (rw c.in-Ok-Answer.field-0-is at c.in-Ok-Answer.ensures.polled) refl c.in-Err-take.ensures.limit refl refl

-- ---- nothing has come

pub returns-in-Ok-Pending-clause-turns : goal.returns-in-Ok-Pending-clause-turns
returns-in-Ok-Pending-clause-turns g c =
    let x = at (g.L.Loader.seen c.args.loader.now) c.args.self.now in
    let now = g.L.Loader.seen c.poll.new.self in
    let polled = rw c.in-Ok-Pending.field-0-is at c.in-Ok-Pending.ensures.polled in
    let still = taking_still x now [] (taking_none x c.requires.live c.requires.asked_all c.requires.begun) polled.events
    polled.told in
    paused x (at now c.args.self.now) (at now c.args.self.now) still.holding.kept c.requires.open_yet
    (has_waited x now polled) (only_asks_same (at now c.args.self.now)) (live_again (at now c.args.self.now) still.holding)
    still.asked_all c.requires.begun
