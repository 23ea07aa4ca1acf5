use Rattle.std.proofs.Common.{◌+◌, ap, length, refl, arith, length-append, ◌∙◌, ◌++◌, ◌∷◌, [], Err}
use Rattle.graph_builder.specs.declared.batched.Taken.{Taken}
use Rattle.graph_builder.specs.declared.error.BuildError.TheVariants as error
use Rattle.graph_builder.specs.Rules.{rules_by}
use Rattle.graph_builder.specs.Progress.{at, own_events}
use Rattle.graph_builder.proofs.ProgressLemmas.{goes_same, goes_more, goes_polled, in_time_after, own_answered, errs_after}
use Rattle.graph_builder.proofs.HandLemmas.{taking_none, taking_more, taking_still, kept_held, unasked_here, has_waited, waited_after, holding_in_time}
use Rattle.graph_builder.proofs.progress.Progress.take_some.Goals as goal

pub taking-init : goal.taking-init
taking-init g c = record {
  taking = rw c.new-answers.ensures.items
      (taking_none (at (g.L.Loader.seen c.args.loader.now) c.args.self.now) c.requires.live c.requires.asked_all
      c.requires.begun);
  goes = goes_same (at (g.L.Loader.seen c.args.loader.now) c.args.self.now);
  pending = refl;
  asked = refl;
  taken = omega (arith, ap length c.new-answers.ensures.items);
}

-- ---- an answer is refused

pub returns-then-not-take_in_hand-clause-takes : goal.returns-then-not-take_in_hand-clause-takes
returns-then-not-take_in_hand-clause-takes g c =
    errs_after c.args.batch (at (g.L.Loader.seen c.args.loader.now) c.args.self.now)
    (at (g.L.Loader.seen c.taking.loader) c.taking.self)
    (at (g.L.Loader.seen c.poll.new.self) (record {
      starts = c.taking.self.starts;
      reaching = c.take_in_hand.new.self;
      asked = c.taking.self.asked;
      taken = c.taking.self.taken + 1;
      begun = c.taking.self.begun;
    }))
    (error.UnaskedAnswer c.in-Ok-Answer.specifier) c.requires.live.kept c.taking.invariant.goes c.taking.invariant.pending
    (unasked_here c.args.batch (at (g.L.Loader.seen c.taking.loader) c.taking.self)
    (at (g.L.Loader.seen c.poll.new.self) (record {
      starts = c.taking.self.starts;
      reaching = c.take_in_hand.new.self;
      asked = c.taking.self.asked;
      taken = c.taking.self.taken + 1;
      begun = c.taking.self.begun;
    }))
    c.taking.answers.items c.in-Ok-Answer.specifier c.in-Ok-Answer.answer c.taking.invariant.taking
    (omega (arith, c.len.ensures, c.if-len-batch.false))
    (omega (arith, c.taking.invariant.taking.holding.behind, c.if-self.false))
    c.if-not-take_in_hand.ensures.takes.0 (rw c.in-Ok-Answer.field-0-is at c.in-Ok-Answer.ensures.polled) refl refl)

pub returns-then-not-take_in_hand-clause-in_time : goal.returns-then-not-take_in_hand-clause-in_time
returns-then-not-take_in_hand-clause-in_time g c =
    in_time_after {A = Taken} (rules_by (g.W.Ways.means c.args.ways.now) (g.W.Ways.follows c.args.ways.now))
    (at (g.L.Loader.seen c.args.loader.now) c.args.self.now)
    (at (g.L.Loader.seen c.taking.loader) c.taking.self) (Err (error.UnaskedAnswer c.in-Ok-Answer.specifier)) _
    c.taking.invariant.goes (
      own_events (at (g.L.Loader.seen c.taking.loader) c.taking.self),
      c.in-Ok-Answer.answer,
      own_answered (at (g.L.Loader.seen c.taking.loader) c.taking.self)
          (at (g.L.Loader.seen c.poll.new.self) (record {
            starts = c.taking.self.starts;
            reaching = c.take_in_hand.new.self;
            asked = c.taking.self.asked;
            taken = c.taking.self.taken + 1;
            begun = c.taking.self.begun;
          }))
          c.in-Ok-Answer.specifier c.in-Ok-Answer.answer c.taking.invariant.taking.holding.kept
          (rw c.in-Ok-Answer.field-0-is at c.in-Ok-Answer.ensures.polled) refl refl,
      holding_in_time (at (g.L.Loader.seen c.taking.loader) c.taking.self) c.taking.answers.items
          c.taking.invariant.taking.holding,
    )

pub returns-then-not-take_in_hand-clause-kept : goal.returns-then-not-take_in_hand-clause-kept
returns-then-not-take_in_hand-clause-kept g c =
    kept_held (at (g.L.Loader.seen c.taking.loader) c.taking.self)
    (at (g.L.Loader.seen c.poll.new.self) (record {
      starts = c.taking.self.starts;
      reaching = c.take_in_hand.new.self;
      asked = c.taking.self.asked;
      taken = c.taking.self.taken + 1;
      begun = c.taking.self.begun;
    }))
    c.taking.answers.items c.in-Ok-Answer.specifier c.in-Ok-Answer.answer c.taking.invariant.taking.holding
    (rw c.in-Ok-Answer.field-0-is at c.in-Ok-Answer.ensures.polled) refl refl refl

pub returns-then-not-take_in_hand-clause-goes : goal.returns-then-not-take_in_hand-clause-goes
returns-then-not-take_in_hand-clause-goes g c =
    goes_more _ _ _ c.taking.invariant.goes
    (goes_polled (at (g.L.Loader.seen c.taking.loader) c.taking.self)
    (at (g.L.Loader.seen c.poll.new.self) (record {
      starts = c.taking.self.starts;
      reaching = c.take_in_hand.new.self;
      asked = c.taking.self.asked;
      taken = c.taking.self.taken + 1;
      begun = c.taking.self.begun;
    }))
    c.in-Ok-Answer.specifier c.in-Ok-Answer.answer (rw c.in-Ok-Answer.field-0-is at c.in-Ok-Answer.ensures.polled)
    refl c.take_in_hand.ensures.limit refl refl)

-- ---- it is taken

pub taking-preserved : goal.taking-preserved
taking-preserved g c =
    let polled = rw c.in-Ok-Answer.field-0-is at c.in-Ok-Answer.ensures.polled in
    record {
      taking = rw c.in-Ok.ensures.items
          (taking_more (at (g.L.Loader.seen c.taking.loader) c.taking.self) c.in-Ok-Answer.specifier
          c.in-Ok-Answer.answer (g.L.Loader.seen c.poll.new.self) c.take_in_hand.new.self c.taking.answers.items
          c.taking.invariant.taking
          (omega (arith, c.taking.invariant.taking.holding.behind, c.if-self.false)) (rw c.in-Ok-Answer.field-0-is at c.in-Ok-Answer.ensures.polled)
          c.if-not-take_in_hand.ensures.takes.0 c.if-not-take_in_hand.ensures.takes.1 c.take_in_hand.ensures.limit);
      goes = goes_more _ _ _ c.taking.invariant.goes
          (goes_polled (at (g.L.Loader.seen c.taking.loader) c.taking.self)
          (at (g.L.Loader.seen c.poll.new.self) (record {
            starts = c.taking.self.starts;
            reaching = c.take_in_hand.new.self;
            asked = c.taking.self.asked;
            taken = c.taking.self.taken + 1;
            begun = c.taking.self.begun;
          }))
          c.in-Ok-Answer.specifier c.in-Ok-Answer.answer (rw c.in-Ok-Answer.field-0-is at c.in-Ok-Answer.ensures.polled)
          refl c.take_in_hand.ensures.limit refl refl);
      pending = polled.pending ∙ c.taking.invariant.pending;
      asked = c.taking.invariant.asked;
      taken = omega (
        arith,
        c.taking.invariant.taken,
        ap length c.in-Ok.ensures.items,
        length-append c.taking.answers.items ((c.in-Ok-Answer.specifier, c.in-Ok-Answer.answer) ∷ []),
      );
    }

pub returns-in-Err-push-clause-in_time : goal.returns-in-Err-push-clause-in_time
returns-in-Err-push-clause-in_time g c =
    in_time_after {A = Taken} (rules_by (g.W.Ways.means c.args.ways.now) (g.W.Ways.follows c.args.ways.now))
    (at (g.L.Loader.seen c.args.loader.now) c.args.self.now)
    (at (g.L.Loader.seen c.taking.loader) c.taking.self) (Err error.OutOfMemory) _ c.taking.invariant.goes
    (holding_in_time (at (g.L.Loader.seen c.poll.new.self) (record {
      starts = c.taking.self.starts;
      reaching = c.take_in_hand.new.self;
      asked = c.taking.self.asked;
      taken = c.taking.self.taken + 1;
      begun = c.taking.self.begun;
    })) _
    (taking_more (at (g.L.Loader.seen c.taking.loader) c.taking.self) c.in-Ok-Answer.specifier
    c.in-Ok-Answer.answer (g.L.Loader.seen c.poll.new.self) c.take_in_hand.new.self c.taking.answers.items
    c.taking.invariant.taking
    (omega (arith, c.taking.invariant.taking.holding.behind, c.if-self.false)) (rw c.in-Ok-Answer.field-0-is at c.in-Ok-Answer.ensures.polled)
    c.if-not-take_in_hand.ensures.takes.0 c.if-not-take_in_hand.ensures.takes.1 c.take_in_hand.ensures.limit).holding)

pub returns-in-Err-push-clause-kept : goal.returns-in-Err-push-clause-kept
returns-in-Err-push-clause-kept g c =
    kept_held (at (g.L.Loader.seen c.taking.loader) c.taking.self)
    (at (g.L.Loader.seen c.poll.new.self) (record {
      starts = c.taking.self.starts;
      reaching = c.take_in_hand.new.self;
      asked = c.taking.self.asked;
      taken = c.taking.self.taken + 1;
      begun = c.taking.self.begun;
    }))
    c.taking.answers.items c.in-Ok-Answer.specifier c.in-Ok-Answer.answer c.taking.invariant.taking.holding
    (rw c.in-Ok-Answer.field-0-is at c.in-Ok-Answer.ensures.polled) refl refl refl

pub returns-in-Err-push-clause-goes : goal.returns-in-Err-push-clause-goes
returns-in-Err-push-clause-goes g c =
    goes_more _ _ _ c.taking.invariant.goes
    (goes_polled (at (g.L.Loader.seen c.taking.loader) c.taking.self)
    (at (g.L.Loader.seen c.poll.new.self) (record {
      starts = c.taking.self.starts;
      reaching = c.take_in_hand.new.self;
      asked = c.taking.self.asked;
      taken = c.taking.self.taken + 1;
      begun = c.taking.self.begun;
    }))
    c.in-Ok-Answer.specifier c.in-Ok-Answer.answer (rw c.in-Ok-Answer.field-0-is at c.in-Ok-Answer.ensures.polled)
    refl c.take_in_hand.ensures.limit refl refl)

-- ---- nothing has come

pub returns-in-Ok-Pending-clause-takes : goal.returns-in-Ok-Pending-clause-takes
returns-in-Ok-Pending-clause-takes g c =
    let now = g.L.Loader.seen c.poll.new.self in
    let polled = rw c.in-Ok-Pending.field-0-is at c.in-Ok-Pending.ensures.polled in (
      taking_still (at (g.L.Loader.seen c.taking.loader) c.taking.self) now c.taking.answers.items c.taking.invariant.taking
          polled.events polled.told,
      (
        waited_after (at (g.L.Loader.seen c.args.loader.now) c.args.self.now)
            (at (g.L.Loader.seen c.taking.loader) c.taking.self) (at now c.taking.self) c.taking.invariant.goes
            c.taking.invariant.pending (has_waited (at (g.L.Loader.seen c.taking.loader) c.taking.self) now polled),
        (omega (arith, c.taking.invariant.taking.holding.behind, c.if-self.false)),
      ),
    )
