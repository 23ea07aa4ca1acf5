use Rattle.std.proofs.Common.{arith}
use Rattle.std.proofs.lemmas.Result.{on_ok_weaker}
use Rattle.es_changed_printer.specs.declared.signs.Place.TheVariants.{First}
use Rattle.es_changed_printer.specs.Pieces.{parts, part_at, all, run, turned, last_of}
use Rattle.es_changed_printer.proofs.WalkLemmas.{all_none, all_more, run_none, run_more, turned_none, turned_more, last_more, leaning_more, leant_grows}
use Rattle.es_changed_printer.proofs.walk.+walk.Goals as goal

-- ---- all parts
pub all-loop-part-preserved : goal.all-loop-part-preserved
all-loop-part-preserved t c =
    let ts = c.args.source.now.tokens.now in (
      all_more c.args.source.now (parts ts c.loop-part.row.entries.now) (parts ts c.in-Some.rest.entries.now)
          (part_at ts c.in-Some.part) c.args.own (all (parts ts c.args.whole.entries.now) c.args.own) c.args.out.now
          c.loop-part.out c.walk.new.out (c.in-Some.ensures.parts ts) c.in_ok-walk.ensures c.loop-part.invariant.0,
      omega (arith, c.in-Some.ensures.below, c.loop-part.invariant.1),
    )

pub all-returns : goal.all-returns
all-returns t c =
    let ts = c.args.source.now.tokens.now in
    all_none c.args.source.now (parts ts c.loop-part.row.entries.now) c.args.own
    (all (parts ts c.args.whole.entries.now) c.args.own) c.args.out.now c.loop-part.out (c.in_default.ensures.parts ts)
    c.loop-part.invariant.0

-- ---- the parts of a form
pub run-loop-part-preserved : goal.run-loop-part-preserved
run-loop-part-preserved t c =
    let ts = c.args.source.now.tokens.now in (
      run_more c.args.source.now c.args.form c.loop-part.place c.counted-place.result c.is_part-counts.result
          (parts ts c.loop-part.row.entries.now) (parts ts c.in-Some.rest.entries.now) (part_at ts c.in-Some.part)
          c.args.own (run c.args.form First (parts ts c.args.whole.entries.now) c.args.own) c.args.out.now c.loop-part.out
          c.push_ahead.new.out c.walk.new.out (c.in-Some.ensures.parts ts) c.is_part-counts.ensures c.counted-place.ensures
          c.in_ok-push_ahead.ensures c.in_ok-walk.ensures c.loop-part.invariant.0,
      omega (arith, c.in-Some.ensures.below, c.loop-part.invariant.1),
    )

pub run-returns : goal.run-returns
run-returns t c =
    let ts = c.args.source.now.tokens.now in
    run_none c.args.source.now c.args.form c.loop-part.place (parts ts c.loop-part.row.entries.now) c.args.own
    (run c.args.form First (parts ts c.args.whole.entries.now) c.args.own) c.args.out.now c.loop-part.out
    (c.in_default.ensures.parts ts) c.loop-part.invariant.0

-- ---- nodes that lean left
pub turned-loop-operand-preserved : goal.turned-loop-operand-preserved
turned-loop-operand-preserved t c =
    let ts = c.args.source.now.tokens.now in (
      turned_more c.args.source.now (parts ts c.loop-operand.row.entries.now) (parts ts c.in-Some.rest.entries.now)
          (part_at ts c.in-Some.operand) (turned ts (parts ts c.args.turns.entries.now)) c.args.out.now c.loop-operand.out
          c.turn.new.out c.up_to.new.out (c.in-Some.ensures.parts ts) c.in_ok-turn.ensures c.in_ok-up_to.ensures
          c.loop-operand.invariant.0,
      (
        last_more (parts ts c.loop-operand.row.entries.now) (parts ts c.in-Some.rest.entries.now)
            (part_at ts c.in-Some.operand) c.loop-operand.to (last_of c.args.from (parts ts c.args.turns.entries.now))
            (c.in-Some.ensures.parts ts) c.loop-operand.invariant.1.0,
        omega (arith, c.in-Some.ensures.below, c.loop-operand.invariant.1.1),
      ),
    )

pub turned-returns-clause-shown : goal.turned-returns-clause-shown
turned-returns-clause-shown t c =
    let ts = c.args.source.now.tokens.now in
    turned_none c.args.source.now (parts ts c.loop-operand.row.entries.now)
    (turned ts (parts ts c.args.turns.entries.now)) c.args.out.now c.loop-operand.out (c.in_default.ensures.parts ts)
    c.loop-operand.invariant.0

pub leaned-returns : goal.leaned-returns
leaned-returns t c =
    let ts = c.args.source.now.tokens.now in
    on_ok_weaker c.behind.result
    (leant_grows c.args.source.now c.args.lean c.label_of.result c.args.from _ (part_at ts c.args.operand)
    (parts ts c.args.turns.entries.now) c.args.here c.args.out.now c.up_to.new.out c.before-2.new.out c.walk.new.out
    c.turned.new.out c.behind.new.out c.label_of.ensures c.in_ok-up_to.ensures c.in_ok-before.ensures
    c.in_ok-walk.ensures c.in_ok-to.ensures.shown c.in_ok-to.ensures.to)
    c.behind.ensures

pub leaning-returns-in-Some-split : goal.leaning-returns-in-Some-split
leaning-returns-in-Some-split t c =
    let ts = c.args.source.now.tokens.now in
    on_ok_weaker c.leaned.result
    (leaning_more c.args.source.now c.args.lean c.args.from (parts ts c.args.row.entries.now)
    (parts ts c.in-Some.turns.entries.now) (parts ts c.in-Some-split.field-0.1.entries.now) (part_at ts c.in-Some.operand)
    (part_at ts c.in-Some-split.field-0.0) c.args.here c.args.out.now c.leaned.new.out (c.in-Some.ensures.parts ts)
    (c.in-Some-split.ensures.parts ts))
    c.leaned.ensures
