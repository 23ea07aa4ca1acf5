use Rattle.std.proofs.Common.{arith}
use Rattle.std.proofs.lemmas.Result.{on_ok_weaker}
use Rattle.es_syntax.specs.Trees.{trees_in}
use Rattle.es_printer.specs.Rows.{kept, tree_at, all, turned, last_of}
use Rattle.es_printer.proofs.WalkLemmas.{all_none, all_more, turned_more, last_more, leaning_more}
use Rattle.es_printer.proofs.walk.+walk.Goals as goal

-- ---- all parts
pub all-loop-part-preserved : goal.all-loop-part-preserved
all-loop-part-preserved t c =
    let ts = c.args.source.now.tokens.now in (
      all_more c.args.source.now (kept c.loop-part.row.entries.now) (kept c.in-Some.rest.entries.now)
          (c.in-Some.part.to, tree_at c.in-Some.part) c.args.own
          (all ts (trees_in (kept c.args.parts.entries.now)) c.args.own) c.args.out.now c.loop-part.out c.walk.new.out
          c.in-Some.ensures.trees c.in_ok-walk.ensures c.loop-part.invariant.0,
      omega (arith, c.in-Some.ensures.below, c.loop-part.invariant.1),
    )

pub all-returns : goal.all-returns
all-returns t c =
    let ts = c.args.source.now.tokens.now in
    all_none c.args.source.now (kept c.loop-part.row.entries.now) c.args.own
    (all ts (trees_in (kept c.args.parts.entries.now)) c.args.own) c.args.out.now c.loop-part.out
    c.in_default.ensures.trees c.loop-part.invariant.0

-- ---- nodes that lean left
pub turned-loop-operand-preserved : goal.turned-loop-operand-preserved
turned-loop-operand-preserved t c =
    let ts = c.args.source.now.tokens.now in (
      turned_more c.args.source.now (kept c.loop-operand.row.entries.now) (kept c.in-Some.rest.entries.now)
          (c.in-Some.operand.to, tree_at c.in-Some.operand) (trees_in (kept c.turn.result.entries.now))
          (turned ts (kept c.args.turns.entries.now)) c.args.out.now c.loop-operand.out c.all.new.out c.up_to.new.out
          c.in-Some.ensures.trees c.turn.ensures.value c.in_ok-all.ensures c.in_ok-up_to.ensures
          c.loop-operand.invariant.0,
      (
        last_more (kept c.loop-operand.row.entries.now) (kept c.in-Some.rest.entries.now)
            (c.in-Some.operand.to, tree_at c.in-Some.operand) c.loop-operand.to
            (last_of c.args.from (kept c.args.turns.entries.now)) c.in-Some.ensures.trees c.loop-operand.invariant.1.0,
        omega (arith, c.in-Some.ensures.below, c.loop-operand.invariant.1.1),
      ),
    )

pub leaning-returns-in-Some-split : goal.leaning-returns-in-Some-split
leaning-returns-in-Some-split t c =
    on_ok_weaker c.leaned.result
    (leaning_more c.args.source.now c.args.lean c.args.from (kept c.args.parts.entries.now)
    (kept c.in-Some.turns.entries.now) (kept c.in-Some-split.field-0.1.entries.now)
    (c.in-Some.operand.to, tree_at c.in-Some.operand) (c.in-Some-split.field-0.0.to, tree_at c.in-Some-split.field-0.0)
    c.args.here c.args.out.now c.leaned.new.out c.in-Some.ensures.trees c.in-Some-split.ensures.trees)
    c.leaned.ensures
