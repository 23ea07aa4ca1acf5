use Rattle.std.proofs.Common.{◌≡◌, ◌+◌, ◌∙◌, sym, subst, arith, set, true, List}
use Rattle.topological_order.specs.Order.{Link}
use Rattle.topological_order.specs.Walk.{IsCutAt}
use Rattle.topological_order.proofs.PlacingLemmas.{open_count, count-set}
use Rattle.topological_order.proofs.WalkLemmas.{walk_begun, walk_step, walk_done, if_ok}
use Rattle.topological_order.proofs.walk.first_cycle.Goals as goal

pub loop-met-smaller : goal.loop-met-smaller
loop-met-smaller c =
    let less : open_count (set c.loop-met.met c.loop-met.at true) + 1 ≡ open_count c.loop-met.met =
    count-set c.loop-met.met c.loop-met.at (rw c.loop-met.invariant.met_len c.loop-met.invariant.node)
    (sym c.is_marked.ensures ∙ c.loop-met-test.true) in
    rw c.set.ensures (omega (arith, less))

pub loop-met-preserved : goal.loop-met-preserved
loop-met-preserved c =
    rw (c.set.ensures, c.in_ok-push.ensures.ok)
    (walk_step c.args.links.now c.args.placed.now c.loop-met.met c.args.start c.loop-met.walk c.loop-met.at
    c.first_open-place.result c.targets_of-targets.result.now c.targets_of-targets.ensures c.requires.within
    c.requires.closed c.loop-met.invariant (sym c.is_marked.ensures ∙ c.loop-met-test.true)
    c.first_open-place.ensures.passed c.first_open-place.ensures.open_yet)

pub returns : goal.returns
returns c =
    if_ok c.cut_at.result _ _
    (λ cycle cut. walk_done c.args.links.now c.args.placed.now c.loop-met.met c.args.start c.loop-met.walk cycle
    c.loop-met.at
    c.requires.closed c.requires.first c.loop-met.invariant
    (subst (λ (w : List Link). IsCutAt w c.loop-met.at cycle) c.as_slice.ensures cut))
    c.cut_at.ensures
