use Rattle.std.proofs.Common.{◌++◌, ◌∷◌, [], arith, rules}
use Rattle.topological_order.proofs.WalkLemmas.{end_more}
use Rattle.topological_order.proofs.walk.cut_at.Goals as goal

pub loop-first-preserved : goal.loop-first-preserved
loop-first-preserved c =
    let e = end_more c.args.walk.now c.loop-first.rest.now c.in-Some.behind.now c.in-Some.first.now c.args.node
    c.loop-first.invariant.front c.in-Some.ensures.cases.0 c.loop-first.invariant.split c.loop-first.invariant.there
    c.if-first-node.false in
    record { front = c.loop-first.invariant.front ++ c.in-Some.first.now ∷ []; split = e.0; there = e.1 }
