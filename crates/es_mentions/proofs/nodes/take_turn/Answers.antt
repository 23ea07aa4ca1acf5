use Rattle.std.proofs.Common.{length, arith}
use Rattle.es_walk.proofs.LeftLemmas.{on_ok, cost_pos, cost_more}
use Rattle.es_mentions.proofs.nodes.take_turn.Goals as goal

pub returns-in-None-clause-less : goal.returns-in-None-clause-less
returns-in-None-clause-less c =
    let pos = cost_pos (length c.args.parts.now.entries.now) in
    omega (arith, pos)

pub returns-in_ok-put-in-Some-clause-less : goal.returns-in_ok-put-in-Some-clause-less
returns-in_ok-put-in-Some-clause-less c =
    let n = length c.args.parts.now.entries.now in
    let m = length c.inside.result.entries.now in
    let k = length c.in-Some.others.entries.now in
    let more = cost_more m n (omega (arith, c.in-Some.ensures.below, c.inside.ensures.below)) in
    let other = cost_more k n (omega (arith, c.in-Some.ensures.below)) in
    let pos = cost_pos m in
    on_ok c.put-in-Some.result (λ less. omega (arith, c.in_ok-put-in-Some.ensures.less, less, more, other, pos))
    c.put-in-Some.ensures.less
