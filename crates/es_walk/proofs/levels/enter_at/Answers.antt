use Rattle.std.proofs.Common.{length, arith}
use Rattle.es_walk.proofs.LeftLemmas.{on_ok, cost_more}
use Rattle.es_walk.proofs.levels.enter_at.Goals as goal

pub returns-in-Some-part_at-clause-less : goal.returns-in-Some-part_at-clause-less
returns-in-Some-part_at-clause-less g c =
    let n = length c.args.parts.now.entries.now in
    let m = length c.in-Some-part_at.item.parts.entries.now in
    let more = cost_more m n (omega (arith, c.in-Some-part_at.ensures.below)) in
    on_ok c.enter.result (λ less. omega (arith, less, more)) c.enter.ensures.less
