use Rattle.std.proofs.Common.{length, arith}
use Rattle.es_walk.proofs.LeftLemmas.{on_ok, cost_up}
use Rattle.es_mentions.proofs.nodes.enter_lean.Goals as goal

pub returns-in_ok-put-in-Some-split_trees-clause-less :
    goal.returns-in_ok-put-in-Some-split_trees-clause-less
returns-in_ok-put-in-Some-split_trees-clause-less c =
    let n = length c.args.parts.now.entries.now in
    let m = length c.in-Some.turns.entries.now in
    let up = cost_up n m (omega (arith, c.in-Some.ensures.below)) in
    on_ok c.put-in-Some-split_trees.result
    (λ less. omega (arith, c.in_ok-put-in-Some-split_trees.ensures.less, less, up))
    c.put-in-Some-split_trees.ensures.less
