use Rattle.es_walk.proofs.PartLemmas.{split_parts}
use Rattle.es_walk.proofs.looks.first.Goals as goal

-- its trees are what is split
pub returns-clause-value : goal.returns-clause-value
returns-clause-value g c =
    split_parts (g.P.Walk.rules c.args._by.now) c.args.row.now.entries.now c.split_trees.result
    c.split_trees.ensures.trees
