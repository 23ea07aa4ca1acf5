use Rattle.es_syntax.specs.Trees.{trees}
use Rattle.es_walk.proofs.WalkLemmas.{first_none}
use Rattle.es_walk.proofs.levels.walk_first.Goals as goal

pub returns-in-None : goal.returns-in-None
returns-in-None g c =
    first_none (g.P.Walk.rules c.args.by.now) c.args.out.now (trees c.args.row.now.entries.now) c.args.here
    c.in-None.ensures.trees
