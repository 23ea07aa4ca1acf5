use Rattle.std.proofs.Common.{◌≡◌, take, map}
use Rattle.graph_check.specs.SeenGraph.{edge}
use Rattle.graph_check.specs.Check.{look_of, look_on}
use Rattle.graph_check.proofs.checking.edges_checked.Given as goal

-- the edges so far were looked at
abbrev pub invariant-loop-dependency : goal.invariant-loop-dependency
invariant-loop-dependency l =
    look_of l.verdict ≡ look_on l.policy l.graph (look_of l.before) (map (edge l.from) (take l.dependency-index l.edges))
