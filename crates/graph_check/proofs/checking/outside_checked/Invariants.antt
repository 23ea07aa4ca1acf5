use Rattle.std.proofs.Common.{◌≡◌, take}
use Rattle.std.specs.List.{flat_map}
use Rattle.graph_check.specs.SeenGraph.{outside_things}
use Rattle.graph_check.specs.Check.{look_of, look_from}
use Rattle.graph_check.proofs.checking.outside_checked.Given as goal

-- what the places so far import was looked at
abbrev pub invariant-loop-place : goal.invariant-loop-place
invariant-loop-place l =
    look_of l.verdict ≡ look_from l.policy l.graph 0 (flat_map outside_things (take l.place-index l.places))
