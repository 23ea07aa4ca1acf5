-- What is found by now and what is left are the sites of the row.
use Rattle.std.specs.List.{flat_map}
use Rattle.std.proofs.Common.{◌≡◌, ◌++◌}
use Rattle.es_syntax.specs.Trees.{trees}
use Rattle.es_law_sites.specs.plain.Own.{plain_sites}
use Rattle.es_tree_sites.specs.Left.{ahead, weight}
use Rattle.es_tree_sites.proofs.walk.tree_sites.Given as goal

abbrev pub invariant-loop-left : goal.invariant-loop-left
invariant-loop-left l =
    l.found ++ ahead l.source l.around ≡ flat_map (plain_sites l.text l.tokens) (trees l.entries)

abbrev pub decreases-loop-left : goal.decreases-loop-left
decreases-loop-left l = weight l.around
