-- What is found by now and what is left are what all is.
use Rattle.std.proofs.Common.{◌≡◌, ◌≤◌, ◌+◌, ◌++◌, length}
use Rattle.es_tree_sites.specs.Named.{Unnamed}
use Rattle.es_tree_sites.specs.Left.{left_sites, ahead, weight}
use Rattle.es_tree_sites.proofs.source.TokenizedText.go_down.Given as goal

abbrev pub invariant-loop-first : goal.invariant-loop-first
invariant-loop-first l =
    (l.found ++ (left_sites l.self l.here ++ ahead l.self l.around)
    ≡ l.initial.found ++ (left_sites l.self l.left ++ ahead l.self l.initial.around))
    × (weight l.around + (length l.here.parts.entries.now + length l.here.parts.entries.now)
    ≤ weight l.initial.around + (length l.left.parts.entries.now + length l.left.parts.entries.now))
    × Unnamed l.before l.here.parts.entries.now

abbrev pub decreases-loop-first : goal.decreases-loop-first
decreases-loop-first l = length l.here.parts.entries.now
