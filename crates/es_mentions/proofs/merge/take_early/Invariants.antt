-- Those before by now, and at the front of what is left, are those of all.
use Rattle.std.proofs.Common.{◌≡◌, ◌++◌, length}
use Rattle.es_mentions.specs.Mentions.{early, late}
use Rattle.es_mentions.proofs.merge.take_early.Given as goal

abbrev pub invariant-loop-first : goal.invariant-loop-first
invariant-loop-first l =
    (l.out ++ early l.at l.row ≡ l.initial.out ++ early l.at l.others) × (late l.at l.row ≡ late l.at l.others)

abbrev pub decreases-loop-first : goal.decreases-loop-first
decreases-loop-first l = length l.row
