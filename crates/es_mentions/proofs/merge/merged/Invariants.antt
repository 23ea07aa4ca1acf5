-- What is merged by now, and of what is left, is what is merged of all.
use Rattle.std.proofs.Common.{◌≡◌, ◌++◌, length}
use Rattle.es_mentions.specs.Mentions.{merged}
use Rattle.es_mentions.proofs.merge.merged.Given as goal

abbrev pub invariant-loop-name : goal.invariant-loop-name
invariant-loop-name l = l.out ++ merged l.row l.left ≡ merged l.names l.others

abbrev pub decreases-loop-name : goal.decreases-loop-name
decreases-loop-name l = length l.row
