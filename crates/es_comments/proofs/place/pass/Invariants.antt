use Rattle.std.proofs.Common.{◌-◌, ◌≤◌, length}
use Rattle.es_comments.specs.Standing.{count_before}
use Rattle.es_comments.proofs.place.pass.Given as goal

abbrev pub invariant-loop-passed : goal.invariant-loop-passed
invariant-loop-passed l = l.passed ≤ count_before l.tokens l.place

abbrev pub decreases-loop-passed : goal.decreases-loop-passed
decreases-loop-passed l = length l.tokens - l.passed
