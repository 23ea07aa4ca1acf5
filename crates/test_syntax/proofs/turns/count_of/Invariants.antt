-- The turns that are left.
use Rattle.std.proofs.Common.{length}
use Rattle.test_syntax.proofs.turns.count_of.Given as goal

abbrev pub decreases-loop-others : goal.decreases-loop-others
decreases-loop-others l = length l.rest.entries.now
