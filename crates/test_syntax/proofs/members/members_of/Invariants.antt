-- The members that are left.
use Rattle.std.proofs.Common.{length}
use Rattle.test_syntax.proofs.members.members_of.Given as goal

abbrev pub decreases-loop-turn : goal.decreases-loop-turn
decreases-loop-turn l = length l.rest.entries.now
