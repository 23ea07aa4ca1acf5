use Rattle.std.proofs.Common.{length}
use Rattle.test_syntax.proofs.lists.+cuts.Given as goal

-- the tokens that are left
abbrev pub decreases-cuts : goal.decreases-cuts
decreases-cuts l = length l.tokens.now
