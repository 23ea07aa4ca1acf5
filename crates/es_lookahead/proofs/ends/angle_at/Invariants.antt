use Rattle.std.proofs.Common.{◌≡◌}
use Rattle.es_lookahead.specs.Ends.{angle_at}
use Rattle.es_lookahead.proofs.ends.angle_at.Given as goal

-- what is left to look at tells what the whole tells
abbrev pub invariant-halves : goal.invariant-halves
invariant-halves l = angle_at l.steps l.within l.at ≡ angle_at 64 l.angles l.at

abbrev pub decreases-halves : goal.decreases-halves
decreases-halves l = l.steps
