use Rattle.import_map.proofs.NamesLemmas.{IsTried}
use Rattle.import_map.proofs.names.front_reach.Given as goal

abbrev pub invariant-loop-end : goal.invariant-loop-end
invariant-loop-end l = IsTried l.text l.names l.end l.longest

abbrev pub decreases-loop-end : goal.decreases-loop-end
decreases-loop-end l = l.end
