use Rattle.topological_order.specs.Walk.{IsWalk}
use Rattle.topological_order.proofs.PlacingLemmas.{open_count}
use Rattle.topological_order.proofs.walk.first_cycle.Given as goal

abbrev pub invariant-loop-met : goal.invariant-loop-met
invariant-loop-met l = IsWalk l.links l.placed l.met l.start l.walk l.at

abbrev pub decreases-loop-met : goal.decreases-loop-met
decreases-loop-met l = open_count l.met
