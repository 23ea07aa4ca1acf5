use Rattle.std.proofs.Common.{false}
use Rattle.topological_order.specs.Placing.{IsPlacing}
use Rattle.topological_order.proofs.PlacingLemmas.{open_count}
use Rattle.topological_order.proofs.placing.place_all.Given as goal

abbrev pub invariant-loop-node : goal.invariant-loop-node
invariant-loop-node l =
    IsPlacing l.links (λ _. false) l.placing.order l.placing.placed l.placing.cursor l.placing.free

abbrev pub decreases-loop-node : goal.decreases-loop-node
decreases-loop-node l = open_count l.placing.placed
