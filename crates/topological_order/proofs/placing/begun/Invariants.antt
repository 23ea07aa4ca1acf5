use Rattle.topological_order.specs.Placing.{IsPlacing}
use Rattle.topological_order.proofs.PlacingLemmas.{from_here}
use Rattle.topological_order.proofs.placing.begun.Given as goal

abbrev pub invariant-loop-node : goal.invariant-loop-node
invariant-loop-node l =
    IsPlacing l.links (from_here l.node) l.placing.order l.placing.placed l.placing.cursor l.placing.free
