use Rattle.std.proofs.Common.{◌≡◌, drop}
use Rattle.topological_order.specs.Order.{has}
use Rattle.topological_order.specs.Placing.{IsPlacing}
use Rattle.topological_order.proofs.placing.Placing.advance_all.Given as goal

abbrev pub invariant-loop-node : goal.invariant-loop-node
invariant-loop-node l =
    IsPlacing l.links (has (drop l.node-index l.nodes)) l.self.order l.self.placed l.self.cursor l.self.free
    × (l.self.placed ≡ l.fn.self.placed)
