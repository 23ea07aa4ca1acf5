use Rattle.std.proofs.Common.{◌≡◌, map, take}
use Rattle.graph_builder.specs.ByText.{keys_at}
use Rattle.graph_order.specs.Order.{modules, AreApart, edge_of}
use Rattle.graph_order.proofs.check.are_apart.Given as goal

abbrev pub invariant-loop-edge : goal.invariant-loop-edge
invariant-loop-edge l = record {
  met : keys_at l.met ≡ modules (map edge_of (take l.edge-index l.edges));
  apart : AreApart (modules (map edge_of (take l.edge-index l.edges)));
}
