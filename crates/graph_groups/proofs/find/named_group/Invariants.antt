use Rattle.std.proofs.Common.{◌≡◌, map, take}
use Rattle.graph_builder.specs.Graph.{texts}
use Rattle.graph_order.specs.Names.{named_at, name_of}
use Rattle.graph_groups.proofs.find.named_group.Given as goal

abbrev pub invariant-loop-node : goal.invariant-loop-node
invariant-loop-node l = texts l.urls ≡ map (name_of (named_at l.names)) (take l.node-index l.members)
