use Rattle.std.proofs.Common.{◌≡◌, map, take}
use Rattle.graph_builder.specs.Graph.{texts}
use Rattle.graph_order.specs.Names.{named_at, name_of}
use Rattle.graph_groups.proofs.find.named_groups.Given as goal

abbrev pub invariant-loop-members : goal.invariant-loop-members
invariant-loop-members l = map texts l.groups ≡ map (map (name_of (named_at l.names))) (take l.members-index l.found)
