use Rattle.std.proofs.Common.{◌≡◌, take}
use Rattle.std.specs.List.{filter_map}
use Rattle.graph_order.specs.Names.{named, sees}
use Rattle.graph_order.proofs.names.module_links.Given as goal

abbrev pub invariant-loop-edge : goal.invariant-loop-edge
invariant-loop-edge l = l.links ≡ filter_map (sees (named l.graph.entries) l.graph.entries) (take l.edge-index l.all)
