use Rattle.std.proofs.Common.{◌≡◌, ◌++◌, map, take, length}
use Rattle.std.specs.List.{filter_map, flat_map}
use Rattle.graph_entry.specs.Entry.{edge_target}
use Rattle.graph_builder.specs.Graph.{texts}
use Rattle.graph_why.specs.Nodes.{node_of}
use Rattle.graph_why.proofs.nodes.starts_of.Given as goal

abbrev pub invariant-loop-root : goal.invariant-loop-root
invariant-loop-root l =
    (l.sink ≡ length l.graph.numbered)
    × (l.nodes ≡ map (node_of l.graph.numbered l.sink) (texts (take l.root-index l.graph.roots)))

abbrev pub invariant-loop-place : goal.invariant-loop-place
invariant-loop-place l =
    (l.sink ≡ length l.graph.numbered)
    × (l.nodes
    ≡ map (node_of l.graph.numbered l.sink)
    (texts l.graph.roots ++ flat_map (λ place. filter_map edge_target place.1) (take l.place-index l.graph.imports)))
