use Rattle.std.proofs.Common.{◌≡◌, map, take, length}
use Rattle.graph_entry.specs.Specifier.{text_of}
use Rattle.graph_builder.specs.Graph.{entry_of}
use Rattle.graph_why.specs.Nodes.{row_of}
use Rattle.graph_why.proofs.nodes.links_of.Given as goal

abbrev pub invariant-loop-number : goal.invariant-loop-number
invariant-loop-number l =
    (l.sink ≡ length l.graph.numbered)
    × (l.links
    ≡ map (λ url. row_of l.graph.numbered l.sink l.following (entry_of l.graph.entries (text_of url)))
    (take l.number l.graph.numbered))
