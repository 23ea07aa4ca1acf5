use Rattle.std.proofs.Common.{◌≡◌, drop}
use Rattle.graph_entry.specs.Specifier.{text_of}
use Rattle.graph_vendor.specs.Kept.{keep_edges}
use Rattle.graph_vendor.proofs.kept.keep_edges.Given as goal

-- what is left decides
abbrev pub invariant-loop-edge : goal.invariant-loop-edge
invariant-loop-edge l =
    keep_edges l.graph.entries l.names (text_of l.at) l.edges
    ≡ keep_edges l.graph.entries l.names (text_of l.at) (drop l.edge-index l.edges)
