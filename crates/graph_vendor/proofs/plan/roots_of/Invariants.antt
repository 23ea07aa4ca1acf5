use Rattle.std.proofs.Common.{◌≡◌, take}
use Rattle.std.specs.List.{filter_map}
use Rattle.graph_entry.specs.Specifier.{text_of}
use Rattle.graph_builder.specs.Graph.{texts}
use Rattle.graph_vendor.specs.Names.{renamed}
use Rattle.graph_vendor.proofs.plan.roots_of.Given as goal

-- the new names of the roots so far
abbrev pub invariant-loop-root : goal.invariant-loop-root
invariant-loop-root l =
    texts l.roots ≡ filter_map (λ r. renamed l.graph.entries l.names (text_of r)) (take l.root-index l.root-items)
