use Rattle.std.proofs.Common.{◌≡◌, map, take}
use Rattle.graph_builder.specs.Rules.{led_to, is_followed, has_types}
use Rattle.graph_why.specs.Nodes.{node_there}
use Rattle.graph_why.proofs.nodes.module_links.Given as goal

abbrev pub invariant-loop-dependency : goal.invariant-loop-dependency
invariant-loop-dependency l =
    l.links
    ≡ map (λ d. node_there l.graph.numbered l.sink (led_to (is_followed l.following (has_types l.held)) d))
    (take l.dependency-index l.all)
