use Rattle.std.proofs.Common.{subst}
use Rattle.graph_builder.specs.Graph.{GraphData, IsAscending}
use Rattle.graph_builder.proofs.GraphLemmas.{ascending_numbered}
use Rattle.graph_builder.proofs.graph.ModuleGraph.entries.Goals as goal

pub returns-clause-ascending : goal.returns-clause-ascending
returns-clause-ascending c =
    subst (λ (v : GraphData). IsAscending v.entries) c.self.view_is
    (ascending_numbered c.self.inside.all c.self.inside.order c.self.invariant.0)
