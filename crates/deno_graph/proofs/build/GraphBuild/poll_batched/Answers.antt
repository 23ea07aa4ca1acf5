-- The graph is that of the roots and the answers, and the edges of such a graph cut their literals.
use Rattle.graph_entry.proofs.Theorems.{analysed_cuts}
use Rattle.graph_builder.specs.Builder.{graph_rules}
use Rattle.graph_builder.proofs.Theorems.{answered_cut}
use Rattle.deno_graph.proofs.build.GraphBuild.poll_batched.Goals as goal

pub returns-clause-cuts : goal.returns-clause-cuts
returns-clause-cuts g c =
    answered_cut (graph_rules c.args.self.now.inner) analysed_cuts _ _ c.poll_batched.result c.poll_batched.ensures.graph
