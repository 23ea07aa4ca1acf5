-- The edges of the graph cut their literals, where the analyser's sites do.
use Rattle.graph_entry.specs.Ways.{kind_ways_by}
use Rattle.graph_entry.proofs.Theorems.{analysed_by_cuts}
use Rattle.graph_builder.specs.Own.{own_rules}
use Rattle.graph_builder.proofs.Theorems.{answered_cut}
use Rattle.graph_builder.proofs.custom.CustomBuild.poll_batched.Goals as goal

pub returns-clause-cuts : goal.returns-clause-cuts
returns-clause-cuts g c = λ cuts.
    let own = c.args.self.now.inner.following in
    answered_cut (own_rules g.R.KindResolver.resolving_by_kind g.M.ModuleAnalyzer.reads own)
    (analysed_by_cuts (kind_ways_by (g.R.KindResolver.resolving_by_kind own.resolver) (g.M.ModuleAnalyzer.reads own.analyzer)) cuts)
    _ _ c.poll_batched.result c.poll_batched.ensures.graph
