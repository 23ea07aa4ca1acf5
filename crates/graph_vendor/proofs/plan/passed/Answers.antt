use Rattle.std.proofs.Common.{subst}
use Rattle.graph_vendor.specs.Refused.{Told, IsFirstRefused}
use Rattle.graph_vendor.proofs.RefusedLemmas.{passes_own}
use Rattle.graph_vendor.proofs.plan.passed.Goals as goal

-- the edges of each source are its own
pub named-requires : goal.named-requires
named-requires g c =
    let reads = g.M.ModuleAnalyzer.reads c.args.analyzer.now in
    passes_own reads c.args.graph.now.entries c.requires.parser
    (subst (λ (found : Told). IsFirstRefused reads c.args.graph.now.entries found) c.in-None.is c.in_ok-cause.ensures)
