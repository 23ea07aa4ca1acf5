use Rattle.std.proofs.Common.{◌≡◌, map}
use Rattle.graph_entry.specs.Specifier.{text_of}
use Rattle.graph_entry.specs.Resolution.{resolve_by_kind}
use Rattle.graph_entry.specs.Analysed.{dependency_of}
use Rattle.graph_entry.proofs.analysis.dependencies_of.Given as goal

-- one edge for each site so far, in order
abbrev pub invariant-loop-site : goal.invariant-loop-site
invariant-loop-site g l =
    l.edges
    ≡ map (dependency_of (resolve_by_kind (g.R.KindResolver.resolving_by_kind l.resolver)) (text_of l.source.specifier.now)) l.yielded
