use Rattle.std.specs.Prelude.{slice_index}
use Rattle.shortest_paths.proofs.PathLemmas.{IsTracing}
use Rattle.shortest_paths.proofs.path.trace.Given as goal

abbrev pub invariant-loop-at : goal.invariant-loop-at
invariant-loop-at l =
    IsTracing l.scope.links.now l.scope.without l.search.met l.search.level l.path.items l.at l.node

abbrev pub decreases-loop-at : goal.decreases-loop-at
decreases-loop-at l = slice_index l.search.level l.at
