use Rattle.shortest_paths.specs.Search.{AreMarkedOnly}
use Rattle.shortest_paths.proofs.gone.only_first.Given as goal

abbrev pub invariant-loop-place : goal.invariant-loop-place
invariant-loop-place l = AreMarkedOnly l.first l.second l.place l.places
