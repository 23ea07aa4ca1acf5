use Rattle.std.proofs.Common.{◌≡◌, map, take}
use Rattle.graph_builder.specs.Settling.{misfit_here}
use Rattle.graph_builder.proofs.settle.misfits_among.Given as goal

-- an answer for each edge so far
abbrev pub invariant-loop-place : goal.invariant-loop-place
invariant-loop-place l = l.refused ≡ map (misfit_here l.following l.typed l.firsts) (take l.place l.edges)
