use Rattle.std.proofs.Common.{◌≡◌, ◌++◌, map}
use Rattle.es_comments.specs.Placed.{places_of}
use Rattle.es_comments.proofs.maps.copy_map.Given as goal

-- what is copied, and what is left
abbrev pub invariant-loop-place : goal.invariant-loop-place
invariant-loop-place l = places_of l.copy ++ map (λ e. (e.0, e.1.items)) l.place-iterator ≡ places_of l.map
