use Rattle.std.proofs.Common.{◌≡◌, ◌+◌, ◌<◌, drop, length}
use Rattle.std.specs.List.{filter_map}
use Rattle.graph_order.specs.Names.{named, sees, place_of}
use Rattle.graph_order.proofs.find.nth_static.Given as goal

-- behind the edges so far so many static ones are to be passed over
abbrev pub invariant-loop-place : goal.invariant-loop-place
invariant-loop-place l = record {
  within : l.left < length (filter_map (sees (named l.graph.entries) l.graph.entries) (drop l.place l.edges));
  sum : l.place + place_of (sees (named l.graph.entries) l.graph.entries) (drop l.place l.edges) l.left
      ≡ place_of (sees (named l.graph.entries) l.graph.entries) l.edges l.nth;
}
