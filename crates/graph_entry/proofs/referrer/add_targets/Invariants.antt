use Rattle.std.proofs.Common.{take}
use Rattle.std.specs.List.{flat_map}
use Rattle.graph_entry.specs.Referrer.{Adds, led_by}
use Rattle.graph_entry.proofs.referrer.add_targets.Given as goal

-- the targets of the edges so far were added
abbrev pub invariant-loop-edge : goal.invariant-loop-edge
invariant-loop-edge l = Adds l.initial.starts l.starts (flat_map led_by (take l.edge-index l.edges))
