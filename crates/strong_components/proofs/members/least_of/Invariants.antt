use Rattle.std.proofs.Common.{◌≡◌, ◌<◌, ℕ, length}
use Rattle.std.specs.Prelude.{slice_index}
use Rattle.topological_order.specs.Order.{links_of}
use Rattle.strong_components.specs.Components.{first_of}
use Rattle.strong_components.proofs.members.least_of.Given as goal

abbrev pub invariant-loop-node : goal.invariant-loop-node
invariant-loop-node l =
    (length l.least ≡ l.node)
    × ((v : ℕ) → v < l.node → slice_index l.least v ≡ first_of (links_of l.members (slice_index l.roots v)))
