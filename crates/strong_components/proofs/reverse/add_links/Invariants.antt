use Rattle.std.proofs.Common.{◌≡◌, ℕ, List, take, length}
use Rattle.std.specs.Prelude.{◌||◌, ◌&&◌, ◌==◌}
use Rattle.topological_order.specs.Order.{Links, links_of, has}
use Rattle.strong_components.proofs.reverse.add_links.Given as goal

-- the node is in the lists of its targets so far, and nothing else was put into any
pub record ArePut (old new : Links) (targets : List ℕ) (node n : ℕ) : Type 0 where
  pub len : length new ≡ length old
  pub put : (u w : ℕ) → has (links_of new u) w ≡ ((w == node && has (take n targets) u) || has (links_of old u) w)

abbrev pub invariant-loop-target : goal.invariant-loop-target
invariant-loop-target l = ArePut l.initial.back.items l.back.items l.targets l.node l.target-index
