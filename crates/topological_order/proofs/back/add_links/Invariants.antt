use Rattle.std.proofs.Common.{◌≡◌, ◌<◌, ℕ, List, true, length}
use Rattle.std.specs.Prelude.{slice_index}
use Rattle.topological_order.specs.Order.{links_of, has, Links}
use Rattle.topological_order.proofs.back.add_links.Given as goal

-- the node stands in the lists of its targets so far, and nothing went
pub record AreAdded (old new : Links) (targets : List ℕ) (node n : ℕ) : Type 0 where
  pub len : length new ≡ length old
  pub kept : (u w : ℕ) → has (links_of old u) w ≡ true → has (links_of new u) w ≡ true
  pub added : (k : ℕ) → k < n → k < length targets → has (links_of new (slice_index targets k)) node ≡ true

abbrev pub invariant-loop-target : goal.invariant-loop-target
invariant-loop-target l = AreAdded l.initial.back.items l.back.items l.targets l.node l.target-index
