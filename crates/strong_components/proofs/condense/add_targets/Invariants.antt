use Rattle.std.proofs.Common.{◌≡◌, ◌≢◌, ◌⊎◌, ◌<◌, ℕ, List, true, length}
use Rattle.std.specs.Prelude.{slice_index}
use Rattle.topological_order.specs.Order.{Links, links_of, has}
use Rattle.strong_components.specs.Condensed.{IsJoin}
use Rattle.strong_components.proofs.condense.add_targets.Given as goal

-- the components of the first targets are added, and nothing else
pub record AreAdded (old new : Links) (least : List ℕ) (from : ℕ) (targets : List ℕ) (n : ℕ) : Type 0 where
  pub len : length new ≡ length old
  pub kept : (u w : ℕ) → has (links_of old u) w ≡ true → has (links_of new u) w ≡ true
  pub added : (k : ℕ) → k < n → k < length targets → slice_index least (slice_index targets k) ≢ from
      → has (links_of new from) (slice_index least (slice_index targets k)) ≡ true
  pub sound : (u w : ℕ) → has (links_of new u) w ≡ true
      → (has (links_of old u) w ≡ true) ⊎ IsJoin least from targets u w

abbrev pub invariant-loop-target : goal.invariant-loop-target
invariant-loop-target l = AreAdded l.initial.joined.items l.joined.items l.least l.from l.targets l.target-index
