use Rattle.std.proofs.Common.{◌≡◌, ◌≤◌, ◌<◌, ◌-◌, ℕ, List, Bool, true, false, length}
use Rattle.std.specs.Prelude.{slice_index, slice_index_or}
use Rattle.strong_components.proofs.finish.first_unmet.Given as goal

-- the targets from the first place to here are met
pub record ArePassed (targets : List ℕ) (met : List Bool) (from at : ℕ) : Type 0 where
  pub begun : from ≤ at
  pub within : at ≤ length targets
  pub passed : (j : ℕ) → from ≤ j → j < at → slice_index_or met (slice_index targets j) false ≡ true

abbrev pub invariant-loop-at : goal.invariant-loop-at
invariant-loop-at l = ArePassed l.targets l.met l.from l.at

abbrev pub decreases-loop-at : goal.decreases-loop-at
decreases-loop-at l = length l.targets - l.at
