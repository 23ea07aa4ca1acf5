use Rattle.std.proofs.Common.{◌≡◌, ◌≤◌, ℕ, List, Bool, true, false, drop, length}
use Rattle.std.specs.Prelude.{slice_index_or}
use Rattle.topological_order.specs.Order.{Links, has}
use Rattle.strong_components.specs.Components.{Reaches}
use Rattle.strong_components.specs.Finish.{steps_left}
use Rattle.strong_components.specs.Gather.{IsSpread}
use Rattle.strong_components.proofs.gather.Gathering.assign_all.Given as goal

-- the first nodes have a root
pub record AreGiven (root : ℕ) (nodes : List ℕ) (n : ℕ) (met : List Bool) (roots pending : List ℕ) (met_now : List Bool)
    (roots_now pending_now : List ℕ) : Type 0 where
  pub met_len : length met_now ≡ length met
  pub roots_len : length roots_now ≡ length roots
  pub spread : (g : Links) (met_old : List Bool) (roots_old : List ℕ)
      → IsSpread g root met_old roots_old met roots pending (has nodes)
      → ((v : ℕ) → has nodes v ≡ true → Reaches g v root)
      → IsSpread g root met_old roots_old met_now roots_now pending_now (has (drop n nodes))
  pub kept : (v : ℕ) → slice_index_or met v false ≡ true → slice_index_or met_now v false ≡ true
  pub smaller : steps_left met_now pending_now ≤ steps_left met pending

abbrev pub invariant-loop-node : goal.invariant-loop-node
invariant-loop-node l =
    AreGiven l.root l.nodes l.node-index l.fn.self.met l.fn.self.roots l.fn.self.pending l.self.met l.self.roots
    l.self.pending
