-- What holds while a walk looks for the first cycle.
use Rattle.std.specs.Prelude.{◌≡◌, ℕ, ◌<◌, true, false, Bool, List, ◌++◌, length, slice_index, slice_index_or}
use Rattle.std.specs.List.{AllByRecursion}
use Rattle.topological_order.specs.Order.{Links, Link, links_of, has, nodes, head_of, IsChain, IsLink, target, AreApart, IsStuck}

-- each node that isn't placed has a link to such a one, and none that is placed is stuck
pub record IsClosed (g : Links) (placed : List Bool) : Type 0 where
  pub len : length placed ≡ length g
  pub leads : (v : ℕ) → v < length g → slice_index_or placed v false ≡ false
      → (k : ℕ) × (k < length (links_of g v)) × (slice_index_or placed (slice_index (links_of g v) k) false ≡ false)
  pub done : (v : ℕ) → slice_index_or placed v false ≡ true → IsStuck g v → ⊥

-- the first node that isn't placed
pub record IsFirstOpen (placed : List Bool) (start : ℕ) : Type 0 where
  pub within : start < length placed
  pub open_yet : slice_index_or placed start false ≡ false
  pub first : (v : ℕ) → v < start → slice_index_or placed v false ≡ true

-- the link is its node's first to one that isn't placed
pub record IsOpenLink (g : Links) (placed : List Bool) (e : Link) : Type 0 where
  pub passed : (k : ℕ) → k < e.1 → slice_index_or placed (target g (e.0, k)) false ≡ true

-- the walk so far, from the start to here
pub record IsWalk (g : Links) (placed met : List Bool) (start : ℕ) (walk : List Link) (here : ℕ) : Type 0 where
  pub chain : IsChain g start walk here
  pub apart : AreApart (nodes walk)
  pub met_len : length met ≡ length g
  pub marks : (v : ℕ) → slice_index_or met v false ≡ has (nodes walk) v
  pub each : AllByRecursion (IsOpenLink g placed) walk
  pub node : here < length g
  pub open_yet : slice_index_or placed here false ≡ false

-- the end of the walk from this node on
pub record IsCutAt (walk : List Link) (node : ℕ) (cycle : List Link) : Type 0 where
  pub front : List Link
  pub split : walk ≡ front ++ cycle
  pub head : head_of cycle ≡ node
  pub some : length cycle ≡ 0 → ⊥
