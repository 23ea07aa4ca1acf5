-- What holds while the components' members get their roots.
use Rattle.std.specs.Prelude.{◌≡◌, ◌⊎◌, ℕ, ◌<◌, ◌||◌, Bool, true, false, List, [], length, slice_index, slice_index_or}
use Rattle.topological_order.specs.Order.{Links, links_of, has, EachBehind}
use Rattle.strong_components.specs.Components.{Reaches, AreMutual}
use Rattle.strong_components.specs.Finish.{ReachesBack}

-- each node and its root reach each other, and nodes that do so have one root
pub record AreRoots (g : Links) (roots : List ℕ) : Type 0 where
  pub len : length roots ≡ length g
  pub of_root : (v : ℕ) → v < length g → AreMutual g v (slice_index roots v)
  pub same : (v w : ℕ) → v < length g → w < length g → AreMutual g v w → slice_index roots v ≡ slice_index roots w

-- a node with a link to one that has a root has one
pub record IsClosed (g : Links) (met : List Bool) (roots : List ℕ) : Type 0 where
  pub met_len : length met ≡ length g
  pub roots_len : length roots ≡ length g
  pub closed : (v t : ℕ) → has (links_of g v) t ≡ true → slice_index_or met t false ≡ true
      → slice_index_or met v false ≡ true

-- the node got this root, which it reaches
pub record IsNew (g : Links) (root : ℕ) (met : List Bool) (now : List ℕ) (v : ℕ) : Type 0 where
  pub root_is : slice_index now v ≡ root
  pub open_yet : slice_index_or met v false ≡ false
  pub reaches : Reaches g v root

-- roots as they were before the root was given to nodes, and now: nodes with a link to one that has a root have one,
-- unless that one is pending or the node is in hand
pub record IsSpread (g : Links) (root : ℕ) (met : List Bool) (roots : List ℕ) (met_now : List Bool)
    (roots_now pending : List ℕ) (in_hand : ℕ → Bool) : Type 0 where
  pub met_len : length met_now ≡ length g
  pub roots_len : length roots_now ≡ length g
  pub kept : (v : ℕ) → slice_index_or met v false ≡ true
      → (slice_index_or met_now v false ≡ true) × (slice_index roots_now v ≡ slice_index roots v)
  pub sound : (v : ℕ) → slice_index_or met_now v false ≡ true
      → (slice_index_or met v false ≡ true) ⊎ IsNew g root met roots_now v
  pub closed : (v t : ℕ) → has (links_of g v) t ≡ true → slice_index_or met_now t false ≡ true
      → ((has pending t || in_hand v) || slice_index_or met_now v false) ≡ true
  pub waiting : (v : ℕ) → has pending v ≡ true → (v < length g) × Reaches g v root

-- the root was given to all nodes without one that reach it
pub record IsGathered (g : Links) (root : ℕ) (met : List Bool) (roots : List ℕ) (met_now : List Bool)
    (roots_now : List ℕ) : Type 0 where
  pub closed : IsClosed g met_now roots_now
  pub kept : (v : ℕ) → slice_index_or met v false ≡ true
      → (slice_index_or met_now v false ≡ true) × (slice_index roots_now v ≡ slice_index roots v)
  pub sound : (v : ℕ) → slice_index_or met_now v false ≡ true
      → (slice_index_or met v false ≡ true) ⊎ IsNew g root met roots_now v
  pub there : slice_index_or met_now root false ≡ true

-- nodes that have no root yet are among these, and the others have the roots of their components
pub record IsGathering (g : Links) (finished : List ℕ) (met : List Bool) (roots : List ℕ) : Type 0 where
  pub closed : IsClosed g met roots
  pub each : EachBehind (ReachesBack g) [] finished
  pub nodes : (v : ℕ) → has finished v ≡ true → v < length g
  pub open_yet : (v : ℕ) → v < length g → slice_index_or met v false ≡ false → has finished v ≡ true
  pub of_root : (v : ℕ) → slice_index_or met v false ≡ true → AreMutual g v (slice_index roots v)
  pub same : (v w : ℕ) → slice_index_or met v false ≡ true → slice_index_or met w false ≡ true → AreMutual g v w
      → slice_index roots v ≡ slice_index roots w
