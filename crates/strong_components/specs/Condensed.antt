-- Components by their least members, and the links between them.
use Rattle.std.specs.Prelude.{◌≡◌, ◌≢◌, ℕ, ◌<◌, ◌≤◌, ◌==◌, true, cond, List, [], ◌∷◌, length, slice_index}
use Rattle.topological_order.specs.Order.{Links, links_of, has}
use Rattle.strong_components.specs.Components.{AreMutual, AreAscending}

-- at each root are, of the nodes below a limit, those that have it
pub record AreMembers (roots : List ℕ) (upto : ℕ) (lists : Links) : Type 0 where
  pub len : length lists ≡ length roots
  pub each : (r v : ℕ) → has (links_of lists r) v ≡ true → (v < upto) × (slice_index roots v ≡ r)
  pub all : (v : ℕ) → v < upto → has (links_of lists (slice_index roots v)) v ≡ true
  pub ascending : (r : ℕ) → AreAscending (links_of lists r)

-- the least members of each node's component
pub record AreLeast (g : Links) (least : List ℕ) : Type 0 where
  pub len : length least ≡ length g
  pub of_least : (v : ℕ) → v < length g → AreMutual g v (slice_index least v)
  pub same : (v w : ℕ) → v < length g → w < length g → AreMutual g v w → slice_index least v ≡ slice_index least w
  pub below : (v : ℕ) → v < length g → slice_index least v ≤ v

-- a link of a component to another one, by one of these targets
pub record IsJoin (least : List ℕ) (from : ℕ) (targets : List ℕ) (u w : ℕ) : Type 0 where
  pub from_is : u ≡ from
  pub other : w ≢ from
  pub target : ℕ
  pub among : has targets target ≡ true
  pub to_is : slice_index least target ≡ w

-- a link of a node below a limit leads from a component to another one
pub record IsJoined (g : Links) (least : List ℕ) (upto : ℕ) (u w : ℕ) : Type 0 where
  pub node : ℕ
  pub below : node < upto
  pub join : IsJoin least (slice_index least node) (links_of g node) u w

-- links of nodes below a limit, as links between components
pub record AreJoined (g : Links) (least : List ℕ) (joined : Links) (upto : ℕ) : Type 0 where
  pub len : length joined ≡ length g
  pub added : (v t : ℕ) → v < upto → has (links_of g v) t ≡ true → slice_index least t ≢ slice_index least v
      → has (links_of joined (slice_index least v)) (slice_index least t) ≡ true
  pub sound : (u w : ℕ) → has (links_of joined u) w ≡ true → IsJoined g least upto u w

-- the members of the components whose least members are among these nodes
abbrev pub picked : List ℕ → List ℕ → Links → List ℕ → List (List ℕ)
picked roots least lists [] = []
picked roots least lists (v ∷ rest) =
    cond (slice_index least v == v) (links_of lists (slice_index roots v) ∷ picked roots least lists rest)
    (picked roots least lists rest)
