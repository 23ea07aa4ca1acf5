-- What holds while a walk finishes nodes.
use Rattle.std.specs.Prelude.{◌≡◌, ℕ, ◌<◌, ◌≤◌, ◌+◌, ◌||◌, Bool, true, false, cond, List, [], ◌∷◌, length, slice_index, slice_index_or}
use Rattle.std.specs.List.{AllByRecursion}
use Rattle.topological_order.specs.Order.{Links, Link, links_of, has, IsChain, EachBehind}
use Rattle.strong_components.specs.Components.{Reaches}

-- exactly the same links, the other way round
abbrev pub AreBack : Links → Links → Type 0
AreBack g back = (u w : ℕ) → has (links_of back u) w ≡ has (links_of g w) u

-- the nodes of these links are among these
abbrev pub AreOver : List ℕ → List Link → Type 0
AreOver front path = AllByRecursion (λ e. has front e.0 ≡ true) path

-- the node reaches each one from which links of these nodes lead to it
pub record ReachesBack (g : Links) (front : List ℕ) (v : ℕ) : Type 0 where
  pub back : (u : ℕ) (path : List Link) → IsChain g u path v → AreOver front path → Reaches g v u

-- all nodes, each of which reaches those from which links of earlier ones lead to it
pub record IsFinishOrder (g : Links) (list : List ℕ) : Type 0 where
  pub nodes : (v : ℕ) → has list v ≡ true → v < length g
  pub all : (v : ℕ) → v < length g → has list v ≡ true
  pub each : EachBehind (ReachesBack g) [] list

-- these nodes all reach the node
abbrev pub AllReach : Links → List ℕ → ℕ → Type 0
AllReach g front v = (u : ℕ) → has front u ≡ true → Reaches g u v

-- the walk so far: a node is met if it is finished or on the stack, links of finished ones lead to nodes that are met,
-- and the nodes on the stack reach those after them
pub record IsWalk (g : Links) (finished : List ℕ) (met : List Bool) (cursor stack : List ℕ) : Type 0 where
  pub met_len : length met ≡ length g
  pub cursor_len : length cursor ≡ length g
  pub marks : (v : ℕ) → slice_index_or met v false ≡ (has finished v || has stack v)
  pub within : (v : ℕ) → slice_index cursor v ≤ length (links_of g v)
  pub passed : (v k : ℕ) → k < slice_index cursor v → slice_index_or met (slice_index (links_of g v) k) false ≡ true
  pub done : (v t : ℕ) → has finished v ≡ true → has (links_of g v) t ≡ true → slice_index_or met t false ≡ true
  pub each : EachBehind (ReachesBack g) [] finished
  pub backs : (v : ℕ) → has stack v ≡ true → ReachesBack g finished v
  pub line : EachBehind (AllReach g) [] stack

-- how many are unmarked
abbrev pub unmarked : List Bool → ℕ
unmarked [] = 0
unmarked (b ∷ bs) = cond b 0 1 + unmarked bs

-- so many steps are left at most: two for each node that isn't met, and one for each on the stack
abbrev pub steps_left : List Bool → List ℕ → ℕ
steps_left met stack = unmarked met + unmarked met + length stack
