-- What holds while a search goes on, breadth first.
use Rattle.std.specs.Prelude.{◌≡◌, ◌⊎◌, ◌↔◌, ℕ, ◌<◌, ◌≤◌, ◌+◌, ◌||◌, Bool, true, false, cond, List, [], ◌∷◌, length, slice_index, slice_index_or}
use Rattle.topological_order.specs.Order.{Links, Link, has, IsLink, target}
use Rattle.shortest_paths.specs.declared.without.Without.{Without}
use Rattle.shortest_paths.specs.Paths.{keeps, keeps_root, IsPath, AreAscending}

-- a node's mark
abbrev pub is_met : List Bool → ℕ → Bool
is_met met v = slice_index_or met v false

-- the link over which a node was met
abbrev pub met_by : List Link → ℕ → Link
met_by from v = slice_index_or from v (0, 0)

-- a node was met as a root
pub record IsStart (roots : List ℕ) (w : Without) (level : List ℕ) (v : ℕ) : Type 0 where
  pub among : has roots v ≡ true
  pub begins : keeps_root w v ≡ true
  pub first : slice_index level v ≡ 0

-- a node was met over a link from a node of the level before its own
pub record IsNext (g : Links) (w : Without) (met : List Bool) (level : List ℕ) (from : List Link) (v : ℕ) : Type 0 where
  pub link : IsLink g (met_by from v)
  pub leads : target g (met_by from v) ≡ v
  pub kept : keeps w g (met_by from v) ≡ true
  pub node : is_met met (met_by from v).0 ≡ true
  pub next : slice_index level v ≡ slice_index level (met_by from v).0 + 1

-- how many are unmarked
abbrev pub unmarked : List Bool → ℕ
unmarked [] = 0
unmarked (b ∷ bs) = cond b 0 1 + unmarked bs

-- a link's target is met, on the next level at most
pub record IsFollowed (g : Links) (met : List Bool) (level : List ℕ) (e : Link) : Type 0 where
  pub reached : is_met met (target g e) ≡ true
  pub near : slice_index level (target g e) ≤ slice_index level e.0 + 1

-- The search so far. The nodes of a level are in hand, and the next ones are of the level after it, the depth. All kept
-- links of nodes that are met are followed, but for those of nodes in hand and of the next ones.
pub record IsSearch (g : Links) (roots : List ℕ) (w : Without) (hand : List ℕ) (met : List Bool) (level : List ℕ)
    (from : List Link) (next : List ℕ) (depth : ℕ) : Type 0 where
  pub met_len : length met ≡ length g
  pub level_len : length level ≡ length g
  pub from_len : length from ≡ length g
  pub each : (v : ℕ) → is_met met v ≡ true → IsStart roots w level v ⊎ IsNext g w met level from v
  pub upper : (v : ℕ) → is_met met v ≡ true → slice_index level v ≤ depth
  pub small : (v : ℕ) → is_met met v ≡ true → slice_index level v + unmarked met < length g
  pub in_hand : (v : ℕ) → has hand v ≡ true → (is_met met v ≡ true) × (slice_index level v + 1 ≡ depth)
  pub nexts : (v : ℕ) → has next v ≡ true → (is_met met v ≡ true) × (slice_index level v ≡ depth)
  pub closed : (e : Link) → IsLink g e → keeps w g e ≡ true → is_met met e.0 ≡ true
      → ((has hand e.0 || has next e.0) ≡ true) ⊎ IsFollowed g met level e

-- nodes that are met stay so, on their levels
pub record IsKept (met : List Bool) (level : List ℕ) (met_now : List Bool) (level_now : List ℕ) : Type 0 where
  pub marks : (v : ℕ) → is_met met v ≡ true → is_met met_now v ≡ true
  pub levels : (v : ℕ) → is_met met v ≡ true → slice_index level_now v ≡ slice_index level v

-- the roots that are kept are met
abbrev pub AreRootsMet : List ℕ → Without → List Bool → List ℕ → Type 0
AreRootsMet roots w met level =
    (v : ℕ) → has roots v ≡ true → keeps_root w v ≡ true → (is_met met v ≡ true) × (slice_index level v ≡ 0)

-- the search is done: roots are met, and all kept links of nodes that are met are followed
pub record IsSearched (g : Links) (roots : List ℕ) (w : Without) (met : List Bool) (level : List ℕ) (from : List Link)
    : Type 0 where
  pub met_len : length met ≡ length g
  pub level_len : length level ≡ length g
  pub from_len : length from ≡ length g
  pub roots_met : AreRootsMet roots w met level
  pub each : (v : ℕ) → is_met met v ≡ true → IsStart roots w level v ⊎ IsNext g w met level from v
  pub closed : (e : Link) → IsLink g e → keeps w g e ≡ true → is_met met e.0 ≡ true → IsFollowed g met level e

-- a path to the node, of so many links
pub record IsTraced (g : Links) (roots : List ℕ) (w : Without) (count v : ℕ) (path : List Link) : Type 0 where
  pub is : IsPath g roots w path v
  pub count_is : length path ≡ count

-- the places below a limit that the first list marks and the second one doesn't, in ascending order
pub record AreMarkedOnly (first second : List Bool) (upto : ℕ) (places : List ℕ) : Type 0 where
  pub ascending : AreAscending places
  pub each : (v : ℕ) → (has places v ≡ true)
      ↔ ((v < upto) × (is_met first v ≡ true) × (is_met second v ≡ false))
