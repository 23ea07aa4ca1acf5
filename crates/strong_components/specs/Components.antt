-- The strongly connected components of numbered nodes, each of which has links to others.
use Rattle.std.specs.Prelude.{◌≡◌, ◌↔◌, ℕ, ◌<◌, ◌≤◌, ◌||◌, Bool, true, false, List, [], ◌∷◌, ◌++◌, length}
use Rattle.std.specs.List.{AllByRecursion}
use Rattle.topological_order.specs.Order.{Links, Link, links_of, has, IsChain}

-- a chain of links, or of none, leads from one node to the other
pub record Reaches (g : Links) (v w : ℕ) : Type 0 where
  pub path : List Link
  pub leads : IsChain g v path w

-- each of the two reaches the other
pub record AreMutual (g : Links) (v w : ℕ) : Type 0 where
  pub there : Reaches g v w
  pub back : Reaches g w v

-- each number is below those after it
abbrev pub AreAscending : List ℕ → Type 0
AreAscending [] = Unit {0}
AreAscending (v ∷ rest) = AllByRecursion (λ w. v < w) rest × AreAscending rest

-- the first number
abbrev pub first_of : List ℕ → ℕ
first_of [] = 0
first_of (v ∷ rest) = v

-- a component by its members: with each of them exactly the nodes that it reaches and that reach it, in ascending order
pub record IsComponent (g : Links) (members : List ℕ) : Type 0 where
  pub some : length members ≡ 0 → ⊥
  pub ascending : AreAscending members
  pub nodes : (v : ℕ) → has members v ≡ true → v < length g
  pub whole : (v w : ℕ) → has members v ≡ true → (has members w ≡ true) ↔ AreMutual g v w

-- ---- their order

-- the node is in one of these components
abbrev pub holds : List (List ℕ) → ℕ → Bool
holds [] v = false
holds (c ∷ rest) v = has c v || holds rest v

-- after these components this one may come: it isn't among them, and links of its members lead to members or into them
pub record IsReady (g : Links) (front : List (List ℕ)) (c : List ℕ) : Type 0 where
  pub component : IsComponent g c
  pub open_yet : (v : ℕ) → has c v ≡ true → holds front v ≡ false
  pub after : (v t : ℕ) → has c v ≡ true → has (links_of g v) t ≡ true → (has c t || holds front t) ≡ true

-- and of those that may it has the least member
pub record IsLeastReady (g : Links) (front : List (List ℕ)) (c : List ℕ) : Type 0 where
  pub ready : IsReady g front c
  pub least : (d : List ℕ) → IsReady g front d → first_of c ≤ first_of d

-- each component may come so after those before it, the first ones being these
abbrev pub EachAfter : (List (List ℕ) → List ℕ → Type 0) → List (List ℕ) → List (List ℕ) → Type 0
EachAfter Comes front [] = Unit {0}
EachAfter Comes front (c ∷ rest) = Comes front c × EachAfter Comes (front ++ c ∷ []) rest

-- all components in evaluation order: each node is in one, and at each place is, of those that may come there, the one
-- with the least member
pub record AreComponents (g : Links) (list : List (List ℕ)) : Type 0 where
  pub all : (v : ℕ) → v < length g → holds list v ≡ true
  pub each : EachAfter (IsLeastReady g) [] list
