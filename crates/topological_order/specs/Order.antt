-- Orders and cycles of numbered nodes, each of which has links to others.
use Rattle.std.specs.Prelude.{◌≡◌, ℕ, ◌+◌, ◌<◌, ◌≤◌, ◌==◌, Bool, true, false, ◌||◌, List, [], ◌∷◌, ◌++◌, length, slice_index, slice_index_or, map}
use Rattle.std.specs.List.{AllByRecursion}
use Rattle.topological_order.specs.declared.found.Found.{Found}
use Rattle.topological_order.specs.declared.found.Found.TheVariants.{Order, Cycle}

-- the links of each node: the numbers of the nodes that they lead to
abbrev pub Links : Type 0
Links = List (List ℕ)

-- a node's links
abbrev pub links_of : Links → ℕ → List ℕ
links_of g v = slice_index_or g v []

-- the number is among these
abbrev pub has : List ℕ → ℕ → Bool
has [] v = false
has (x ∷ xs) v = v == x || has xs v

-- each link leads to a node
abbrev pub AreWithin : Links → Type 0
AreWithin g = (v : ℕ) → AllByRecursion (λ t. t < length g) (links_of g v)

-- ---- orders

-- behind these nodes this one may stand: it isn't among them, and all its links lead to them
pub record IsFree (g : Links) (front : List ℕ) (v : ℕ) : Type 0 where
  pub node : v < length g
  pub open_yet : has front v ≡ false
  pub placed : AllByRecursion (λ t. has front t ≡ true) (links_of g v)

-- and it is the least that may
pub record IsLeastFree (g : Links) (front : List ℕ) (v : ℕ) : Type 0 where
  pub free : IsFree g front v
  pub least : (u : ℕ) → IsFree g front u → v ≤ u

-- each item stands so behind those before it, the first ones being these
abbrev pub EachBehind : (List ℕ → ℕ → Type 0) → List ℕ → List ℕ → Type 0
EachBehind Stands front [] = Unit {0}
EachBehind Stands front (v ∷ rest) = Stands front v × EachBehind Stands (front ++ v ∷ []) rest

-- an order: all nodes, each once, where each link leads to a node before its own
pub record IsOrder (g : Links) (list : List ℕ) : Type 0 where
  pub all : (v : ℕ) → v < length g → has list v ≡ true
  pub each : EachBehind (IsFree g) [] list

-- the least one: at each place the least node that may stand there
pub record IsLeastOrder (g : Links) (list : List ℕ) : Type 0 where
  pub order : IsOrder g list
  pub least : EachBehind (IsLeastFree g) [] list

-- ---- cycles

-- a link: a node, and the place among its links
abbrev pub Link : Type 0
Link = ℕ × ℕ

-- there is such a link
abbrev pub IsLink : Links → Link → Type 0
IsLink g e = e.1 < length (links_of g e.0)

-- where it leads
abbrev pub target : Links → Link → ℕ
target g e = slice_index (links_of g e.0) e.1

-- links that lead from one node to another, one behind the other
abbrev pub IsChain : Links → ℕ → List Link → ℕ → Type 0
IsChain g v [] w = v ≡ w
IsChain g v (e ∷ rest) w = (e.0 ≡ v) × IsLink g e × IsChain g (target g e) rest w

-- the nodes of links
abbrev pub nodes : List Link → List ℕ
nodes links = map (λ e. e.0) links

-- no node comes twice
abbrev pub AreApart : List ℕ → Type 0
AreApart [] = Unit {0}
AreApart (v ∷ rest) = (has rest v ≡ false) × AreApart rest

-- the first node
abbrev pub head_of : List Link → ℕ
head_of [] = 0
head_of (e ∷ rest) = e.0

-- a cycle: links that lead from the first node back to it, over different nodes
abbrev pub IsCycle : Links → List Link → Type 0
IsCycle g [] = ⊥
IsCycle g (e ∷ rest) = IsChain g e.0 (e ∷ rest) e.0 × AreApart (nodes (e ∷ rest))

-- links lead from the node to a cycle
pub record IsStuck (g : Links) (v : ℕ) : Type 0 where
  pub path : List Link
  pub cycle : List Link
  pub leads : IsChain g v path (head_of cycle)
  pub is : IsCycle g cycle

-- the first link of its node that leads to a stuck one
pub record IsFirstStuck (g : Links) (e : Link) : Type 0 where
  pub stuck : IsStuck g (target g e)
  pub earlier : (k : ℕ) → k < e.1 → IsStuck g (target g (e.0, k)) → ⊥

-- The cycle of a walk from the least stuck node, which takes each node's first link to a stuck one: what it goes between
-- the two meetings of the node that it meets twice first.
pub record IsFirstCycle (g : Links) (cycle : List Link) : Type 0 where
  pub start : ℕ
  pub stuck : IsStuck g start
  pub least : (v : ℕ) → IsStuck g v → start ≤ v
  -- what it goes before the first meeting
  pub front : List Link
  pub walk : IsChain g start (front ++ cycle) (head_of cycle)
  pub apart : AreApart (nodes (front ++ cycle))
  pub first : AllByRecursion (IsFirstStuck g) (front ++ cycle)
  pub is : IsCycle g cycle

-- the order, where no node is stuck and so there is no cycle; else the cycle, and there is no order
abbrev pub IsFound : Links → Found → Type 0
IsFound g (Order list) =
    IsLeastOrder g list × ((v : ℕ) → IsStuck g v → ⊥) × ((cycle : List Link) → IsCycle g cycle → ⊥)
IsFound g (Cycle cycle) = IsFirstCycle g cycle × ((list : List ℕ) → IsOrder g list → ⊥)
