-- Paths from roots over links of numbered nodes, some of which may be left out.
use Rattle.std.specs.Prelude.{◌≡◌, ◌↔◌, ℕ, ◌<◌, ◌≤◌, ◌==◌, ◌&&◌, Bool, true, not, List, [], ◌∷◌, length}
use Rattle.std.specs.List.{AllByRecursion}
use Rattle.topological_order.specs.Order.{Links, Link, has, target, IsChain}
use Rattle.shortest_paths.specs.declared.without.Without.{Without}
use Rattle.shortest_paths.specs.declared.without.Without.TheVariants as without

-- a root is kept unless it is the node that is left out
abbrev pub keeps_root : Without → ℕ → Bool
keeps_root without.Nothing v = true
keeps_root (without.Node x) v = not (v == x)
keeps_root (without.Link x k) v = true

-- a link of a node at a place, with its target, is kept unless it is left out or leads to the node that is
abbrev pub keeps_link : Without → ℕ → ℕ → ℕ → Bool
keeps_link without.Nothing v place t = true
keeps_link (without.Node x) v place t = not (t == x)
keeps_link (without.Link x k) v place t = not (v == x && place == k)

abbrev pub keeps : Without → Links → Link → Bool
keeps w g e = keeps_link w e.0 e.1 (target g e)

-- a path to a node: links from a root on, each from the target of the one before, all of them kept
pub record IsPath (g : Links) (roots : List ℕ) (w : Without) (path : List Link) (v : ℕ) : Type 0 where
  pub root : ℕ
  pub among : has roots root ≡ true
  pub begins : keeps_root w root ≡ true
  pub chain : IsChain g root path v
  pub kept : AllByRecursion (λ e. keeps w g e ≡ true) path

-- some path leads to the node
pub record IsReached (g : Links) (roots : List ℕ) (w : Without) (v : ℕ) : Type 0 where
  pub path : List Link
  pub is : IsPath g roots w path v

-- a path to the node, and none is shorter
pub record IsShortest (g : Links) (roots : List ℕ) (path : List Link) (v : ℕ) : Type 0 where
  pub is : IsPath g roots without.Nothing path v
  pub least : (other : List Link) → IsPath g roots without.Nothing other v → length path ≤ length other

-- each number is below those after it
abbrev pub AreAscending : List ℕ → Type 0
AreAscending [] = Unit {0}
AreAscending (v ∷ rest) = AllByRecursion (λ x. v < x) rest × AreAscending rest

-- a node that is reached, and isn't with that left out
pub record IsGone (g : Links) (roots : List ℕ) (w : Without) (v : ℕ) : Type 0 where
  pub reached : IsReached g roots without.Nothing v
  pub gone : IsReached g roots w v → ⊥

-- exactly those, in ascending order
pub record AreGone (g : Links) (roots : List ℕ) (w : Without) (nodes : List ℕ) : Type 0 where
  pub ascending : AreAscending nodes
  pub each : (v : ℕ) → (has nodes v ≡ true) ↔ IsGone g roots w v
