-- What holds while nodes are placed one behind the other.
use Rattle.std.specs.Prelude.{◌≡◌, ◌⊎◌, ℕ, ◌<◌, ◌≤◌, Bool, true, false, List, [], length, slice_index, slice_index_or}
use Rattle.std.specs.List.{AllByRecursion}
use Rattle.topological_order.specs.Order.{Links, links_of, has, IsFree, IsLeastFree, EachBehind}

-- all links are there the other way round
abbrev pub AreBack : Links → Links → Type 0
AreBack g back = (v k : ℕ) → k < length (links_of g v) → has (links_of back (slice_index (links_of g v) k)) v ≡ true

-- a node waits for the first of its links that leads to none that is placed
pub record Waits (g : Links) (order cursor : List ℕ) (v : ℕ) : Type 0 where
  pub within : slice_index cursor v < length (links_of g v)
  pub open_yet : has order (slice_index (links_of g v) (slice_index cursor v)) ≡ false

-- so many of each node's first links lead to nodes that are placed; those that may be placed next are free; the others
-- wait, but for those in hand
pub record IsPlacing (g : Links) (in_hand : ℕ → Bool) (order : List ℕ) (placed : List Bool) (cursor free : List ℕ)
    : Type 0 where
  pub placed_len : length placed ≡ length g
  pub cursor_len : length cursor ≡ length g
  pub marks : (v : ℕ) → slice_index_or placed v false ≡ has order v
  pub each : EachBehind (IsLeastFree g) [] order
  pub within : (v : ℕ) → slice_index cursor v ≤ length (links_of g v)
  pub counted : (v k : ℕ) → k < slice_index cursor v → has order (slice_index (links_of g v) k) ≡ true
  pub may : (v : ℕ) → has free v ≡ true → IsFree g order v
  pub waits : (v : ℕ) → v < length g → has order v ≡ false → in_hand v ≡ false
      → (has free v ≡ true) ⊎ Waits g order cursor v
