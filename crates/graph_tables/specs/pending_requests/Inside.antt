-- How open requests are found: a mark for each request, and a map to the first open one for a URL.
use Rattle.std.specs.Prelude.{◌≡◌, ℕ, zero, suc, ◌+◌, ◌≤◌, ◌&&◌, Bool, true, false, List, [], ◌∷◌, length, drop, bytes_eq, Option, Some, None, if◌then◌else◌}
use Rattle.std.specs.Option.{option_map}
use Rattle.std.specs.Map.{lookup}
use Rattle.url.specs.Parts.{Parts, serialize}
use Rattle.graph_tables.specs.declared.pending_requests.requests.First.{First}

-- URLs with one text
abbrev pub is_same : Parts → Parts → Bool
is_same a b = bytes_eq (serialize a) (serialize b)

-- the marked ones of some requests
abbrev pub marked : List Bool → List Parts → List Parts
marked [] us = []
marked (b ∷ bs) [] = []
marked (true ∷ bs) (u ∷ us) = u ∷ marked bs us
marked (false ∷ bs) (u ∷ us) = marked bs us

-- the number of the first marked one for a URL
abbrev pub found : List Bool → List Parts → Parts → Option ℕ
found [] us q = None
found (b ∷ bs) [] q = None
found (b ∷ bs) (u ∷ us) q = if b && is_same u q then Some 0 else option_map suc (found bs us q)

-- the same from a place on, counted from the front
abbrev pub found_from : ℕ → List Bool → List Parts → Parts → Option ℕ
found_from n bs us q = option_map (λ k. n + k) (found (drop n bs) (drop n us) q)

-- what a map has at a URL
abbrev pub at_url : List (Parts × First) → Parts → Option First
at_url firsts q = lookup (is_same q) firsts

-- so many at the front aren't marked
abbrev pub IsPassed : ℕ → List Bool → Type 0
IsPassed zero bs = Unit {0}
IsPassed (suc n) [] = Unit {0}
IsPassed (suc n) (b ∷ bs) = (b ≡ false) × IsPassed n bs

-- the first is marked, if there is one
abbrev pub IsNext : List Bool → Type 0
IsNext [] = Unit {0}
IsNext (b ∷ bs) = b ≡ true

-- a map has the number of the first marked request for each URL that has one, and says where there is no other
pub record IsIndex (bs : List Bool) (us : List Parts) (firsts : List (Parts × First)) : Type 0 where
  pub first : (q : Parts) → option_map (λ f. f.at) (at_url firsts q) ≡ found bs us q
  pub alone : (q : Parts) (f : First) → at_url firsts q ≡ Some f → f.more ≡ false
      → found (drop (f.at + 1) bs) (drop (f.at + 1) us) q ≡ None

-- what holds of the fields at all times
pub record IsKept (us : List Parts) (bs : List Bool) (front : ℕ) (firsts : List (Parts × First)) : Type 0 where
  pub even : length bs ≡ length us
  pub index : IsIndex bs us firsts
  pub within : front ≤ length bs
  pub passed : IsPassed front bs
  pub next : IsNext (drop front bs)
