-- Values by specifiers, which have numbers in the order in which they came. A specifier is its text.
use Rattle.std.specs.Prelude.{◌≡◌, ◌+◌, ◌<◌, ℕ, zero, suc, cond, List, [], ◌∷◌, map, length, slice_get, bytes_eq, Option, Some, is_some, position, if◌then◌else◌}
use Rattle.std.specs.List.{IsDistinct, filter_map}
use Rattle.std.specs.List.Sorted.{IsStrictlySortedBy}
use Rattle.std.specs.Map.{lookup}
use Rattle.std.specs.Ordering.{nat_cmp}
use Rattle.std.specs.Cmp.Lexicographic.{slice_cmp}
use Rattle.std.specs.Borrow.{Bor}
use Rattle.url.specs.Parts.{Parts, serialize}

abbrev pub Specifier : Type 0
Specifier = List ℕ

-- the specifiers, by their numbers
abbrev pub specifiers : {V : Type 0} → List (Parts × V) → List Specifier
specifiers entries = map (λ e. serialize e.0) entries

-- the number of a specifier, if it has one
abbrev pub number_of : {V : Type 0} → List (Parts × V) → Specifier → Option ℕ
number_of entries s = position (bytes_eq s) (specifiers entries)

-- the value at a specifier
abbrev pub value_at : {V : Type 0} → List (Parts × V) → Specifier → Option V
value_at entries s = lookup (λ url. bytes_eq s (serialize url)) entries

-- no specifier has two numbers
abbrev pub IsNumbering : {V : Type 0} → List (Parts × V) → Type 0
IsNumbering entries = IsDistinct bytes_eq (specifiers entries)

-- the entries with this value at a number
abbrev pub with_value : {V : Type 0} → List (Parts × V) → ℕ → V → List (Parts × V)
with_value [] n value = []
with_value (e ∷ es) zero value = (e.0, value) ∷ es
with_value (e ∷ es) (suc n) value = e ∷ with_value es n value

-- ---- the order of bytes

-- the entries with these numbers
abbrev pub at_numbers : {V : Type 0} → List (Parts × V) → List ℕ → List (Parts × V)
at_numbers entries order = filter_map (slice_get entries) order

-- in the order of the bytes of their specifiers, none twice
abbrev pub IsAscending : {V : Type 0} → List (Parts × V) → Type 0
IsAscending entries = IsStrictlySortedBy (slice_cmp nat_cmp) (specifiers entries)

-- the numbers bring the entries into the order of their specifiers' bytes: the same entries, each once
pub record IsByBytes {V : Type 0} (entries : List (Parts × V)) (order : List ℕ) : Type 0 where
  pub ascending : IsAscending (at_numbers entries order)
  pub same : (t : Specifier) → value_at (at_numbers entries order) t ≡ value_at entries t
  pub counted : length (at_numbers entries order) ≡ length entries
  pub each : (i n : ℕ) → slice_get order i ≡ Some n → n < length entries

-- the entries behind references to their specifiers
abbrev pub plain : {V : Type 0} → List (Bor Parts × V) → List (Parts × V)
plain entries = map (λ e. (e.0.now, e.1)) entries

-- the new entries have this value at the specifier, and the old ones elsewhere
pub record IsPut {V : Type 0} (old new : List (Parts × V)) (s : Specifier) (value : V) : Type 0 where
  pub at : (t : Specifier) → value_at new t ≡ cond (bytes_eq t s) (Some value) (value_at old t)
  pub counted : length new ≡ length old + (if is_some (value_at old s) then 0 else 1)

-- each specifier stands beside its number
abbrev pub HasNumbers : {V : Type 0} → List (Parts × V) → List (Parts × ℕ) → Type 0
HasNumbers entries places = (t : Specifier) → value_at places t ≡ number_of entries t
