-- The keys of all scopes, each with the length of the longest scope that has it.
use Rattle.std.specs.Prelude.{◌≡◌, ◌≤◌, ◌&&◌, ℕ, Bool, true, List, length, Option, Some, None, MatchOption, is_some}
use Rattle.std.specs.List.{AllByRecursion}
use Rattle.std.specs.Map.{lookup}
use Rattle.std.specs.BTreeMap.{is_at}
use Rattle.std.specs.Ordering.{nat_cmp}
use Rattle.std.specs.Cmp.Lexicographic.{slice_cmp}
use Rattle.lexical_path.specs.Specifiers.{begins}
use Rattle.import_map.specs.ImportMap.{Table, Addresses, MapData, ends_with_slash, match_in}
use Rattle.import_map.specs.Order.{IsInOrder, IsOrdered}

-- what is noted at a key
abbrev pub noted : Table ℕ → List ℕ → Option ℕ
noted names key = lookup (is_at (slice_cmp nat_cmp key)) names

-- it is so many at least
abbrev pub IsNoted : Table ℕ → List ℕ → ℕ → Type 0
IsNoted names key n = MatchOption (noted names key) ⊥ (λ v. n ≤ v)

-- each key of each scope is noted with its length
abbrev pub AreNoted : Table ℕ → Table Addresses → Type 0
AreNoted names scopes = AllByRecursion (λ s. AllByRecursion (λ e. IsNoted names e.0 (length s.0)) s.1) scopes

-- no more is noted at a key that passes
abbrev pub IsReached : (List ℕ → Bool) → Table ℕ → ℕ → Type 0
IsReached passes names most = (key : List ℕ) → (n : ℕ) → passes key ≡ true → IsNoted names key n → n ≤ most

-- no scope is longer that has a match for a text
abbrev pub AreWithin : Bool → List ℕ → ℕ → Table Addresses → Type 0
AreWithin fronts text most scopes =
    AllByRecursion (λ s. is_some (match_in fronts text s.1) ≡ true → length s.0 ≤ most) scopes

-- what is noted in an entry
abbrev pub length_of : Option (List ℕ × ℕ) → ℕ
length_of (Some e) = e.1
length_of None = 0

-- a key ends with `/`, and the text begins with it
abbrev pub is_front : List ℕ → List ℕ → Bool
is_front text key = ends_with_slash key && begins text key

-- the tables of a map are in order, and its names are those of its scopes
pub record IsKept (m : MapData) (names : Table ℕ) : Type 0 where
  pub ordered : IsOrdered m
  pub names_in_order : IsInOrder names
  pub noted : AreNoted names m.scopes
