-- The order of a table, and what is found in it.
use Rattle.std.specs.Prelude.{ℕ, ◌-◌, ◌==◌, Bool, List, [], ◌∷◌, take, slice_index, bytes_eq, Option, Some, None, option_and_then, if◌then◌else◌}
use Rattle.std.specs.List.{AllByRecursion}
use Rattle.std.specs.List.Sorted.{IsStrictlySortedBy}
use Rattle.std.specs.Map.{keys_of}
use Rattle.std.specs.Ordering.{nat_cmp}
use Rattle.std.specs.Cmp.Lexicographic.{slice_cmp}
use Rattle.url.specs.Parts.{Parts}
use Rattle.import_map.specs.ImportMap.{Table, Addresses, MapData, match_in}

-- the keys are in the order of their bytes, none twice
abbrev pub IsInOrder : {V : Type 0} → Table V → Type 0
IsInOrder table = IsStrictlySortedBy (slice_cmp nat_cmp) (keys_of table)

-- so are those of the scopes, and of each scope
pub record AreInOrder (table : Table Addresses) : Type 0 where
  pub keys : IsInOrder table
  pub each : AllByRecursion (λ e. IsInOrder e.1) table

pub record IsOrdered (m : MapData) : Type 0 where
  pub imports : IsInOrder m.imports
  pub scopes : AreInOrder m.scopes

-- the entry at a key
abbrev pub entry_at : {V : Type 0} → Table V → List ℕ → Option (List ℕ × V)
entry_at [] key = None
entry_at (e ∷ rest) key = if bytes_eq key e.0 then Some e else entry_at rest key

-- the entry at the front of so many bytes, if that ends with `/`
abbrev pub entry_at_front : {V : Type 0} → Table V → List ℕ → ℕ → Option (List ℕ × V)
entry_at_front table text end = if slice_index text (end - 1) == 47 then entry_at table (take end text) else None

-- the match in a scope, if there is one
abbrev pub match_of_entry : Bool → List ℕ → Option (List ℕ × Addresses) → Option (List ℕ × Option Parts)
match_of_entry fronts text scope = option_and_then (λ e. match_in fronts text e.1) scope
