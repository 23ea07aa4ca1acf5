-- Names in sets.
use Rattle.std.specs.Prelude.{◌≡◌, ℕ, Bool, not, List}
use Rattle.std.specs.List.{list_any}
use Rattle.std.specs.BTreeMap.{is_at}
use Rattle.std.specs.BTreeSet.{BTreeSet}
use Rattle.std.specs.Cmp.Lexicographic.{slice_cmp}
use Rattle.std.specs.Ordering.{nat_cmp}
use Rattle.cjs_facts.specs.Exports.{has}

-- a name that isn't among others
abbrev pub lacks : List (List ℕ) → List ℕ → Bool
lacks others name = not (list_any (is_at (slice_cmp nat_cmp name)) others)

-- the set has these names
pub record Holds (set : BTreeSet (List ℕ)) (names : List (List ℕ)) : Type 0 where
  pub members : (name : List ℕ) → has set.keys name ≡ has names name
