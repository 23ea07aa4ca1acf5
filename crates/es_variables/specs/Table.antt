-- Names and variables by their spellings.
use Rattle.std.specs.Prelude.{ℕ, List, [], ◌∷◌, if◌then◌else◌, bytes_eq, Option, Some, None, String, Vec}
use Rattle.std.specs.BTreeMap.{BTreeMap, get}
use Rattle.std.specs.HashMap.{HashMap, get_by_text}
use Rattle.std.specs.Ordering.{nat_cmp}
use Rattle.std.specs.Option.{option_map_or}
use Rattle.es_variables.specs.declared.scope_analysis.kinds.Id.{Id}
use Rattle.es_variables.specs.declared.scope_analysis.kinds.Var.{Var}

-- the names at a spelling
abbrev pub ids_at : {A B S : Type 0} → HashMap (String A) (Vec Id B) S → List ℕ → List Id
ids_at ids q = option_map_or (λ found. found.items) (get_by_text ids q) []

-- the variable at a spelling and a number
abbrev pub var_at : {A S : Type 0} → HashMap (String A) (BTreeMap ℕ Var) S → List ℕ → ℕ → Option Var
var_at vars q n = option_map_or (λ found. get nat_cmp found n) (get_by_text vars q) None

-- the name, where the spelling is this one
abbrev pub extra : List ℕ → Id → List ℕ → List Id
extra name id q = if bytes_eq name q then id ∷ [] else []
