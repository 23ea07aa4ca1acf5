-- Numbers by spellings.
use Rattle.std.specs.Prelude.{ℕ, ◌-◌, List, [], ◌∷◌, length, take, if◌then◌else◌, bytes_eq, String, Vec}
use Rattle.std.specs.HashMap.{HashMap, get_by_text}
use Rattle.std.specs.Option.{option_map_or}

-- the numbers at a spelling
abbrev pub tops_in : {A B S : Type 0} → HashMap (String A) (Vec ℕ B) S → List ℕ → List ℕ
tops_in tops q = option_map_or (λ numbers. numbers.items) (get_by_text tops q) []

-- the number, where the spelling is this one
abbrev pub extra : List ℕ → ℕ → List ℕ → List ℕ
extra name n q = if bytes_eq q name then n ∷ [] else []

-- these numbers, without the last one where the spelling is this one
abbrev pub popped : List ℕ → List ℕ → List ℕ → List ℕ
popped name q numbers = if bytes_eq q name then take (length numbers - 1) numbers else numbers
