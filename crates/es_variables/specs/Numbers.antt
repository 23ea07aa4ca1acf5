-- Numbers of names, by their tokens.
use Rattle.std.specs.Prelude.{◌≡◌, ℕ, ◌==◌, if◌then◌else◌, List, [], ◌∷◌, slice_get}
use Rattle.std.specs.Option.{unwrap_or}
use Rattle.es_scopes.specs.Numbers.{number_at}

-- the number at a place; 0 behind the last
abbrev pub at_in : List ℕ → ℕ → ℕ
at_in numbers n = unwrap_or (slice_get numbers n) 0

-- these, each at the place of its token, are the numbers of the names
abbrev pub AreNumbers : List ℕ → List (ℕ × ℕ) → Type 0
AreNumbers numbers ids = (n : ℕ) → at_in numbers n ≡ number_at ids n

-- the number of the first of these names that is the token, else this one
abbrev pub number_or : List (ℕ × ℕ) → ℕ → ℕ → ℕ
number_or [] n other = other
number_or (id ∷ ids) n other = if id.0 == n then id.1 else number_or ids n other
