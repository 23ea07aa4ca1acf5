-- Names by their spellings, each with the numbers of its scopes.
use Rattle.std.specs.Prelude.{◌≡◌, ℕ, ◌==◌, Bool, false, ◌||◌, List, [], ◌∷◌, Some, if◌then◌else◌, bytes_eq, slice_get, String, Vec}
use Rattle.std.specs.HashMap.{HashMap, get_by_text}
use Rattle.std.specs.Option.{option_map_or}
use Rattle.es_token.specs.declared.token.Token.{Token}
use Rattle.es_variables.specs.Numbers.{at_in}
use Rattle.dts_rules.specs.Sets.{Id, Numbers, is_in}

-- the numbers at a spelling
abbrev pub numbers_at : {A B S : Type 0} → HashMap (String A) (Vec ℕ B) S → List ℕ → List ℕ
numbers_at ids q = option_map_or (λ found. found.items) (get_by_text ids q) []

-- the number, where the spelling is this one
abbrev pub extra : List ℕ → ℕ → List ℕ → List ℕ
extra name number q = if bytes_eq name q then number ∷ [] else []

abbrev pub has_number : List ℕ → ℕ → Bool
has_number [] n = false
has_number (a ∷ others) n = a == n || has_number others n

-- the name is one of them
abbrev pub holds : {A B S : Type 0} → HashMap (String A) (Vec ℕ B) S → Id → Bool
holds ids id = has_number (numbers_at ids id.0) id.1

-- they are these names, and those before
abbrev pub Extends : {A B S : Type 0} → HashMap (String A) (Vec ℕ B) S → HashMap (String A) (Vec ℕ B) S → List Id → Type 0
Extends old new more = (id : Id) → holds new id ≡ (holds old id || is_in more id)

-- numbers by ranges are those that stand at the tokens
abbrev pub Numbered : List Token → List ℕ → Numbers → Type 0
Numbered ts ids number = (at : ℕ) (t : Token) → slice_get ts at ≡ Some t → number t.range ≡ at_in ids at
