-- Texts that are put behind a string.
use Rattle.std.specs.Prelude.{◌≡◌, ℕ, List, [], ◌∷◌, ◌++◌, String, string_bytes}

-- a text was put behind a string
abbrev pub Adds : {A : Type 0} → String A → String A → List ℕ → Type 0
Adds old new text = string_bytes new ≡ string_bytes old ++ text

-- a text between quotes
abbrev pub between_quotes : List ℕ → List ℕ
between_quotes text = 34 ∷ (text ++ 34 ∷ [])
