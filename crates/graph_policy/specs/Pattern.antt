-- Patterns of text: a `*` stands for any text, each other byte for itself.
use Rattle.std.specs.Prelude.{ℕ, Bool, true, false, ◌&&◌, ◌||◌, ◌==◌, List, [], ◌∷◌, ◌++◌, if◌then◌else◌}

-- the text is empty
abbrev pub is_empty : List ℕ → Bool
is_empty [] = true
is_empty (b ∷ text) = false

-- the text is this byte and a rest that passes
abbrev pub after_byte : ℕ → (List ℕ → Bool) → List ℕ → Bool
after_byte c test [] = false
after_byte c test (b ∷ text) = (b == c) && test text

-- an end of the text passes: the whole, what follows its first byte, .., or the empty text
abbrev pub some_end : (List ℕ → Bool) → List ℕ → Bool
some_end test [] = test []
some_end test (b ∷ text) = test (b ∷ text) || some_end test text

-- the text matches the pattern: after a `*` (42) an end of it matches what follows, after another byte its rest does
unfoldable pub matches : List ℕ → List ℕ → Bool
matches [] text = is_empty text
matches (c ∷ pattern) text = if c == 42 then some_end (matches pattern) text else after_byte c (matches pattern) text

-- the first of the texts, or none, and those after it
abbrev pub first_text : List (List ℕ) → List ℕ
first_text [] = []
first_text (t ∷ texts) = t

abbrev pub rest_texts : List (List ℕ) → List (List ℕ)
rest_texts [] = []
rest_texts (t ∷ texts) = texts

-- the pattern with the first text in place of its first `*`, the next in place of the next, ..
abbrev pub filled : List ℕ → List (List ℕ) → List ℕ
filled [] texts = []
filled (c ∷ pattern) texts =
    if c == 42 then first_text texts ++ filled pattern (rest_texts texts) else c ∷ filled pattern texts
