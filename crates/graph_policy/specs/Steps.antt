-- What the search for a pattern's parts promises.
use Rattle.std.specs.Prelude.{◌≡◌, ◌≢◌, ℕ, ◌<◌, Bool, false, List, [], ◌∷◌, ◌++◌, length, get_or, Option, Some, None, MatchOption}
use Rattle.std.specs.Borrow.{Bor}
use Rattle.graph_policy.specs.Pattern.{after_byte, some_end}

abbrev pub HasNoStar : List ℕ → Type 0
HasNoStar front = (k : ℕ) → k < length front → get_or front k 0 ≢ 42

-- what precedes and what follows the first `*`
abbrev pub SplitsAtStar : List ℕ → Option (Bor (List ℕ) × Bor (List ℕ)) → Type 0
SplitsAtStar pattern split =
    MatchOption split (HasNoStar pattern) (λ x. (pattern ≡ x.0.now ++ (42 ∷ x.1.now)) × HasNoStar x.0.now)

-- the text is the front and a rest that passes
abbrev pub after_text : List ℕ → (List ℕ → Bool) → List ℕ → Bool
after_text [] test text = test text
after_text (c ∷ front) test text = after_byte c (after_text front test) text

-- the front and, somewhere after it, what passes are in the text just where what passes is after the first front
abbrev pub IsAfterFirst : List ℕ → List ℕ → Option (List ℕ) → Type 0
IsAfterFirst front text None =
    (test : List ℕ → Bool) → some_end (after_text front (some_end test)) text ≡ false
IsAfterFirst front text (Some behind) =
    (test : List ℕ → Bool) → some_end (after_text front (some_end test)) text ≡ some_end test behind
