-- The words that the program is started with, and the forms that they have (this project's profile).
use Rattle.std.specs.Prelude.{◌≡◌, ◌⊎◌, ℕ, ◌≤◌, ◌==◌, ◌||◌, not, Bool, true, List, [], ◌∷◌, codes, decimal}
use Rattle.graph_run.specs.declared.words.words.Form.{Form}
use Rattle.graph_run.specs.declared.words.words.Form.TheVariants.{Build, Order, Make, Sum}

-- a word is this number in decimal digits, from 1 to the most
abbrev pub IsCount : ℕ → ℕ → List ℕ → Type 0
IsCount most n word = (word ≡ decimal n) × (1 ≤ n) × (n ≤ most)

-- two words are a name and this number, of at most 100,000
abbrev pub IsCounted : List ℕ → ℕ → List (List ℕ) → Type 0
IsCounted name n words = (word : List ℕ) × (words ≡ name ∷ word ∷ []) × IsCount 100000 n word

-- the words ask for a report, by batches of so many answers: of 64, or of the number that they name, of at most 1,000,000
pub data IsBuild (batch : ℕ) (words : List (List ℕ)) : Type 0 where
  plain : words ≡ codes "build" ∷ [] → batch ≡ 64 → IsBuild batch words
  batched : (word : List ℕ) → words ≡ codes "build" ∷ codes "--batch" ∷ word ∷ [] → IsCount 1000000 batch word
      → IsBuild batch words

-- the words are this form
abbrev pub IsForm : Form → List (List ℕ) → Type 0
IsForm (Build batch) words = IsBuild batch words
IsForm Order words = words ≡ codes "order" ∷ []
IsForm (Make n) words = IsCounted (codes "make") n words
IsForm (Sum n) words = IsCounted (codes "sum") n words

-- the words are a form whose input is read
abbrev pub IsReading : List (List ℕ) → Type 0
IsReading words = ((batch : ℕ) × IsForm (Build batch) words) ⊎ IsForm Order words

-- a form's batch has an answer, and it names no more modules than that
abbrev pub IsWithin : Form → Type 0
IsWithin (Build batch) = 1 ≤ batch
IsWithin Order = Unit {0}
IsWithin (Make n) = n ≤ 100000
IsWithin (Sum n) = n ≤ 100000

-- they are none of the forms
abbrev pub IsNoForm : List (List ℕ) → Type 0
IsNoForm words = (form : Form) → ¬ IsForm form words

-- a word begins neither with a sign nor with a zero
abbrev pub is_plain : List ℕ → Bool
is_plain [] = true
is_plain (b ∷ word) = not (b == 43 || b == 48)
