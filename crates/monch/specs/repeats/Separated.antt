-- Items with a separator behind each, as `separated_list` reads them.
use Rattle.std.specs.Prelude.{◌≢◌, ◌⊎◌, ◌<◌, ℕ, List, [], ◌∷◌, length}
use Rattle.monch.specs.core_parsers.Outcome.{Refusal, backtrack, Outcome, success, refused, Meaning}
use Rattle.monch.specs.repeats.Repeat.{IsHandedOn, Repeats}

module _ {O P : Type 0} (item : Meaning O) (separator : Meaning P) where
  -- a round of `separated_list`: something is left, the item reads, and a separator behind it
  pub record IsSeparated (text : List ℕ) (value : O) (rest : List ℕ) : Type 0 where
    pub left : text ≢ []
    pub mid : List ℕ
    pub passed : P
    pub reads : item text (success mid value)
    pub separates : separator mid (success rest passed)

  -- where `separated_list` ends: nothing is left, no item stands there, no separator behind an item, or a part refuses
  pub data EndsSeparated : List ℕ → Outcome (List O) → Type 0 where
    nothing_left : EndsSeparated [] (success [] [])
    no_item : {text : List ℕ} → text ≢ [] → item text (refused backtrack) → EndsSeparated text (success text [])
    no_separator : {text rest : List ℕ} {value : O}
        → text ≢ [] → item text (success rest value) → separator rest (refused backtrack) → EndsSeparated text (success rest (value ∷ []))
    item_refused : {text : List ℕ} {why : Refusal} → text ≢ [] → IsHandedOn item text why → EndsSeparated text (refused why)
    separator_refused : {text rest : List ℕ} {value : O} {why : Refusal}
        → text ≢ [] → item text (success rest value) → IsHandedOn separator rest why → EndsSeparated text (refused why)

  -- the values of the item, a separator read after each
  abbrev pub GivesSeparated : Meaning (List O)
  GivesSeparated = Repeats IsSeparated EndsSeparated

  -- an item with its separator leaves a strictly shorter rest
  abbrev pub AdvancesTogether : Type 0
  AdvancesTogether = (text mid rest : List ℕ) (value : O) (passed : P)
      → item text (success mid value) → separator mid (success rest passed) → length rest < length text

  -- one of the two tells that it advances, or they are known to together
  abbrev pub MayAlternate : Type 0 → Type 0 → Type 0
  MayAlternate item_told separator_told = item_told ⊎ separator_told ⊎ AdvancesTogether
