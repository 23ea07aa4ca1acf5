-- Items while an end isn't read, as `many_till` reads them.
use Rattle.std.specs.Prelude.{◌≢◌, ℕ, List, []}
use Rattle.monch.specs.core_parsers.Outcome.{Refusal, backtrack, Outcome, success, refused, Meaning}
use Rattle.monch.specs.repeats.Repeat.{IsHandedOn, Repeats}

module _ {O P : Type 0} (item : Meaning O) (until : Meaning P) where
  -- a round of `many_till`: something is left, the end backtracks there, and the item reads
  pub record IsItem (text : List ℕ) (value : O) (rest : List ℕ) : Type 0 where
    pub left : text ≢ []
    pub goes_on : until text (refused backtrack)
    pub reads : item text (success rest value)

  -- where `many_till` ends: nothing is left, the end is read, no item stands there, or a part refuses
  pub data EndsItems : List ℕ → Outcome (List O) → Type 0 where
    nothing_left : EndsItems [] (success [] [])
    end_read : {text rest : List ℕ} {value : P}
        → text ≢ [] → until text (success rest value) → EndsItems text (success text [])
    no_item : {text : List ℕ}
        → text ≢ [] → until text (refused backtrack) → item text (refused backtrack) → EndsItems text (success text [])
    end_refused : {text : List ℕ} {why : Refusal} → text ≢ [] → IsHandedOn until text why → EndsItems text (refused why)
    item_refused : {text : List ℕ} {why : Refusal}
        → text ≢ [] → until text (refused backtrack) → IsHandedOn item text why → EndsItems text (refused why)

  -- the values of the item while something is left and the end backtracks there
  abbrev pub GivesItems : Meaning (List O)
  GivesItems = Repeats IsItem EndsItems
