-- Repetitions: rounds that read one value each, and then an end.
use Rattle.std.specs.Prelude.{◌≡◌, ◌≢◌, ◌⊎◌, ℕ, List, [], ◌∷◌, length, ⊤}
use Rattle.std.specs.List.{FoldsTo}
use Rattle.std.specs.Global.{Vec}
use Rattle.monch.specs.core_parsers.Outcome.{Refusal, backtrack, failure, no_memory, Outcome, success, refused, Meaning, Advances}

-- an outcome with one more value in front of its list
abbrev pub with_first : {O : Type 0} → O → Outcome (List O) → Outcome (List O)
with_first value (success rest values) = success rest (value ∷ values)
with_first value (refused why) = refused why

-- rounds from text to text, each with one value, and then what the end gives
pub data Repeats {O : Type 0} (Round : List ℕ → O → List ℕ → Type 0) (End : Meaning (List O)) : List ℕ → Outcome (List O) → Type 0 where
  ends : {text : List ℕ} {outcome : Outcome (List O)} → End text outcome → Repeats Round End text outcome
  round : {text rest : List ℕ} {value : O} {outcome : Outcome (List O)}
      → Round text value rest → Repeats Round End rest outcome → Repeats Round End text (with_first value outcome)

-- a part refuses in another way than by a backtrack, and that is handed on
pub record IsHandedOn {O : Type 0} (part : Meaning O) (text : List ℕ) (why : Refusal) : Type 0 where
  pub refuses : part text (refused why)
  pub settled : why ≢ backtrack

-- an item that tells that it advances, or is known to
abbrev pub MayRepeat : {O : Type 0} → Type 0 → Meaning O → Type 0
MayRepeat told item = told ⊎ Advances item

-- it always backtracks
abbrev pub Backtracks : Meaning (Unit {0})
Backtracks text outcome = outcome ≡ refused backtrack

-- the list in a vector, whose memory may run out
abbrev pub GivesVec : {O : Type 0} → Meaning (List O) → Meaning (Vec O)
GivesVec list text (success rest values) = list text (success rest values.items)
GivesVec list text (refused backtrack) = list text (refused backtrack)
GivesVec list text (refused (failure input message)) = list text (refused (failure input message))
GivesVec list text (refused no_memory) = ⊤

-- the list where it has a value, and a backtrack where it has none
abbrev pub GivesSome : {O : Type 0} → Meaning (List O) → Meaning (List O)
GivesSome list text (success rest values) = (values ≢ []) × list text (success rest values)
GivesSome list text (refused why) = ((why ≡ backtrack) × (rest : List ℕ) × list text (success rest [])) ⊎ list text (refused why)

-- how many values the list has
abbrev pub GivesCount : {O : Type 0} → Meaning (List O) → Meaning ℕ
GivesCount {O} list text (success rest count) = (values : List O) × list text (success rest values) × (count ≡ length values)
GivesCount list text (refused why) = list text (refused why)

-- what steps over the values of the list make of the first state
abbrev pub GivesFold : {O S : Type 0} → Meaning (List O) → (S → O → S → Type 0) → S → Meaning S
GivesFold {O} list Step init text (success rest state) = (values : List O) × list text (success rest values) × FoldsTo Step init values state
GivesFold list Step init text (refused why) = list text (refused why)

-- no memory is taken: it never runs out
abbrev pub TakesNoMemory : {O : Type 0} → Meaning O → Type 0
TakesNoMemory part = (text : List ℕ) → ¬ (part text (refused no_memory))
