-- What a combinator may answer on a text. Texts are lists of bytes.
use Rattle.std.specs.Prelude.{◌≡◌, ◌<◌, ℕ, List, ◌++◌, length}

-- why there is no value: another alternative may be tried, or reading fails at a text with a message, or memory ran out
pub data Refusal : Type 0 where
  backtrack : Refusal
  failure : List ℕ → List ℕ → Refusal
  no_memory : Refusal

-- the rest of the text and a value, or a refusal
pub data Outcome (O : Type 0) : Type 0 where
  success : List ℕ → O → Outcome O
  refused : Refusal → Outcome O

-- the meaning of a combinator: which outcomes it may have on a text
abbrev pub Meaning : Type 0 → Type 1
Meaning O = List ℕ → Outcome O → Type 0

-- the rest is what is left of the text behind some front
abbrev pub IsSuffix : List ℕ → List ℕ → Type 0
IsSuffix rest text = (front : List ℕ) × (text ≡ front ++ rest)

-- the rest of each success is a suffix of the text
abbrev pub LeavesSuffix : {O : Type 0} → Meaning O → Type 0
LeavesSuffix {O} meaning = (text rest : List ℕ) (value : O) → meaning text (success rest value) → IsSuffix rest text

-- each success leaves a strictly shorter rest
abbrev pub Advances : {O : Type 0} → Meaning O → Type 0
Advances {O} meaning = (text rest : List ℕ) (value : O) → meaning text (success rest value) → length rest < length text
