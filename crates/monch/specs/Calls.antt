-- The meanings of combinators that call a closure.
use Rattle.std.specs.Prelude.{◌≡◌, ◌<◌, ℕ, Bool, List, length, Result, Ok, Err, IfOk}
use Rattle.std.specs.Borrow.{Bor}
use Rattle.std.specs.Fn.{Shared, FnReturns, FnReturnsAt}
use Rattle.monch.specs.declared.core_parsers.error.ParseError.{ParseError}
use Rattle.monch.specs.core_parsers.Outcome.{Outcome, Meaning, success, refused, IsSuffix}
use Rattle.monch.specs.core_parsers.Seen.{seen, refusal_of}

module _ {F O : Type 0} (calls : Shared F (Bor (List ℕ) × Unit {0}) (Result (Bor (List ℕ) × O) ParseError)) (f : F) where
  -- what a call of the function may answer
  abbrev pub GivesCall : List ℕ → Outcome O → Type 0
  GivesCall text outcome = (r : Result (Bor (List ℕ) × O) ParseError) × FnReturnsAt calls f text r × (seen r ≡ outcome)

  -- where a call succeeds, what it leaves is a suffix of the text
  abbrev pub AnswersSuffix : Type 0
  AnswersSuffix = (text : List ℕ) (r : Result (Bor (List ℕ) × O) ParseError) → FnReturnsAt calls f text r → IfOk r (λ p. IsSuffix p.0.now text)

  -- where a call succeeds, what it leaves is shorter than the text
  abbrev pub AnswersShorter : Type 0
  AnswersShorter = (text : List ℕ) (r : Result (Bor (List ℕ) × O) ParseError) → FnReturnsAt calls f text r
      → IfOk r (λ p. length p.0.now < length text)

-- the outcome that a result behind references stands for
abbrev pub seen_behind : {O : Type 0} → Result (Bor (Bor (List ℕ) × O)) (Bor ParseError) → Outcome O
seen_behind (Ok p) = success p.now.0.now p.now.1
seen_behind (Err e) = refused (refusal_of e.now)

module _ {F O : Type 0} (calls : Shared F (Result (Bor (Bor (List ℕ) × O)) (Bor ParseError) × Unit {0}) Bool) (f : F) where
  -- what a call of the condition on a result with this outcome may answer
  abbrev pub AnswersOn : Outcome O → Bool → Type 0
  AnswersOn outcome answer =
      (r : Result (Bor (Bor (List ℕ) × O)) (Bor ParseError)) × (seen_behind r ≡ outcome) × FnReturns calls f (r, tt) answer

-- what a call of the function on the part's whole result may answer
abbrev pub GivesOfResult : {O R : Type 0} → Meaning O → (Result (Bor (List ℕ) × O) ParseError → R → Type 0) → List ℕ → R → Type 0
GivesOfResult {O} part calls text answer = (r : Result (Bor (List ℕ) × O) ParseError) × part text (seen r) × calls r answer
