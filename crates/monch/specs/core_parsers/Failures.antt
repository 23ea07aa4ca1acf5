-- What a failure is told as.
use Rattle.std.specs.Prelude.{◌≡◌, ◌⊎◌, ℕ, List, [], ◌∷◌, ◌++◌, codes, take, Some, ⊤}
use Rattle.std.specs.Str.{chars, encode_utf8_all}
use Rattle.monch.specs.declared.core_parsers.error.ParseErrorFailureError.{ParseErrorFailureError}
use Rattle.monch.specs.declared.core_parsers.error.HandledError.{HandledError}
use Rattle.monch.specs.declared.core_parsers.error.HandledError.TheVariants.{Failure, OutOfMemory}
use Rattle.monch.specs.core_parsers.Outcome.{failure, no_memory, Outcome, refused}

-- the first 60 characters of a text
abbrev pub snippet : List ℕ → List ℕ
snippet text = encode_utf8_all (take 60 (chars text))

-- what is said of text that is left over
abbrev pub trailing_message : List ℕ
trailing_message = codes "Unexpected character."

-- a message with one above it, and an empty line between
abbrev pub below : List ℕ → List ℕ → List ℕ
below context message = context ++ 10 ∷ 10 ∷ [] ++ message

-- the failure with this message, and the first characters of this text
pub record IsToldAs (input told : List ℕ) (error : ParseErrorFailureError) : Type 0 where
  pub message : error.message ≡ told
  pub code_snippet : error.code_snippet ≡ Some (snippet input)

-- the same, or memory ran out
abbrev pub IsHandledAs : List ℕ → List ℕ → HandledError → Type 0
IsHandledAs input message (Failure error) = IsToldAs input message error
IsHandledAs input message OutOfMemory = ⊤

-- a failure at this text with this message, or memory ran out
abbrev pub FailsWith : {O : Type 0} → List ℕ → List ℕ → Outcome O → Type 0
FailsWith input message outcome = (outcome ≡ refused (failure input message)) ⊎ (outcome ≡ refused no_memory)
