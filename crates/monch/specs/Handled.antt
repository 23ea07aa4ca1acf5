-- What reading a whole text answers.
use Rattle.std.specs.Prelude.{◌≡◌, ◌≢◌, ◌⊎◌, ℕ, List, [], Result, Ok, Err, ⊤}
use Rattle.monch.specs.declared.core_parsers.error.HandledError.{HandledError}
use Rattle.monch.specs.declared.core_parsers.error.HandledError.TheVariants.{Failure, OutOfMemory}
use Rattle.monch.specs.core_parsers.Failures.{IsToldAs, trailing_message}
use Rattle.monch.specs.core_parsers.Outcome.{backtrack, failure, no_memory, Outcome, success, refused, Meaning}

-- the text was not read to its end
abbrev pub IsIncomplete : {A : Type 0} → Outcome A → Type 0
IsIncomplete (success rest value) = rest ≢ []
IsIncomplete (refused why) = ⊤

-- the value where nothing is left. A rest, or a backtrack, is the failure of trailing text there or at the text; a failure is
-- itself. Memory may be wanting where the text was not read to its end.
abbrev pub GivesHandled : {A : Type 0} → Meaning A → List ℕ → Result A HandledError → Type 0
GivesHandled part text (Ok value) = part text (success [] value)
GivesHandled {A} part text (Err (Failure error)) =
    ((rest : List ℕ) × (value : A) × part text (success rest value) × (rest ≢ []) × IsToldAs rest trailing_message error)
    ⊎ (part text (refused backtrack) × IsToldAs text trailing_message error)
    ⊎ ((input : List ℕ) × (message : List ℕ) × part text (refused (failure input message)) × IsToldAs input message error)
GivesHandled {A} part text (Err OutOfMemory) = (outcome : Outcome A) × part text outcome × IsIncomplete outcome
