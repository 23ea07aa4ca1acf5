-- The meanings of the combinators over parts, from the meanings of these.
use Rattle.std.specs.Prelude.{◌≡◌, ◌⊎◌, ℕ, Bool, true, false, List, [], ◌∷◌, ◌++◌, Option, None, Some, ⊤}
use Rattle.std.specs.Borrow.{Bor}
use Rattle.monch.specs.core_parsers.Failures.{below, FailsWith}
use Rattle.monch.specs.core_parsers.Outcome.{Refusal, backtrack, failure, no_memory, Outcome, success, refused, Meaning}

-- the first, then the second on its rest, and both values; a refusal of either is handed on
abbrev pub GivesPair : {A B : Type 0} → Meaning A → Meaning B → Meaning (A × B)
GivesPair first second text (success rest value) = (mid : List ℕ) × first text (success mid value.0) × second mid (success rest value.1)
GivesPair {A} first second text (refused why) =
    first text (refused why) ⊎ ((mid : List ℕ) × (value : A) × first text (success mid value) × second mid (refused why))

-- the same, and the value of the second
abbrev pub GivesPreceded : {A B : Type 0} → Meaning A → Meaning B → Meaning B
GivesPreceded {A} first second text (success rest value) =
    (mid : List ℕ) × (passed : A) × first text (success mid passed) × second mid (success rest value)
GivesPreceded {A} first second text (refused why) =
    first text (refused why) ⊎ ((mid : List ℕ) × (value : A) × first text (success mid value) × second mid (refused why))

-- the same, and the value of the first
abbrev pub GivesTerminated : {A B : Type 0} → Meaning A → Meaning B → Meaning A
GivesTerminated {A} {B} first second text (success rest value) =
    (mid : List ℕ) × (passed : B) × first text (success mid value) × second mid (success rest passed)
GivesTerminated {A} first second text (refused why) =
    first text (refused why) ⊎ ((mid : List ℕ) × (value : A) × first text (success mid value) × second mid (refused why))

-- three, each on the rest of the one before, and the value of the second
abbrev pub GivesDelimited : {A B C : Type 0} → Meaning A → Meaning B → Meaning C → Meaning B
GivesDelimited first second third = GivesPreceded first (GivesTerminated second third)

-- it is no backtrack
abbrev pub IsSettled : {A : Type 0} → Outcome A → Type 0
IsSettled (success rest value) = ⊤
IsSettled (refused backtrack) = ⊥
IsSettled (refused (failure input message)) = ⊤
IsSettled (refused no_memory) = ⊤

-- the first of them that does not backtrack; a backtrack where all do
abbrev pub GivesFirst : {A : Type 0} → List (Meaning A) → Meaning A
GivesFirst [] text outcome = outcome ≡ refused backtrack
GivesFirst (part ∷ parts) text outcome =
    (part text outcome × IsSettled outcome) ⊎ (part text (refused backtrack) × GivesFirst parts text outcome)

-- some value, or none with nothing taken where the part backtracks
abbrev pub GivesMaybe : {A : Type 0} → Meaning A → Meaning (Option A)
GivesMaybe part text (success rest (Some value)) = part text (success rest value)
GivesMaybe part text (success rest None) = part text (refused backtrack) × (rest ≡ text)
GivesMaybe part text (refused backtrack) = ⊥
GivesMaybe part text (refused (failure input message)) = part text (refused (failure input message))
GivesMaybe part text (refused no_memory) = part text (refused no_memory)

-- what the part took, as a slice
abbrev pub GivesSubstring : {A : Type 0} → Meaning A → Meaning (Bor (List ℕ))
GivesSubstring {A} part text (success rest taken) = (value : A) × part text (success rest value) × (text ≡ taken.now ++ rest)
GivesSubstring part text (refused why) = part text (refused why)

-- a call of the closure on the part's value
abbrev pub GivesMapped : {A B : Type 0} → Meaning A → (A → B → Type 0) → Meaning B
GivesMapped {A} part calls text (success rest value) = (before : A) × part text (success rest before) × calls before value
GivesMapped part calls text (refused why) = part text (refused why)

-- the part's value where the test may say yes of it, a backtrack where it may say no
abbrev pub GivesIf : {A : Type 0} → Meaning A → (A → Bool → Type 0) → Meaning A
GivesIf part test text (success rest value) = part text (success rest value) × test value true
GivesIf {A} part test text (refused why) =
    part text (refused why) ⊎ ((why ≡ backtrack) × (rest : List ℕ) × (value : A) × part text (success rest value) × test value false)

-- nothing, with nothing taken, where the part backtracks or fails; a backtrack where it succeeds
abbrev pub GivesNot : {A : Type 0} → Meaning A → Meaning (Unit {0})
GivesNot part text (success rest value) =
    (rest ≡ text)
    × (part text (refused backtrack) ⊎ ((input : List ℕ) × (message : List ℕ) × part text (refused (failure input message))))
GivesNot {A} part text (refused backtrack) = (rest : List ℕ) × (value : A) × part text (success rest value)
GivesNot part text (refused (failure input message)) = ⊥
GivesNot part text (refused no_memory) = part text (refused no_memory)

-- the part, with the text of its failure replaced
abbrev pub GivesWithInput : {A : Type 0} → List ℕ → Meaning A → Meaning A
GivesWithInput other part text (success rest value) = part text (success rest value)
GivesWithInput other part text (refused backtrack) = part text (refused backtrack)
GivesWithInput other part text (refused (failure input message)) =
    (input ≡ other) × (before : List ℕ) × part text (refused (failure before message))
GivesWithInput other part text (refused no_memory) = part text (refused no_memory)

-- the failure with a message above its own, unless memory runs out
abbrev pub IsToldAbove : List ℕ → List ℕ → List ℕ → Refusal → Type 0
IsToldAbove context input told why = (why ≡ failure input (below context told)) ⊎ (why ≡ no_memory)

-- what is made of an outcome that a condition denies: a failure has the message above its own, and any other fails at the text
abbrev pub FailsAbove : {A : Type 0} → List ℕ → List ℕ → Outcome A → Outcome A → Type 0
FailsAbove text context (refused (failure input told)) outcome = FailsWith input (below context told) outcome
FailsAbove text context (refused backtrack) outcome = FailsWith text context outcome
FailsAbove text context (refused no_memory) outcome = FailsWith text context outcome
FailsAbove text context (success rest value) outcome = FailsWith text context outcome

-- the part may fail
abbrev pub MayFail : {A : Type 0} → Meaning A → List ℕ → Type 0
MayFail part text = (input : List ℕ) × (message : List ℕ) × part text (refused (failure input message))

-- the part, with a message above that of its failure, for which memory may be wanting
abbrev pub GivesWithContext : {A : Type 0} → List ℕ → Meaning A → Meaning A
GivesWithContext context part text (success rest value) = part text (success rest value)
GivesWithContext context part text (refused backtrack) = part text (refused backtrack)
GivesWithContext context part text (refused (failure input message)) =
    (told : List ℕ) × part text (refused (failure input told)) × (message ≡ below context told)
GivesWithContext context part text (refused no_memory) = part text (refused no_memory) ⊎ MayFail part text

-- the part where the condition may hold of its outcome. Else a failure: one of the part keeps its text and has the
-- message above its own, and any other outcome fails at the text with the message. Out of memory is handed on.
module _ {A : Type 0} (part : Meaning A) (holds : Outcome A → Bool → Type 0) (context : List ℕ) where
  -- the part may have an outcome of which the condition may not hold
  abbrev pub MayBeDenied : List ℕ → Type 0
  MayBeDenied text = (outcome : Outcome A) × part text outcome × holds outcome false

  -- a failure with this text and message comes of the condition
  abbrev pub IsDenied : List ℕ → List ℕ → List ℕ → Type 0
  IsDenied text input message =
      ((told : List ℕ) × part text (refused (failure input told)) × holds (refused (failure input told)) false
      × (message ≡ below context told))
      ⊎ ((input ≡ text) × (message ≡ context)
      × ((part text (refused backtrack) × holds (refused backtrack) false)
      ⊎ ((rest : List ℕ) × (value : A) × part text (success rest value) × holds (success rest value) false)))

  abbrev pub GivesAssert : Meaning A
  GivesAssert text (success rest value) = part text (success rest value) × holds (success rest value) true
  GivesAssert text (refused backtrack) = part text (refused backtrack) × holds (refused backtrack) true
  GivesAssert text (refused (failure input message)) =
      (part text (refused (failure input message)) × holds (refused (failure input message)) true) ⊎ IsDenied text input message
  GivesAssert text (refused no_memory) = part text (refused no_memory) ⊎ MayBeDenied text

-- it is a success
abbrev pub is_success : {A : Type 0} → Outcome A → Bool
is_success (success rest value) = true
is_success (refused why) = false
