-- What it is to answer as the first alternative that does not backtrack.
use Rattle.std.specs.Prelude.{◌≡◌, ℕ, List, [], ◌∷◌, ◌++◌, ⊤}
use Rattle.monch.specs.core_parsers.Outcome.{backtrack, Outcome, refused, Meaning}
use Rattle.monch.specs.Parts.{IsSettled}

-- each of them backtracks on the text
abbrev pub EachBacktracks : {A : Type 0} → List (Meaning A) → List ℕ → Type 0
EachBacktracks [] text = ⊤
EachBacktracks (part ∷ parts) text = part text (refused backtrack) × EachBacktracks parts text

-- one of them has the outcome, which is no backtrack, and those before it backtrack; or all of them do
pub data AnswersAsFirst {A : Type 0} (parts : List (Meaning A)) (text : List ℕ) (outcome : Outcome A) : Type 1 where
  first : (before : List (Meaning A)) (part : Meaning A) (after : List (Meaning A)) → parts ≡ before ++ part ∷ after
      → EachBacktracks before text → part text outcome → IsSettled outcome → AnswersAsFirst parts text outcome
  none : EachBacktracks parts text → outcome ≡ refused backtrack → AnswersAsFirst parts text outcome
