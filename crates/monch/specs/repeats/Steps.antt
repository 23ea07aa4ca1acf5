-- What the functions of the crate promise each other.
use Rattle.std.specs.Prelude.{ℕ, List, [], ◌∷◌, ⊤, IsUtf8}
use Rattle.monch.specs.core_parsers.Outcome.{success, Meaning}
use Rattle.monch.specs.declared.repeats.rounds.Round.{Round}
use Rattle.monch.specs.declared.repeats.rounds.Round.TheVariants.{Next, Last, End}
use Rattle.monch.specs.repeats.Separated.{IsSeparated, EndsSeparated}

-- what was found at the text is a round, or where the rounds end
abbrev pub IsRound : {O P : Type 0} → Meaning O → Meaning P → List ℕ → Round O → Type 0
IsRound item separator text (Next rest value) = IsSeparated item separator text value rest.now
IsRound item separator text (Last rest value) = EndsSeparated item separator text (success rest.now (value ∷ []))
IsRound item separator text End = EndsSeparated item separator text (success text [])

-- what is left to go on with is text
abbrev pub HasText : {O : Type 0} → Round O → Type 0
HasText (Next rest value) = IsUtf8 rest.now
HasText (Last rest value) = ⊤
HasText End = ⊤
