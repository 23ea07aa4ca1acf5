-- When two outcomes say the same of a text, unless memory runs out.
use Rattle.std.specs.Prelude.{◌≡◌, ◌⊎◌, ℕ, List, length, ⊤}
use Rattle.std.specs.Global.{Vec}
use Rattle.monch.specs.core_parsers.Outcome.{no_memory, Outcome, success, refused, Meaning}

-- the same rest and values in this relation, or the same refusal, or out of memory in one of them
abbrev pub Agrees : {O P : Type 0} → (O → P → Type 0) → Outcome O → Outcome P → Type 0
Agrees R (success rest value) (success also other) = (rest ≡ also) × R value other
Agrees R (success rest value) (refused why) = why ≡ no_memory
Agrees R (refused why) (success rest value) = why ≡ no_memory
Agrees R (refused why) (refused other) = (why ≡ other) ⊎ ((why ≡ no_memory) ⊎ (other ≡ no_memory))

-- the rest or the refusal is a function of the text
abbrev pub LeavesOneRest : {O : Type 0} → Meaning O → Type 0
LeavesOneRest {O} part = (text : List ℕ) (one other : Outcome O) → part text one → part text other → Agrees (λ v w. ⊤) one other

-- the count is the length of the list, with the same rest or refusal
abbrev pub IsCountOf : {O : Type 0} → Outcome (Vec O) → Outcome ℕ → Type 0
IsCountOf listed counted = Agrees (λ values count. count ≡ length values.items) listed counted
