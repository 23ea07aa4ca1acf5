-- The laws that other crates and the README name.
use Rattle.std.proofs.Common.{◌≡◌, ◌<◌, Result, Ok, Err, IfOk, ℕ, Bool, List, [], ◌∷◌, ◌++◌, length, refl, ap, subst, sym, inl, inr}
use Rattle.std.specs.Prelude.{⊤}
use Rattle.monch.specs.core_parsers.Outcome.{backtrack, Outcome, refused, Meaning, IsSuffix, LeavesSuffix, Advances}
use Rattle.std.specs.Borrow.{Bor}
use Rattle.monch.specs.declared.core_parsers.error.ParseError.{ParseError}
use Rattle.monch.specs.core_parsers.Seen.{seen}
use Rattle.monch.specs.repeats.Repeat.{TakesNoMemory}
use Rattle.monch.specs.First.{AnswersAsFirst, EachBacktracks, first, none}
use Rattle.monch.specs.Leaves.{GivesChar, GivesOneOf, GivesTag, GivesNextChar, GivesSkipWhile, GivesTakeWhile, GivesSkipBytes, GivesTakeBytes, GivesWhitespace}
use Rattle.monch.specs.Parts.{GivesFirst, GivesMaybe, GivesPair, GivesSubstring, IsSettled}
pub use Rattle.monch.specs.Advance.{char_advances, one_of_advances, next_char_advances, tag_advances, call_advances, pair_advances, pair_advances_behind, preceded_advances, preceded_advances_behind, terminated_advances, terminated_advances_behind, delimited_advances, delimited_advances_between, delimited_advances_behind, map_advances, if_advances, first_advances}

-- ---- the first alternative that does not backtrack

answers_behind : {A : Type 0} (part : Meaning A) (parts : List (Meaning A)) (text : List ℕ) (outcome : Outcome A)
    → part text (refused backtrack) → AnswersAsFirst parts text outcome → AnswersAsFirst (part ∷ parts) text outcome
answers_behind part parts text outcome backtracks (first before other after split others given settled) =
    first (part ∷ before) other after (ap (λ ps. part ∷ ps) split) (backtracks, others) given settled
answers_behind part parts text outcome backtracks (none others is) = none (backtracks, others) is

-- `or`, `or3` to `or7` answer as the first of their alternatives that does not backtrack
pub GivesFirst-answers : {A : Type 0} (parts : List (Meaning A)) (text : List ℕ) (outcome : Outcome A)
    → GivesFirst parts text outcome → AnswersAsFirst parts text outcome
GivesFirst-answers [] text outcome given = none tt given
GivesFirst-answers (part ∷ parts) text outcome (inl given) = first [] part parts refl tt given.0 given.1
GivesFirst-answers (part ∷ parts) text outcome (inr given) =
    answers_behind part parts text outcome given.0 (GivesFirst-answers parts text outcome given.1)

gives_at : {A : Type 0} (before : List (Meaning A)) (part : Meaning A) (after : List (Meaning A)) (text : List ℕ)
    (outcome : Outcome A)
    → EachBacktracks before text → part text outcome → IsSettled outcome
    → GivesFirst (before ++ part ∷ after) text outcome
gives_at [] part after text outcome others given settled = inl (given, settled)
gives_at (other ∷ before) part after text outcome others given settled =
    inr (others.0, gives_at before part after text outcome others.1 given settled)

gives_none : {A : Type 0} (parts : List (Meaning A)) (text : List ℕ) (outcome : Outcome A)
    → EachBacktracks parts text → outcome ≡ refused backtrack → GivesFirst parts text outcome
gives_none [] text outcome others is = is
gives_none (part ∷ parts) text outcome others is = inr (others.0, gives_none parts text outcome others.1 is)

-- and have no other meaning than that
pub answers-GivesFirst : {A : Type 0} (parts : List (Meaning A)) (text : List ℕ) (outcome : Outcome A)
    → AnswersAsFirst parts text outcome → GivesFirst parts text outcome
answers-GivesFirst parts text outcome (first before part after split others given settled) =
    subst (λ ps. GivesFirst ps text outcome) (sym split) (gives_at before part after text outcome others given settled)
answers-GivesFirst parts text outcome (none others is) = gives_none parts text outcome others is

-- ---- what takes no memory: no part, or parts that take none

pub GivesChar-in_room : (c : ℕ) → TakesNoMemory (GivesChar c)
GivesChar-in_room c text given = let is = given.0 in cc

pub GivesOneOf-in_room : (characters : List ℕ) → TakesNoMemory (GivesOneOf characters)
GivesOneOf-in_room characters text given = let is = given.0 in cc

pub GivesTag-in_room : (tag : List ℕ) → TakesNoMemory (GivesTag tag)
GivesTag-in_room tag text given = let is = given.0 in cc

pub GivesNextChar-in_room : TakesNoMemory GivesNextChar
GivesNextChar-in_room text given = let is = given.0 in cc

pub GivesWhitespace-in_room : TakesNoMemory GivesWhitespace
GivesWhitespace-in_room text given = let is = given.0 in cc

pub GivesSkipWhile-in_room : (test : ℕ → Bool → Type 0) → TakesNoMemory (GivesSkipWhile test)
GivesSkipWhile-in_room test text given = given

pub GivesTakeWhile-in_room : (test : ℕ → Bool → Type 0) → TakesNoMemory (GivesTakeWhile test)
GivesTakeWhile-in_room test text given = given

pub GivesSkipBytes-in_room : (test : ℕ → Bool → Type 0) → TakesNoMemory (GivesSkipBytes test)
GivesSkipBytes-in_room test text given = given

pub GivesTakeBytes-in_room : (test : ℕ → Bool → Type 0) → TakesNoMemory (GivesTakeBytes test)
GivesTakeBytes-in_room test text given = given

pub GivesMaybe-in_room : {A : Type 0} (part : Meaning A) → TakesNoMemory part → TakesNoMemory (GivesMaybe part)
GivesMaybe-in_room part room text given = room text given

pub GivesSubstring-in_room : {A : Type 0} (part : Meaning A) → TakesNoMemory part → TakesNoMemory (GivesSubstring part)
GivesSubstring-in_room part room text given = room text given

pub GivesPair-in_room : {A B : Type 0} (one : Meaning A) (other : Meaning B) → TakesNoMemory one → TakesNoMemory other
    → TakesNoMemory (GivesPair one other)
GivesPair-in_room one other room other_room text (inl given) = room text given
GivesPair-in_room one other room other_room text (inr (mid, value, passed, given)) = other_room mid given

-- each of the parts takes no memory
abbrev pub EachTakesNoMemory : {A : Type 0} → List (Meaning A) → Type 0
EachTakesNoMemory [] = ⊤
EachTakesNoMemory (part ∷ parts) = TakesNoMemory part × EachTakesNoMemory parts

-- for `or` and its longer forms
pub GivesFirst-in_room : {A : Type 0} (parts : List (Meaning A)) → EachTakesNoMemory parts
    → TakesNoMemory (GivesFirst parts)
GivesFirst-in_room [] rooms text given = cc
GivesFirst-in_room (part ∷ parts) rooms text (inl given) = rooms.0 text given.0
GivesFirst-in_room (part ∷ parts) rooms text (inr given) = GivesFirst-in_room parts rooms.1 text given.1

-- ---- what a caller needs of its parts

-- what a result of the part leaves is a suffix, as a function is to say of itself for `from_fn`
pub suffix_of_result : {O : Type 0} (part : Meaning O) → LeavesSuffix part
    → (text : List ℕ) (r : Result (Bor (List ℕ) × O) ParseError) → part text (seen r)
    → IfOk r (λ p. IsSuffix p.0.now text)
suffix_of_result part leaves text (Ok p) given = leaves text p.0.now p.1 given
suffix_of_result part leaves text (Err e) given = tt

-- what a result of the part leaves is shorter, as a function is to say of itself
pub shorter_of_result : {O : Type 0} (part : Meaning O) → Advances part
    → (text : List ℕ) (r : Result (Bor (List ℕ) × O) ParseError) → part text (seen r)
    → IfOk r (λ p. length p.0.now < length text)
shorter_of_result part advances text (Ok p) given = advances text p.0.now p.1 given
shorter_of_result part advances text (Err e) given = tt
