-- What a success leaves is a suffix of the text, for each meaning whose parts keep that.
use Rattle.std.specs.Prelude.{ℕ, List, ◌∷◌, [], ⊤, Result, Ok, Err, Some, None}
use Rattle.std.specs.Fn.{Shared}
use Rattle.std.specs.Borrow.{Bor}
use Rattle.std.proofs.Common.{sym, ap, inl, inr, subst}
use Rattle.monch.specs.core_parsers.Suffix.{IsSuffix-trans, success_is_not_refused}
use Rattle.monch.specs.declared.core_parsers.error.ParseError.{ParseError}
use Rattle.monch.specs.core_parsers.Outcome.{Meaning, Outcome, success, refused, IsSuffix, LeavesSuffix}
use Rattle.monch.specs.Calls.{GivesCall, AnswersSuffix}
use Rattle.monch.specs.Parts.{GivesPair, GivesPreceded, GivesTerminated, GivesFirst, GivesMaybe}

-- the rest of a success, or else the text given
abbrev pub rest_of : {A : Type 0} → List ℕ → Outcome A → List ℕ
rest_of other (success rest value) = rest
rest_of other (refused why) = other

pub GivesPair-suffix : {A B : Type 0} (first : Meaning A) (second : Meaning B)
    → LeavesSuffix first → LeavesSuffix second → LeavesSuffix (GivesPair first second)
GivesPair-suffix first second of_first of_second text rest value given =
    IsSuffix-trans (of_second _ _ _ given.2) (of_first _ _ _ given.1)

pub GivesPreceded-suffix : {A B : Type 0} (first : Meaning A) (second : Meaning B)
    → LeavesSuffix first → LeavesSuffix second → LeavesSuffix (GivesPreceded first second)
GivesPreceded-suffix first second of_first of_second text rest value given =
    IsSuffix-trans (of_second _ _ _ given.3) (of_first _ _ _ given.2)

-- each of the parts leaves a suffix
abbrev pub EachLeavesSuffix : {A : Type 0} → List (Meaning A) → Type 0
EachLeavesSuffix [] = ⊤
EachLeavesSuffix (part ∷ parts) = LeavesSuffix part × EachLeavesSuffix parts

pub GivesFirst-suffix : {A : Type 0} (parts : List (Meaning A)) → EachLeavesSuffix parts → LeavesSuffix (GivesFirst parts)
GivesFirst-suffix [] each text rest value given = elim (success_is_not_refused given) [ ]
GivesFirst-suffix (part ∷ parts) each text rest value (inl given) = each.0 text rest value given.0
GivesFirst-suffix (part ∷ parts) each text rest value (inr given) = GivesFirst-suffix parts each.1 text rest value given.1

pub GivesMaybe-suffix : {A : Type 0} (part : Meaning A) → LeavesSuffix part → LeavesSuffix (GivesMaybe part)
GivesMaybe-suffix part of_part text rest (Some value) given = of_part text rest value given
GivesMaybe-suffix part of_part text rest None given = ([], sym given.1)

pub GivesCall-suffix : {F O : Type 0} (calls : Shared F (Bor (List ℕ) × Unit {0}) (Result (Bor (List ℕ) × O) ParseError)) (f : F)
    → AnswersSuffix calls f → LeavesSuffix (GivesCall calls f)
GivesCall-suffix calls f answers text rest value (Ok p, called, is) = subst (λ x. IsSuffix x text) (ap (rest_of text) is) (answers text (Ok p) called)
GivesCall-suffix calls f answers text rest value (Err e, called, is) = elim (success_is_not_refused (sym is)) [ ]

pub GivesTerminated-suffix : {A B : Type 0} (first : Meaning A) (second : Meaning B)
    → LeavesSuffix first → LeavesSuffix second → LeavesSuffix (GivesTerminated first second)
GivesTerminated-suffix first second of_first of_second text rest value given =
    IsSuffix-trans (of_second _ _ _ given.3) (of_first _ _ _ given.2)
