-- Items of a repetition: what each success leaves is shorter than the text.
use Rattle.std.proofs.Common.{◌≡◌, ◌≢◌, ◌⊎◌, ◌<◌, Result, Ok, Err, ℕ, Bool, List, [], ◌∷◌, ◌++◌, length, ap, subst, sym, inl, inr, arith}
use Rattle.std.proofs.lemmas.Grind.{common_steps}
use Rattle.std.proofs.lemmas.Str.{length-encode}
use Rattle.std.specs.Char.{encode_utf8, len_utf8}
use Rattle.std.specs.Prelude.{⊤}
use Rattle.std.specs.Fn.{Shared}
use Rattle.std.specs.Borrow.{Bor}
use Rattle.monch.specs.declared.core_parsers.error.ParseError.{ParseError}
use Rattle.monch.specs.core_parsers.Outcome.{success, Meaning, LeavesSuffix, Advances}
use Rattle.monch.specs.core_parsers.Suffix.{success_is_not_refused}
use Rattle.monch.specs.repeats.Advance.{shorter_behind, IsSuffix-length}
use Rattle.monch.specs.Calls.{GivesCall, AnswersShorter}
use Rattle.monch.specs.Leaves.{GivesChar, GivesOneOf, GivesTag, GivesNextChar}
use Rattle.monch.specs.Parts.{GivesFirst, GivesPair, GivesPreceded, GivesTerminated, GivesDelimited, GivesMapped, GivesIf}
use Rattle.monch.specs.Suffix.{rest_of, GivesTerminated-suffix}

-- behind its first character a text is shorter
pub behind_is_shorter : (text behind : List ℕ) (c : ℕ) → text ≡ encode_utf8 c ++ behind → length behind < length text
behind_is_shorter text behind c cut =
    let width = length-encode c in
    let some : 0 < len_utf8 c = grind arith in
    grind (arith, common_steps)

-- a character
pub char_advances : (c : ℕ) → Advances (GivesChar c)
char_advances c text rest value given = behind_is_shorter text rest c given.1

-- one of several characters
pub one_of_advances : (characters : List ℕ) → Advances (GivesOneOf characters)
one_of_advances characters text rest value given = behind_is_shorter text rest value given.1

-- any character
pub next_char_advances : Advances GivesNextChar
next_char_advances text rest value given = behind_is_shorter text rest value given

-- a tag that isn't empty
pub tag_advances : (tag : List ℕ) → tag ≢ [] → Advances (GivesTag tag)
tag_advances tag some text rest value given = shorter_behind tag rest text some given.1

-- a function that says so of itself
pub call_advances : {F O : Type 0} (calls : Shared F (Bor (List ℕ) × Unit {0}) (Result (Bor (List ℕ) × O) ParseError))
    (f : F)
    → AnswersShorter calls f → Advances (GivesCall calls f)
call_advances calls f shorter text rest value (Ok p, called, is) =
    subst (λ x. length x < length text) (ap (rest_of text) is) (shorter text (Ok p) called)
call_advances calls f shorter text rest value (Err e, called, is) = elim (success_is_not_refused (sym is)) [ ]

-- two parts, one behind the other, of which the first or the second advances
module _ {A B : Type 0} (one : Meaning A) (other : Meaning B) where
  first_shorter : Advances one → LeavesSuffix other → (text mid rest : List ℕ) (v : A) (w : B)
      → one text (success mid v) → other mid (success rest w) → length rest < length text
  first_shorter advances leaves text mid rest v w a b =
      let shorter = advances text mid v a in
      let not_longer = IsSuffix-length rest mid (leaves mid rest w b) in
      omega arith

  second_shorter : LeavesSuffix one → Advances other → (text mid rest : List ℕ) (v : A) (w : B)
      → one text (success mid v) → other mid (success rest w) → length rest < length text
  second_shorter leaves advances text mid rest v w a b =
      let shorter = advances mid rest w b in
      let not_longer = IsSuffix-length mid text (leaves text mid v a) in
      omega arith

  pub pair_advances : Advances one → LeavesSuffix other → Advances (GivesPair one other)
  pair_advances advances leaves text rest value given =
      first_shorter advances leaves text given.0 rest value.0 value.1 given.1 given.2

  pub pair_advances_behind : LeavesSuffix one → Advances other → Advances (GivesPair one other)
  pair_advances_behind leaves advances text rest value given =
      second_shorter leaves advances text given.0 rest value.0 value.1 given.1 given.2

  pub preceded_advances : Advances one → LeavesSuffix other → Advances (GivesPreceded one other)
  preceded_advances advances leaves text rest value given =
      first_shorter advances leaves text given.0 rest given.1 value given.2 given.3

  pub preceded_advances_behind : LeavesSuffix one → Advances other → Advances (GivesPreceded one other)
  preceded_advances_behind leaves advances text rest value given =
      second_shorter leaves advances text given.0 rest given.1 value given.2 given.3

  pub terminated_advances : Advances one → LeavesSuffix other → Advances (GivesTerminated one other)
  terminated_advances advances leaves text rest value given =
      first_shorter advances leaves text given.0 rest value given.1 given.2 given.3

  pub terminated_advances_behind : LeavesSuffix one → Advances other → Advances (GivesTerminated one other)
  terminated_advances_behind leaves advances text rest value given =
      second_shorter leaves advances text given.0 rest value given.1 given.2 given.3

-- three parts, of which the first, the second or the third advances
module _ {A B C : Type 0} (one : Meaning A) (two : Meaning B) (three : Meaning C) where
  pub delimited_advances : Advances one → LeavesSuffix two → LeavesSuffix three
      → Advances (GivesDelimited one two three)
  delimited_advances advances leaves last =
      preceded_advances one (GivesTerminated two three) advances (GivesTerminated-suffix two three leaves last)

  pub delimited_advances_between : LeavesSuffix one → Advances two → LeavesSuffix three
      → Advances (GivesDelimited one two three)
  delimited_advances_between leaves advances last =
      preceded_advances_behind one (GivesTerminated two three) leaves (terminated_advances two three advances last)

  pub delimited_advances_behind : LeavesSuffix one → LeavesSuffix two → Advances three
      → Advances (GivesDelimited one two three)
  delimited_advances_behind leaves between advances =
      preceded_advances_behind one (GivesTerminated two three) leaves
      (terminated_advances_behind two three between advances)

-- a function of the value, and a condition on it, change nothing of that
pub map_advances : {A B : Type 0} (part : Meaning A) (calls : A → B → Type 0) → Advances part
    → Advances (GivesMapped part calls)
map_advances part calls advances text rest value given = advances text rest given.0 given.1

pub if_advances : {A : Type 0} (part : Meaning A) (test : A → Bool → Type 0) → Advances part
    → Advances (GivesIf part test)
if_advances part test advances text rest value given = advances text rest value given.0

-- one of two parts tells that it advances
module _ {A B : Type 0} (one : Meaning A) (other : Meaning B) (by_one : LeavesSuffix one) (by_other : LeavesSuffix other)
    {one_told other_told : Type 0} (one_law : one_told → Advances one) (other_law : other_told → Advances other) where
  pub pair_advances_by : one_told ⊎ other_told → Advances (GivesPair one other)
  pair_advances_by (inl told) = pair_advances one other (one_law told) by_other
  pair_advances_by (inr told) = pair_advances_behind one other by_one (other_law told)

  pub preceded_advances_by : one_told ⊎ other_told → Advances (GivesPreceded one other)
  preceded_advances_by (inl told) = preceded_advances one other (one_law told) by_other
  preceded_advances_by (inr told) = preceded_advances_behind one other by_one (other_law told)

  pub terminated_advances_by : one_told ⊎ other_told → Advances (GivesTerminated one other)
  terminated_advances_by (inl told) = terminated_advances one other (one_law told) by_other
  terminated_advances_by (inr told) = terminated_advances_behind one other by_one (other_law told)

-- one of three does
pub delimited_advances_by : {A B C : Type 0} (one : Meaning A) (two : Meaning B) (three : Meaning C)
    → LeavesSuffix one → LeavesSuffix two → LeavesSuffix three
    → {one_told two_told three_told : Type 0}
    → (one_told → Advances one) → (two_told → Advances two) → (three_told → Advances three)
    → one_told ⊎ two_told ⊎ three_told → Advances (GivesDelimited one two three)
delimited_advances_by one two three by_one by_two by_three one_law two_law three_law (inl told) =
    delimited_advances one two three (one_law told) by_two by_three
delimited_advances_by one two three by_one by_two by_three one_law two_law three_law (inr (inl told)) =
    delimited_advances_between one two three by_one (two_law told) by_three
delimited_advances_by one two three by_one by_two by_three one_law two_law three_law (inr (inr told)) =
    delimited_advances_behind one two three by_one by_two (three_law told)

-- each of the parts advances
abbrev pub EachAdvances : {A : Type 0} → List (Meaning A) → Type 0
EachAdvances [] = ⊤
EachAdvances (part ∷ parts) = Advances part × EachAdvances parts

-- alternatives that all advance
pub first_advances : {A : Type 0} (parts : List (Meaning A)) → EachAdvances parts → Advances (GivesFirst parts)
first_advances [] each text rest value given = elim (success_is_not_refused given) [ ]
first_advances (part ∷ parts) each text rest value (inl given) = each.0 text rest value given.0
first_advances (part ∷ parts) each text rest value (inr given) = first_advances parts each.1 text rest value given.1
