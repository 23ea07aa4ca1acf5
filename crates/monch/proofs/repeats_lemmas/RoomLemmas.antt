-- A repetition runs out of memory only where a part does.
use Rattle.std.proofs.Common.{◌≡◌, ◌≢◌, ℕ, List, refl, subst}
use Rattle.monch.specs.core_parsers.Outcome.{Refusal, no_memory, Outcome, success, refused, Meaning}
use Rattle.monch.specs.repeats.Repeat.{with_first, Repeats, ends, round, IsHandedOn, TakesNoMemory}
use Rattle.monch.specs.repeats.Items as items
use Rattle.monch.specs.repeats.Items.{IsItem, EndsItems, GivesItems, nothing_left, end_read, end_refused}
use Rattle.monch.specs.repeats.Separated as separated
use Rattle.monch.specs.repeats.Separated.{IsSeparated, EndsSeparated, GivesSeparated, no_separator, separator_refused}

-- an outcome other than out of memory
abbrev pub IsInRoom : {O : Type 0} → Outcome O → Type 0
IsInRoom outcome = outcome ≢ refused no_memory

module _ {O : Type 0} where
  in_room_behind : (v : O) (outcome : Outcome (List O)) → IsInRoom outcome → IsInRoom (with_first v outcome)
  in_room_behind v (success rest values) room is = cc
  in_room_behind v (refused why) room is = room is

module _ {O : Type 0} (Round : List ℕ → O → List ℕ → Type 0) (End : Meaning (List O))
    (end_in_room : (text : List ℕ) (outcome : Outcome (List O)) → End text outcome → IsInRoom outcome) where
  Repeats-in_room : {text : List ℕ} {outcome : Outcome (List O)} → Repeats Round End text outcome → IsInRoom outcome
  Repeats-in_room (ends a) = end_in_room _ _ a
  Repeats-in_room (round {value = v} {outcome = outcome} a then) = in_room_behind v outcome (Repeats-in_room then)

module _ {O P : Type 0} (part : Meaning O) (room : TakesNoMemory part) where
  handed_in_room : (text : List ℕ) (why : Refusal) → IsHandedOn part text why → IsInRoom {O = List P} (refused why)
  handed_in_room text why handed is =
      let none : why ≡ no_memory = cc in
      room text (subst (λ w. part text (refused w)) none handed.refuses)

module _ {O P : Type 0} (item : Meaning O) (until : Meaning P) (item_room : TakesNoMemory item)
    (until_room : TakesNoMemory until) where
  items_end_in_room : (text : List ℕ) (outcome : Outcome (List O)) → EndsItems item until text outcome
      → IsInRoom outcome
  items_end_in_room _ _ nothing_left is = cc
  items_end_in_room _ _ (end_read _ _) is = cc
  items_end_in_room _ _ (items.no_item _ _ _) is = cc
  items_end_in_room _ _ (end_refused {text = text} {why = why} _ handed) is =
      handed_in_room {P = O} until until_room text why handed is
  items_end_in_room _ _ (items.item_refused {text = text} {why = why} _ _ handed) is =
      handed_in_room {P = O} item item_room text why handed is

  pub GivesItems-in_room : TakesNoMemory (GivesItems item until)
  GivesItems-in_room text given =
      Repeats-in_room (IsItem item until) (EndsItems item until) items_end_in_room given refl

module _ {O P : Type 0} (item : Meaning O) (separator : Meaning P) (item_room : TakesNoMemory item)
    (separator_room : TakesNoMemory separator) where
  separated_end_in_room : (text : List ℕ) (outcome : Outcome (List O)) → EndsSeparated item separator text outcome
      → IsInRoom outcome
  separated_end_in_room _ _ separated.nothing_left is = cc
  separated_end_in_room _ _ (separated.no_item _ _) is = cc
  separated_end_in_room _ _ (no_separator _ _ _) is = cc
  separated_end_in_room _ _ (separated.item_refused {text = text} {why = why} _ handed) is =
      handed_in_room {P = O} item item_room text why handed is
  separated_end_in_room _ _ (separator_refused {rest = rest} {why = why} _ _ handed) is =
      handed_in_room {P = O} separator separator_room rest why handed is

  pub GivesSeparated-in_room : TakesNoMemory (GivesSeparated item separator)
  GivesSeparated-in_room text given =
      Repeats-in_room (IsSeparated item separator) (EndsSeparated item separator) separated_end_in_room given refl
