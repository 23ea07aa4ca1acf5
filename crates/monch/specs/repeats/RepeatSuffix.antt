-- What a repetition leaves is a suffix of the text, where what its parts leave is.
use Rattle.std.specs.Prelude.{ℕ, List, [], ⊤}
use Rattle.monch.specs.core_parsers.Outcome.{Outcome, success, refused, Meaning, IsSuffix, LeavesSuffix}
use Rattle.monch.specs.core_parsers.Suffix.{IsSuffix-trans, IsSuffix-self}
use Rattle.monch.specs.repeats.Repeat.{with_first, Repeats, ends, round}
use Rattle.monch.specs.repeats.Items as items
use Rattle.monch.specs.repeats.Items.{IsItem, EndsItems, GivesItems, nothing_left, end_read, end_refused}
use Rattle.monch.specs.repeats.Separated as separated
use Rattle.monch.specs.repeats.Separated.{IsSeparated, EndsSeparated, GivesSeparated, no_separator, separator_refused}

-- a success leaves a suffix
abbrev pub IsSuffixLeft : {O : Type 0} → List ℕ → Outcome O → Type 0
IsSuffixLeft text (success rest value) = IsSuffix rest text
IsSuffixLeft text (refused why) = ⊤

module _ {O : Type 0} (Round : List ℕ → O → List ℕ → Type 0) (End : Meaning (List O))
    (by_round : (text rest : List ℕ) (value : O) → Round text value rest → IsSuffix rest text)
    (at_end : (text : List ℕ) (outcome : Outcome (List O)) → End text outcome → IsSuffixLeft text outcome) where
  behind : (text rest : List ℕ) (value : O) (outcome : Outcome (List O))
      → IsSuffix rest text → IsSuffixLeft rest outcome → IsSuffixLeft text (with_first value outcome)
  behind text rest value (success last values) front left = IsSuffix-trans left front
  behind text rest value (refused why) front left = tt

  pub Repeats-suffix : {text : List ℕ} {outcome : Outcome (List O)} → Repeats Round End text outcome → IsSuffixLeft text outcome
  Repeats-suffix (ends ended) = at_end _ _ ended
  Repeats-suffix (round {text = text} {rest = rest} {value = value} {outcome = outcome} read then) =
      behind text rest value outcome (by_round _ _ _ read) (Repeats-suffix then)

module _ {O P : Type 0} (item : Meaning O) (until : Meaning P) where
  items_end : (text : List ℕ) (outcome : Outcome (List O)) → EndsItems item until text outcome → IsSuffixLeft text outcome
  items_end _ _ nothing_left = IsSuffix-self []
  items_end text _ (end_read left ended) = IsSuffix-self text
  items_end text _ (items.no_item left goes_on none) = IsSuffix-self text
  items_end _ _ (end_refused left handed) = tt
  items_end _ _ (items.item_refused left goes_on handed) = tt

  pub items-suffix : LeavesSuffix item → {text : List ℕ} {outcome : Outcome (List O)} → GivesItems item until text outcome
      → IsSuffixLeft text outcome
  items-suffix by_item = Repeats-suffix (IsItem item until) (EndsItems item until) (λ text rest value read. by_item _ _ _ read.reads) items_end

  pub GivesItems-suffix : LeavesSuffix item → {text rest : List ℕ} {values : List O} → GivesItems item until text (success rest values) → IsSuffix rest text
  GivesItems-suffix by_item = items-suffix by_item

module _ {O P : Type 0} (item : Meaning O) (separator : Meaning P) where
  separated_end : LeavesSuffix item → (text : List ℕ) (outcome : Outcome (List O)) → EndsSeparated item separator text outcome → IsSuffixLeft text outcome
  separated_end by_item _ _ separated.nothing_left = IsSuffix-self []
  separated_end by_item text _ (separated.no_item left none) = IsSuffix-self text
  separated_end by_item _ _ (no_separator left read none) = by_item _ _ _ read
  separated_end by_item _ _ (separated.item_refused left handed) = tt
  separated_end by_item _ _ (separator_refused left read handed) = tt

  pub GivesSeparated-suffix : LeavesSuffix item → LeavesSuffix separator
      → {text rest : List ℕ} {values : List O} → GivesSeparated item separator text (success rest values) → IsSuffix rest text
  GivesSeparated-suffix by_item by_separator =
      Repeats-suffix (IsSeparated item separator) (EndsSeparated item separator)
      (λ text rest value read. IsSuffix-trans (by_separator _ _ _ read.separates) (by_item _ _ _ read.reads)) (separated_end by_item)
