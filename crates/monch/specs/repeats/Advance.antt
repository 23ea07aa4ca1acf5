-- What advances: items that are repeated, and what a repetition of them leaves.
use Rattle.std.proofs.Common.{inl, inr, ◌≡◌, ◌≢◌, ◌<◌, ◌≤◌, ℕ, List, [], ◌∷◌, ◌++◌, length, length-append, refl, ap, arith}
use Rattle.std.specs.Prelude.{⊤}
use Rattle.monch.specs.core_parsers.Outcome.{Outcome, success, refused, Meaning, IsSuffix, LeavesSuffix, Advances}
use Rattle.monch.specs.repeats.Repeat.{MayRepeat, with_first, ends, round}
use Rattle.monch.specs.repeats.Items.{EndsItems, GivesItems, nothing_left, end_read, no_item, end_refused, item_refused}
use Rattle.monch.specs.repeats.Separated.{AdvancesTogether, MayAlternate}
use Rattle.monch.specs.repeats.RepeatSuffix.{IsSuffixLeft, items-suffix}

-- a suffix is not longer
pub IsSuffix-length : (rest text : List ℕ) → IsSuffix rest text → length rest ≤ length text
IsSuffix-length rest text (front, is) = omega (arith, length-append front rest, ap length is)

-- what stands behind some front is shorter
pub shorter_behind : (front rest text : List ℕ) → front ≢ [] → text ≡ front ++ rest → length rest < length text
shorter_behind [] rest text some is = absurd (some refl)
shorter_behind (x ∷ front) rest text some is = omega (arith, length-append (x ∷ front) rest, ap length is)

module _ {O P : Type 0} (item : Meaning O) (separator : Meaning P) where
  -- an item that advances, with any separator behind it
  pub together_by_item : Advances item → LeavesSuffix separator → AdvancesTogether item separator
  together_by_item advances leaves text mid rest value passed read separates =
      let item_shorter = advances text mid value read in
      let not_longer = IsSuffix-length rest mid (leaves mid rest passed separates) in
      omega arith

  -- any item, with a separator that advances behind it
  pub together_by_separator : LeavesSuffix item → Advances separator → AdvancesTogether item separator
  together_by_separator leaves advances text mid rest value passed read separates =
      let separator_shorter = advances mid rest passed separates in
      let not_longer = IsSuffix-length mid text (leaves text mid value read) in
      omega arith

-- an item that may be repeated advances, where it advances if it tells so
pub advancing : {O : Type 0} (item : Meaning O) {told : Type 0} → (told → Advances item) → MayRepeat told item
    → Advances item
advancing item law (inl told) = law told
advancing item law (inr known) = known

module _ {O P : Type 0} (item : Meaning O) (separator : Meaning P) where
  -- the same of an item and its separator
  pub alternating : {item_told separator_told : Type 0} → LeavesSuffix item → LeavesSuffix separator
      → (item_told → Advances item) → (separator_told → Advances separator)
      → MayAlternate item separator item_told separator_told → AdvancesTogether item separator
  alternating by_item by_separator item_law separator_law (inl told) =
      together_by_item item separator (item_law told) by_separator
  alternating by_item by_separator item_law separator_law (inr (inl told)) =
      together_by_separator item separator by_item (separator_law told)
  alternating by_item by_separator item_law separator_law (inr (inr known)) = known

-- what a success with a value leaves is shorter
abbrev IsShorterLeft : {O : Type 0} → List ℕ → Outcome (List O) → Type 0
IsShorterLeft text (success rest values) = values ≢ [] → length rest < length text
IsShorterLeft text (refused why) = ⊤

module _ {O P : Type 0} (item : Meaning O) (until : Meaning P) where
  items_end_with_none : (text : List ℕ) (outcome : Outcome (List O)) → EndsItems item until text outcome
      → IsShorterLeft text outcome
  items_end_with_none _ _ nothing_left = λ some. absurd (some refl)
  items_end_with_none text _ (end_read left ended) = λ some. absurd (some refl)
  items_end_with_none text _ (no_item left goes_on none) = λ some. absurd (some refl)
  items_end_with_none _ _ (end_refused left handed) = tt
  items_end_with_none _ _ (item_refused left goes_on handed) = tt

  behind_item : (text rest : List ℕ) (value : O) (outcome : Outcome (List O))
      → length rest < length text → IsSuffixLeft rest outcome → IsShorterLeft text (with_first value outcome)
  behind_item text rest value (success last values) shorter left = λ some.
      let not_longer = IsSuffix-length last rest left in
      omega arith
  behind_item text rest value (refused why) shorter left = tt

  items_shorter : Advances item → LeavesSuffix item → {text : List ℕ} {outcome : Outcome (List O)}
      → GivesItems item until text outcome → IsShorterLeft text outcome
  items_shorter advances leaves (ends ended) = items_end_with_none _ _ ended
  items_shorter advances leaves (round {text = text} {rest = rest} {value = value} {outcome = outcome} read then) =
      behind_item text rest value outcome (advances _ _ _ read.reads) (items-suffix item until leaves then)

  -- of items that advance at least one leaves a shorter text
  pub items_advance : Advances item → LeavesSuffix item → {text rest : List ℕ} {values : List O}
      → GivesItems item until text (success rest values) → values ≢ [] → length rest < length text
  items_advance advances leaves given some = items_shorter advances leaves given some
