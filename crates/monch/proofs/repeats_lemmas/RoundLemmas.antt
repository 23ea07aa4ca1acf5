-- What the parts of one round answer, as rounds and ends.
use Rattle.std.specs.Borrow.{Bor}
use Rattle.std.specs.Prelude.{IfOk, IfErr, MatchOption, ◌==◌}
use Rattle.std.proofs.Common.{◌≡◌, ◌≢◌, ℕ, Bool, true, false, List, [], ◌∷◌, length, Option, Some, None, Result, Ok, Err, rules}
use Rattle.monch.specs.declared.core_parsers.error.ParseError.{ParseError}
use Rattle.monch.specs.core_parsers.Outcome.{Refusal, backtrack, success, refused, Meaning}
use Rattle.monch.specs.core_parsers.Seen.{refusal_of}
use Rattle.monch.specs.repeats.Repeat.{IsHandedOn}
use Rattle.monch.specs.repeats.Separated as separated
use Rattle.monch.specs.repeats.Separated.{EndsSeparated, separator_refused}
use Rattle.monch.specs.repeats.Items.{IsItem, EndsItems, nothing_left, end_read, no_item, end_refused, item_refused}

-- a text of length zero is empty
pub empty_is : (text : List ℕ) (b : Bool) → b ≡ (length text == 0) → b ≡ true → text ≡ []
empty_is [] b e t = search rules
empty_is (x ∷ xs) b e t = absurd (search rules)

pub not_empty : (text : List ℕ) (b : Bool) → b ≡ (length text == 0) → b ≡ false → text ≢ []
not_empty text b e f empty = search rules

module _ {O P : Type 0} (item : Meaning O) (until : Meaning P) where
  pub ends_at_nothing : (text : List ℕ) → text ≡ [] → EndsItems item until text (success text [])
  ends_at_nothing [] e = nothing_left
  ends_at_nothing (x ∷ xs) e = absurd (cc)

  -- what an attempt at the end has read ends the items
  pub end_from_until : (text : List ℕ) → text ≢ [] → (read : Option (Bor (List ℕ) × P)) {pair : Bor (List ℕ) × P}
      → read ≡ Some pair
      → MatchOption read (until text (refused backtrack)) (λ pair. until text (success pair.0.now pair.1))
      → EndsItems item until text (success text [])
  end_from_until text left None is none = absurd (cc)
  end_from_until text left (Some pair) is ended = end_read left ended

  pub end_from_refusal : {text : List ℕ} {why : Refusal} → text ≢ [] → IsHandedOn until text why
      → EndsItems item until text (refused why)
  end_from_refusal left handed = end_refused left handed

  -- what an attempt at the item reads, where the end has backtracked
  pub round_from_item : (text : List ℕ) → text ≢ [] → until text (refused backtrack)
      → (read : Result (Option (Bor (List ℕ) × O)) ParseError)
      → IfOk read (λ r. MatchOption r (item text (refused backtrack)) (λ pair. item text (success pair.0.now pair.1)))
      → IfOk read (λ r. MatchOption r (EndsItems item until text (success text []))
      (λ pair. IsItem item until text pair.1 pair.0.now))
  round_from_item text left goes_on (Ok None) none = no_item left goes_on none
  round_from_item text left goes_on (Ok (Some pair)) some = record { left = left; goes_on = goes_on; reads = some }
  round_from_item text left goes_on (Err e) none = tt

  -- the item's refusal, where the end has backtracked
  pub end_from_item : (text : List ℕ) → text ≢ [] → until text (refused backtrack)
      → (read : Result (Option (Bor (List ℕ) × O)) ParseError)
      → IfErr read (λ e. IsHandedOn item text (refusal_of e))
      → IfErr read (λ e. EndsItems item until text (refused (refusal_of e)))
  end_from_item text left goes_on (Ok read) ok = tt
  end_from_item text left goes_on (Err e) refusal = item_refused left goes_on refusal

module _ {O P : Type 0} (item : Meaning O) (separator : Meaning P) where
  pub separated_at_nothing : (text : List ℕ) → text ≡ [] → EndsSeparated item separator text (success text [])
  separated_at_nothing [] e = separated.nothing_left
  separated_at_nothing (x ∷ xs) e = absurd (cc)

  pub separated_item_refused : {text : List ℕ} {why : Refusal} → text ≢ [] → IsHandedOn item text why
      → EndsSeparated item separator text (refused why)
  separated_item_refused left handed = separated.item_refused left handed

  pub separated_refused : {text rest : List ℕ} {value : O} {why : Refusal}
      → text ≢ [] → item text (success rest value) → IsHandedOn separator rest why
      → EndsSeparated item separator text (refused why)
  separated_refused left read handed = separator_refused left read handed
