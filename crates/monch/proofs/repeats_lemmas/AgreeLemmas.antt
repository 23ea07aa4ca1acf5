-- A repetition over parts that leave one rest leaves one rest, and reads so many values.
use Rattle.std.proofs.Common.{◌≡◌, ◌≢◌, ◌⊎◌, inl, inr, ℕ, suc, List, length, refl, sym, ap, subst}
use Rattle.monch.specs.core_parsers.Outcome.{Refusal, backtrack, no_memory, Outcome, success, refused, Meaning}
use Rattle.monch.specs.repeats.Repeat.{with_first, Repeats, ends, round, IsHandedOn}
use Rattle.monch.specs.repeats.Items as items
use Rattle.monch.specs.repeats.Items.{IsItem, EndsItems, nothing_left, end_read, end_refused}
use Rattle.monch.specs.repeats.Separated as separated
use Rattle.monch.specs.repeats.Separated.{IsSeparated, EndsSeparated, no_separator, separator_refused}
use Rattle.monch.specs.repeats.Agree.{Agrees, LeavesOneRest}

-- lists of one length
abbrev pub SameLength : {O : Type 0} → List O → List O → Type 0
SameLength xs ys = length xs ≡ length ys

abbrev pub AgreeOnLength : {O : Type 0} → Outcome (List O) → Outcome (List O) → Type 0
AgreeOnLength one other = Agrees SameLength one other

backtrack_is_no_memory : backtrack ≢ no_memory
backtrack_is_no_memory e = cc

-- what two outcomes of one part say
module _ {O : Type 0} (part : Meaning O) (one_rest : LeavesOneRest part) where
  same_rest : (text rest also : List ℕ) (v w : O) → part text (success rest v) → part text (success also w)
      → rest ≡ also
  same_rest text rest also v w a b = (one_rest text (success rest v) (success also w) a b).0

  refused_for_memory : (text rest : List ℕ) (v : O) (why : Refusal) → part text (success rest v)
      → part text (refused why) → why ≡ no_memory
  refused_for_memory text rest v why a b = one_rest text (success rest v) (refused why) a b

  no_backtrack : (text rest : List ℕ) (v : O) → part text (success rest v) → part text (refused backtrack) → ⊥
  no_backtrack text rest v a b = backtrack_is_no_memory (refused_for_memory text rest v backtrack a b)

  handed_for_memory : (text : List ℕ) (why : Refusal) → part text (refused backtrack) → IsHandedOn part text why
      → why ≡ no_memory
  handed_for_memory text why a handed =
      elim (one_rest text (refused backtrack) (refused why) a handed.refuses) [
        | inl same ↦ absurd (handed.settled (sym same))
        | inr (inl none) ↦ absurd (backtrack_is_no_memory none)
        | inr (inr none) ↦ none
      ]

  both_handed : (text : List ℕ) (why other : Refusal) → IsHandedOn part text why → IsHandedOn part text other
      → (why ≡ other) ⊎ ((why ≡ no_memory) ⊎ (other ≡ no_memory))
  both_handed text why other a b = one_rest text (refused why) (refused other) a.refuses b.refuses

module _ {O : Type 0} where
  agrees_at_no_memory : (one other : Outcome (List O)) → one ≡ refused no_memory → AgreeOnLength one other
  agrees_at_no_memory (success rest values) other is = absurd (cc)
  agrees_at_no_memory (refused why) (success rest values) is = cc
  agrees_at_no_memory (refused why) (refused other) is = let none : why ≡ no_memory = cc in inr (inl none)

  agrees_with_no_memory : (one other : Outcome (List O)) → other ≡ refused no_memory → AgreeOnLength one other
  agrees_with_no_memory one (success rest values) is = absurd (cc)
  agrees_with_no_memory (success rest values) (refused why) is = cc
  agrees_with_no_memory (refused why) (refused other) is = let none : other ≡ no_memory = cc in inr (inr none)

  agrees_behind : (v w : O) (one other : Outcome (List O)) → AgreeOnLength one other
      → AgreeOnLength (with_first v one) (with_first w other)
  agrees_behind v w (success rest values) (success also others) (e, same) = (e, ap (λ n. suc n) same)
  agrees_behind v w (success rest values) (refused why) agree = agree
  agrees_behind v w (refused why) (success rest values) agree = agree
  agrees_behind v w (refused why) (refused other) agree = agree

-- rounds that leave one rest, and ends that agree and exclude a round unless memory runs out
module _ {O : Type 0} (Round : List ℕ → O → List ℕ → Type 0) (End : Meaning (List O))
    (one_round : (text rest also : List ℕ) (v w : O) → Round text v rest → Round text w also → rest ≡ also)
    (one_end : (text : List ℕ) (one other : Outcome (List O)) → End text one → End text other → AgreeOnLength one other)
    (no_end : (text rest : List ℕ) (v : O) (outcome : Outcome (List O)) → Round text v rest → End text outcome
    → outcome ≡ refused no_memory) where
  pub Repeats-once : {text : List ℕ} {one other : Outcome (List O)}
      → Repeats Round End text one → Repeats Round End text other → AgreeOnLength one other
  Repeats-once (ends a) (ends b) = one_end _ _ _ a b
  Repeats-once (ends a) (round b then) = agrees_at_no_memory _ _ (no_end _ _ _ _ b a)
  Repeats-once (round a then) (ends b) = agrees_with_no_memory _ _ (no_end _ _ _ _ a b)
  Repeats-once (round {text = text} {rest = rest} {value = v} {outcome = one} a then)
      (round {rest = also} {value = w} {outcome = other} b after) =
      let here = subst (λ x. Repeats Round End x other) (sym (one_round text rest also v w a b)) after in
      agrees_behind v w one other (Repeats-once then here)

module _ {O P : Type 0} (item : Meaning O) (until : Meaning P) (one_item : LeavesOneRest item)
    (one_until : LeavesOneRest until) where
  one_items_end : (text : List ℕ) (one other : Outcome (List O)) → EndsItems item until text one
      → EndsItems item until text other → AgreeOnLength one other
  one_items_end _ _ _ nothing_left nothing_left = (refl, refl)
  one_items_end _ _ _ nothing_left (end_read left _) = absurd (left refl)
  one_items_end _ _ _ nothing_left (items.no_item left _ _) = absurd (left refl)
  one_items_end _ _ _ nothing_left (end_refused left _) = absurd (left refl)
  one_items_end _ _ _ nothing_left (items.item_refused left _ _) = absurd (left refl)
  one_items_end _ _ _ (end_read left _) nothing_left = absurd (left refl)
  one_items_end _ _ _ (end_read _ _) (end_read _ _) = (refl, refl)
  one_items_end _ _ _ (end_read _ _) (items.no_item _ _ _) = (refl, refl)
  one_items_end _ _ _ (end_read _ a) (end_refused _ b) = refused_for_memory until one_until _ _ _ _ a b.refuses
  one_items_end _ _ _ (end_read _ a) (items.item_refused _ b _) = absurd (no_backtrack until one_until _ _ _ a b)
  one_items_end _ _ _ (items.no_item left _ _) nothing_left = absurd (left refl)
  one_items_end _ _ _ (items.no_item _ _ _) (end_read _ _) = (refl, refl)
  one_items_end _ _ _ (items.no_item _ _ _) (items.no_item _ _ _) = (refl, refl)
  one_items_end _ _ _ (items.no_item _ a _) (end_refused _ b) = handed_for_memory until one_until _ _ a b
  one_items_end _ _ _ (items.no_item _ _ a) (items.item_refused _ _ b) = handed_for_memory item one_item _ _ a b
  one_items_end _ _ _ (end_refused left _) nothing_left = absurd (left refl)
  one_items_end _ _ _ (end_refused _ a) (end_read _ b) = refused_for_memory until one_until _ _ _ _ b a.refuses
  one_items_end _ _ _ (end_refused _ a) (items.no_item _ b _) = handed_for_memory until one_until _ _ b a
  one_items_end _ _ _ (end_refused _ a) (end_refused _ b) = both_handed until one_until _ _ _ a b
  one_items_end _ _ _ (end_refused _ a) (items.item_refused _ b _) =
      inr (inl (handed_for_memory until one_until _ _ b a))
  one_items_end _ _ _ (items.item_refused left _ _) nothing_left = absurd (left refl)
  one_items_end _ _ _ (items.item_refused _ a _) (end_read _ b) = absurd (no_backtrack until one_until _ _ _ b a)
  one_items_end _ _ _ (items.item_refused _ _ a) (items.no_item _ _ b) = handed_for_memory item one_item _ _ b a
  one_items_end _ _ _ (items.item_refused _ a _) (end_refused _ b) =
      inr (inr (handed_for_memory until one_until _ _ a b))
  one_items_end _ _ _ (items.item_refused _ _ a) (items.item_refused _ _ b) = both_handed item one_item _ _ _ a b

  no_items_end : (text rest : List ℕ) (v : O) (outcome : Outcome (List O)) → IsItem item until text v rest
      → EndsItems item until text outcome
      → outcome ≡ refused no_memory
  no_items_end _ _ _ _ read nothing_left = absurd (read.left refl)
  no_items_end _ _ _ _ read (end_read _ b) = absurd (no_backtrack until one_until _ _ _ b read.goes_on)
  no_items_end _ _ _ _ read (items.no_item _ _ b) = absurd (no_backtrack item one_item _ _ _ read.reads b)
  no_items_end _ _ _ _ read (end_refused _ b) =
      ap (λ why. refused why) (handed_for_memory until one_until _ _ read.goes_on b)
  no_items_end _ _ _ _ read (items.item_refused _ _ b) =
      ap (λ why. refused why) (refused_for_memory item one_item _ _ _ _ read.reads b.refuses)

  pub GivesItems-once : {text : List ℕ} {one other : Outcome (List O)}
      → Repeats (IsItem item until) (EndsItems item until) text one
      → Repeats (IsItem item until) (EndsItems item until) text other → AgreeOnLength one other
  GivesItems-once =
      Repeats-once (IsItem item until) (EndsItems item until)
      (λ text rest also v w a b. same_rest item one_item text rest also v w a.reads b.reads) one_items_end no_items_end

module _ {O P : Type 0} (item : Meaning O) (separator : Meaning P) (one_item : LeavesOneRest item)
    (one_separator : LeavesOneRest separator) where
  -- an item was read up to two places, which are one
  at_one_mid : (Q : List ℕ → Type 0) (text mid also : List ℕ) (v w : O) → item text (success mid v)
      → item text (success also w) → Q also → Q mid
  at_one_mid Q text mid also v w a b here = subst Q (sym (same_rest item one_item text mid also v w a b)) here

  one_separated_end : (text : List ℕ) (one other : Outcome (List O))
      → EndsSeparated item separator text one → EndsSeparated item separator text other → AgreeOnLength one other
  one_separated_end _ _ _ separated.nothing_left separated.nothing_left = (refl, refl)
  one_separated_end _ _ _ separated.nothing_left (separated.no_item left _) = absurd (left refl)
  one_separated_end _ _ _ separated.nothing_left (no_separator left _ _) = absurd (left refl)
  one_separated_end _ _ _ separated.nothing_left (separated.item_refused left _) = absurd (left refl)
  one_separated_end _ _ _ separated.nothing_left (separator_refused left _ _) = absurd (left refl)
  one_separated_end _ _ _ (separated.no_item left _) separated.nothing_left = absurd (left refl)
  one_separated_end _ _ _ (separated.no_item _ _) (separated.no_item _ _) = (refl, refl)
  one_separated_end _ _ _ (separated.no_item _ a) (no_separator _ b _) = absurd (no_backtrack item one_item _ _ _ b a)
  one_separated_end _ _ _ (separated.no_item _ a) (separated.item_refused _ b) = handed_for_memory item one_item _ _ a b
  one_separated_end _ _ _ (separated.no_item _ a) (separator_refused _ b _) =
      absurd (no_backtrack item one_item _ _ _ b a)
  one_separated_end _ _ _ (no_separator left _ _) separated.nothing_left = absurd (left refl)
  one_separated_end _ _ _ (no_separator _ a _) (separated.no_item _ b) = absurd (no_backtrack item one_item _ _ _ a b)
  one_separated_end _ _ _ (no_separator _ a _) (no_separator _ b _) = (same_rest item one_item _ _ _ _ _ a b, refl)
  one_separated_end _ _ _ (no_separator _ a _) (separated.item_refused _ b) =
      refused_for_memory item one_item _ _ _ _ a b.refuses
  one_separated_end _ _ _ (no_separator {rest = mid} {value = v} _ a none)
      (separator_refused {text = text} {rest = also} {value = w} {why = why} _ b handed) =
      handed_for_memory separator one_separator mid why none
      (at_one_mid (λ x. IsHandedOn separator x why) text mid also v w a b handed)
  one_separated_end _ _ _ (separated.item_refused left _) separated.nothing_left = absurd (left refl)
  one_separated_end _ _ _ (separated.item_refused _ a) (separated.no_item _ b) = handed_for_memory item one_item _ _ b a
  one_separated_end _ _ _ (separated.item_refused _ a) (no_separator _ b _) =
      refused_for_memory item one_item _ _ _ _ b a.refuses
  one_separated_end _ _ _ (separated.item_refused _ a) (separated.item_refused _ b) =
      both_handed item one_item _ _ _ a b
  one_separated_end _ _ _ (separated.item_refused _ a) (separator_refused _ b _) =
      inr (inl (refused_for_memory item one_item _ _ _ _ b a.refuses))
  one_separated_end _ _ _ (separator_refused left _ _) separated.nothing_left = absurd (left refl)
  one_separated_end _ _ _ (separator_refused _ a _) (separated.no_item _ b) =
      absurd (no_backtrack item one_item _ _ _ a b)
  one_separated_end _ _ _ (separator_refused {rest = mid} {value = v} {why = why} _ a handed)
      (no_separator {text = text} {rest = also} {value = w} _ b none) =
      handed_for_memory separator one_separator mid why
      (at_one_mid (λ x. separator x (refused backtrack)) text mid also v w a b none) handed
  one_separated_end _ _ _ (separator_refused _ a _) (separated.item_refused _ b) =
      inr (inr (refused_for_memory item one_item _ _ _ _ a b.refuses))
  one_separated_end _ _ _ (separator_refused {rest = mid} {value = v} {why = why} _ a handed)
      (separator_refused {text = text} {rest = also} {value = w} {why = other} _ b behind) =
      both_handed separator one_separator mid why other handed
      (at_one_mid (λ x. IsHandedOn separator x other) text mid also v w a b behind)

  no_separated_end : (text rest : List ℕ) (v : O) (outcome : Outcome (List O))
      → IsSeparated item separator text v rest → EndsSeparated item separator text outcome → outcome ≡ refused no_memory
  no_separated_end _ _ _ _ read separated.nothing_left = absurd (read.left refl)
  no_separated_end _ _ _ _ read (separated.no_item _ b) = absurd (no_backtrack item one_item _ _ _ read.reads b)
  no_separated_end _ rest v _ read (no_separator {text = text} {rest = also} {value = w} _ b none) =
      absurd (no_backtrack separator one_separator read.mid rest read.passed read.separates
      (at_one_mid (λ x. separator x (refused backtrack)) text read.mid also v w read.reads b none))
  no_separated_end _ _ _ _ read (separated.item_refused _ b) =
      ap (λ why. refused why) (refused_for_memory item one_item _ _ _ _ read.reads b.refuses)
  no_separated_end _ rest v _ read (separator_refused {text = text} {rest = also} {value = w} {why = why} _ b handed) =
      ap (λ x. refused x) (refused_for_memory separator one_separator read.mid rest read.passed why read.separates
      (at_one_mid (λ x. IsHandedOn separator x why) text read.mid also v w read.reads b handed).refuses)

  one_separated : (text rest also : List ℕ) (v w : O) → IsSeparated item separator text v rest
      → IsSeparated item separator text w also → rest ≡ also
  one_separated text rest also v w a b =
      same_rest separator one_separator a.mid rest also a.passed b.passed a.separates
      (at_one_mid (λ x. separator x (success also b.passed)) text a.mid b.mid v w a.reads b.reads b.separates)

  pub GivesSeparated-once : {text : List ℕ} {one other : Outcome (List O)}
      → Repeats (IsSeparated item separator) (EndsSeparated item separator) text one
      → Repeats (IsSeparated item separator) (EndsSeparated item separator) text other → AgreeOnLength one other
  GivesSeparated-once =
      Repeats-once (IsSeparated item separator) (EndsSeparated item separator) one_separated one_separated_end
      no_separated_end
