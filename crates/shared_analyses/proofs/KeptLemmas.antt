-- What a slot keeps.
use Rattle.std.proofs.Common.{◌≡◌, ◌<◌, ℕ, zero, suc, true, false, List, [], ◌∷◌, length, slice_get, get_or, sym, ap, ◌∙◌, Option, Some, None, Result, arith}
use Rattle.std.specs.Prelude.{◌↔◌, Bool, IsTrue, bytes_eq, IfSome, IfOk, IsOkAnd, Ok, Err}
use Rattle.std.specs.declared.alloc.AllocError.{AllocError}
use Rattle.once_cell.specs.Once.{Agrees}
use Rattle.std.specs.Cmp.Lexicographic.{nat_list_eq_equiv, same_text}
use Rattle.url.specs.Parts.{Parts, serialize}
use Rattle.graph_entry.specs.declared.answer.LoadAnswer.{LoadAnswer}
use Rattle.graph_entry.specs.declared.entry.Entry.{Entry}
use Rattle.graph_entry.specs.Specifier.{text_of}
use Rattle.graph_entry.specs.Analysed.{Analysed}
use Rattle.shared_analyses.specs.declared.kept.Kept.{Kept}
use Rattle.shared_analyses.specs.declared.shared.SharedEntry.{SharedEntry}
use Rattle.shared_analyses.specs.Shared.{Pair}
use Rattle.shared_analyses.specs.declared.shared.SharedEntry.TheVariants as vShared
use Rattle.shared_analyses.specs.Answered.{IsKeptAs, IsMade, IsPair, Tells, Learns}

-- copies mean what their sources mean
pub kept_right : (s copy : Parts) (a b c : LoadAnswer) (made : Entry) → copy ≡ s → b ≡ a → c ≡ a
    → Analysed (text_of s) (Some b) made → ∥ Analysed (text_of copy) (Some c) made ∥₁
kept_right s copy a b c made h g k is = rw (h, k, ← g) (∣ is ∣₁)

-- what the kept pair means, its equal means
pub shown_right : (k s : Parts) (b a : LoadAnswer) (made : Entry) → bytes_eq (serialize k) (serialize s) ≡ true
    → b ≡ a → ∥ Analysed (text_of k) (Some b) made ∥₁ → ∥ Analysed (text_of s) (Some a) made ∥₁
unfolding text_of
shown_right k s b a made h g is =
    let same : serialize k ≡ serialize s = same_text (serialize k) (serialize s) (sym h) in rw (← same, ← g) is

-- a specifier or an answer that is another one makes another pair
pub other_specifier : (k : Kept) (s : Parts) (a : LoadAnswer) → bytes_eq (serialize k.specifier) (serialize s) ≡ false
    → IsPair k (s, a) → ⊥
unfolding text_of
other_specifier k s a h is =
    let yes : bytes_eq (serialize k.specifier) (serialize s) ≡ true =
    ap (λ (u : List ℕ). bytes_eq (serialize k.specifier) u) (sym is.0) ∙ nat_list_eq_equiv.refl (serialize k.specifier)
    in cc

pub other_answer : (k : Kept) (s : Parts) (a : LoadAnswer) (same : Bool) → (IsTrue same ↔ (k.answer ≡ a)) → same ≡ false
    → IsPair k (s, a) → ⊥
other_answer k s a same is differs pair = let yes : same ≡ true = is.1 pair.1 in cc

-- else it is the same pair
pub same_pair : (k : Kept) (s : Parts) (a : LoadAnswer) → bytes_eq (serialize k.specifier) (serialize s) ≡ true
    → k.answer ≡ a → IsPair k (s, a)
unfolding text_of
same_pair k s a h same = (same_text (serialize k.specifier) (serialize s) (sym h), same)

-- where a call made its answer, the slot keeps another pair
pub told_made : (k : Kept) (p : Pair) (r : Result SharedEntry AllocError) → ¬ IsPair k p → IfOk r IsMade
    → IfOk r (Tells p k)
told_made k p (Ok (vShared.Kept shown)) other made = absurd made
told_made k p (Ok (vShared.Own entry)) other made = other
told_made k p (Err e) other made = tt

pub ruleset kept_lemmas = (shown_right, other_specifier, same_pair)

-- an entry of an answer and of its copy
pub own_right : (s : Parts) (a b : LoadAnswer) (made : Entry) → b ≡ a → Analysed (text_of s) (Some b) made
    → ∥ Analysed (text_of s) (Some a) made ∥₁
own_right s a b made h is = rw (← h) (∣ is ∣₁)

get_some : {A : Type 0} (xs : List A) (i : ℕ) (x : A) → i < length xs → x ≡ get_or xs i x → slice_get xs i ≡ Some x
get_some [] i x within is = absurd (omega arith)
get_some (y ∷ xs) zero x within is = ap Some (sym is)
get_some (y ∷ xs) (suc i) x within is = get_some xs i x (omega arith) is

-- what a note knows is answered again
pub kept_again : (known : Option Kept) (answers : List Pair) (i : ℕ) (p : Pair) (k : Kept)
    (r : Result SharedEntry AllocError)
    → i < length answers → p ≡ get_or answers i p → Agrees known k
    → (IsPair k p → IsOkAnd r (IsKeptAs k.entry))
    → IfSome known (λ (y : Kept). IfSome (slice_get answers i) (λ (q : Pair). IsPair y q → IsOkAnd r (IsKeptAs y.entry)))
kept_again None answers i p k r within is agrees h = tt
kept_again (Some y) answers i p k r within is agrees h = rw (get_some answers i p within is, agrees) h

-- what the slot keeps is learnt
pub learnt : (known : Option Kept) (answers : List Pair) (i : ℕ) (p : Pair) (k : Kept) (r : Result SharedEntry AllocError)
    → i < length answers → p ≡ get_or answers i p → known ≡ Some k → IfOk r (Tells p k)
    → IfOk r (λ a. IfSome (slice_get answers i) (λ q. Learns q known a))
learnt known answers i p k r within is told h = rw (get_some answers i p within is, told) h
