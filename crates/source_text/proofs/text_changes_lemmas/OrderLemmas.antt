-- A list has one stable order by a test.
use Rattle.std.proofs.Common.{◌≡◌, ℕ, ◌+◌, ◌-◌, ◌<◌, ◌≤◌, Bool, true, false, not, ◌&&◌, List, [], ◌∷◌, length, drop, get_or, cond, refl, sym, ◌∙◌, ap, subst, arith, ◌⊎◌, inl, inr}
use Rattle.std.specs.Cmp.{IsStrictWeakOrder}
use Rattle.std.proofs.lemmas.Bool.{true≢false}
use Rattle.std.specs.List.{filter}
use Rattle.std.specs.List.Sorted.{IsSortedBy, ties}
use Rattle.std.proofs.lemmas.Grind.{get_or_tail}
use Rattle.std.proofs.lemmas.List.Sorted.{sorted_far}

is_or_not : (b : Bool) → (b ≡ true) ⊎ (b ≡ false)
is_or_not true = inl refl
is_or_not false = inr refl

-- an element ties with itself
not_before_itself : {X : Type 0} (lt : X → X → Bool) → IsStrictWeakOrder lt → (x : X) → lt x x ≡ false
not_before_itself lt order x = elim (is_or_not (lt x x)) [ inl is ↦ order.one_way x x is | inr not_so ↦ not_so ]

ties_both : {X : Type 0} (lt : X → X → Bool) (x y : X) → lt x y ≡ false → lt y x ≡ false → ties lt x y ≡ true
ties_both lt x y right left = ap (λ (b : Bool). not b && not (lt y x)) right ∙ ap not left

ties_not : {X : Type 0} (lt : X → X → Bool) (x y : X) → lt x y ≡ true → ties lt x y ≡ false
ties_not lt x y before = ap (λ (b : Bool). not b && not (lt y x)) before

-- ---- the list behind its first element
at_next : {X : Type 0} (x : X) (xs : List X) (k : ℕ) (d : X) → get_or (x ∷ xs) (k + 1) d ≡ get_or xs k d
at_next x xs k d =
    let back : k + 1 - 1 ≡ k = omega arith in
    get_or_tail x xs (k + 1) d (omega arith) ∙ ap (λ (i : ℕ). get_or xs i d) back

sorted_rest : {X : Type 0} (lt : X → X → Bool) (x : X) (xs : List X) → IsSortedBy lt (x ∷ xs) → IsSortedBy lt xs
sorted_rest lt x xs sorted k d low inside =
    ap (λ y. lt y (get_or xs k d)) (sym (at_next x xs (k + 1) d))
    ∙ ap (λ y. lt (get_or (x ∷ xs) (k + 1 + 1) d) y) (sym (at_next x xs k d))
    ∙ sorted (k + 1) d (omega arith) (omega (arith, inside))

-- where no element passes, none is kept
none_kept : {X : Type 0} (p : X → Bool) (xs : List X) → ((k : ℕ) (d : X) → k < length xs → p (get_or xs k d) ≡ false)
    → filter p xs ≡ []
none_kept p [] none = refl
none_kept p (x ∷ xs) none =
    ap (λ (b : Bool). cond b (x ∷ filter p xs) (filter p xs)) (none 0 x (omega arith))
    ∙ none_kept p xs (λ k d inside. ap p (sym (at_next x xs k d)) ∙ none (k + 1) d (omega (arith, inside)))

first_kept : {X : Type 0} (lt : X → X → Bool) (x y : X) (xs : List X) → ties lt x y ≡ true
    → filter (ties lt x) (y ∷ xs) ≡ y ∷ filter (ties lt x) xs
first_kept lt x y xs tie = ap (λ (b : Bool). cond b (y ∷ filter (ties lt x) xs) (filter (ties lt x) xs)) tie

rest_kept : {X : Type 0} (b : Bool) (x : X) (xs ys : List X) → cond b (x ∷ xs) xs ≡ cond b (x ∷ ys) ys → xs ≡ ys
rest_kept true x xs ys same = ap (drop 1) same
rest_kept false x xs ys same = same

filled : {X : Type 0} → List X → Bool
filled [] = false
filled (x ∷ xs) = true

-- a list with an element is not empty
not_empty : {X : Type 0} (x : X) (xs : List X) → x ∷ xs ≡ [] → ⊥
unfolding filled
not_empty x xs e = true≢false (ap filled e)

-- ---- the first element
-- an element that stands before the first one of a sorted list ties with none of it
none_ties : {X : Type 0} (lt : X → X → Bool) → IsStrictWeakOrder lt → (y z : X) (zs : List X) → IsSortedBy lt (z ∷ zs)
    → lt y z ≡ true
    → (k : ℕ) (d : X) → k < length (z ∷ zs) → ties lt y (get_or (z ∷ zs) k d) ≡ false
none_ties lt order y z zs sorted before k d inside =
    elim (is_or_not (lt y (get_or (z ∷ zs) k d))) [
      | inl first ↦ ties_not lt y (get_or (z ∷ zs) k d) first
      | inr late ↦ absurd (true≢false
          (sym before ∙ order.chain y (get_or (z ∷ zs) k d) z late
          (sorted_far lt order (z ∷ zs) sorted 0 k d (omega arith) inside)))
    ]

-- where both lists have the same elements of each tie, the first of the one stands not before that of the other
not_before : {X : Type 0} (lt : X → X → Bool) → IsStrictWeakOrder lt → (y z : X) (ys zs : List X)
    → IsSortedBy lt (z ∷ zs)
    → filter (ties lt y) (y ∷ ys) ≡ filter (ties lt y) (z ∷ zs) → lt y z ≡ false
not_before {X} lt order y z ys zs sorted same =
    let itself : lt y y ≡ false = not_before_itself lt order y in
    let one : filter (ties lt y) (y ∷ ys) ≡ y ∷ filter (ties lt y) ys =
    first_kept lt y y ys (ties_both lt y y itself itself) in
    elim (is_or_not (lt y z)) [
      | inr not_so ↦ not_so
      | inl before ↦ absurd
          (not_empty y (filter (ties lt y) ys)
          (sym one ∙ same ∙ none_kept (ties lt y) (z ∷ zs) (none_ties lt order y z zs sorted before)))
    ]

-- the one first element is the other
same_first : {X : Type 0} (lt : X → X → Bool) → IsStrictWeakOrder lt → (y z : X) (ys zs : List X)
    → IsSortedBy lt (y ∷ ys) → IsSortedBy lt (z ∷ zs)
    → ((x : X) → filter (ties lt x) (y ∷ ys) ≡ filter (ties lt x) (z ∷ zs)) → y ≡ z
same_first lt order y z ys zs ups downs same =
    let right : lt y z ≡ false = not_before lt order y z ys zs downs (same y) in
    let left : lt z y ≡ false = not_before lt order z y zs ys ups (sym (same z)) in
    let itself : lt y y ≡ false = not_before_itself lt order y in
    let both : y ∷ filter (ties lt y) ys ≡ z ∷ filter (ties lt y) zs =
    sym (first_kept lt y y ys (ties_both lt y y itself itself)) ∙ same y
    ∙ first_kept lt y z zs (ties_both lt y z right left) in
    ap (λ list. get_or list 0 y) both

-- two sorted lists with the same elements of each tie, in the same order, are one
pub one_sorted : {X : Type 0} (lt : X → X → Bool) → IsStrictWeakOrder lt → (ys zs : List X)
    → IsSortedBy lt ys → IsSortedBy lt zs → ((x : X) → filter (ties lt x) ys ≡ filter (ties lt x) zs) → ys ≡ zs
one_sorted lt order [] [] ups downs same = refl
one_sorted lt order [] (z ∷ zs) ups downs same =
    let itself = not_before_itself lt order z in
    absurd (not_empty z (filter (ties lt z) zs)
    (sym (first_kept lt z z zs (ties_both lt z z itself itself)) ∙ sym (same z)))
one_sorted lt order (y ∷ ys) [] ups downs same =
    let itself = not_before_itself lt order y in
    absurd (not_empty y (filter (ties lt y) ys) (sym (first_kept lt y y ys (ties_both lt y y itself itself)) ∙ same y))
one_sorted {X} lt order (y ∷ ys) (z ∷ zs) ups downs same =
    let first : y ≡ z = same_first lt order y z ys zs ups downs same in
    let behind : (x : X) → filter (ties lt x) ys ≡ filter (ties lt x) zs =
    λ x. rest_kept (ties lt x y) y (filter (ties lt x) ys) (filter (ties lt x) zs)
    (same x ∙ ap (λ w. filter (ties lt x) (w ∷ zs)) (sym first)) in
    let rest : ys ≡ zs = one_sorted lt order ys zs (sorted_rest lt y ys ups) (sorted_rest lt z zs downs) behind in
    ap (λ w. w ∷ ys) first ∙ ap (λ list. z ∷ list) rest
