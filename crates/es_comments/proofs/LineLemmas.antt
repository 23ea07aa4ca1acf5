-- Line ends between places, step by step.
use Rattle.std.proofs.Common.{◌≡◌, ℕ, zero, suc, ◌+◌, ◌-◌, ◌<◌, ◌≤◌, max, min, Bool, true, false, ◌||◌, List, [], ◌∷◌, length, take, drop, refl, sym, ap, ◌∙◌, arith, length-drop, ◌⊎◌, inl, inr}
use Rattle.std.proofs.lemmas.List.{drop-drop}
use Rattle.es_comments.specs.Standing.{begins_line_end, line_within, line_between}

or_false : (a : Bool) → (a || false) ≡ a
or_false true = refl
or_false false = refl

or_true : (a : Bool) → (a || true) ≡ true
or_true true = refl
or_true false = refl

or_assoc : (a b c : Bool) → ((a || b) || c) ≡ (a || (b || c))
or_assoc true b c = refl
or_assoc false b c = refl

-- none stands among the bytes of no text
within_none : (n : ℕ) → line_within n [] ≡ false
unfolding line_within
within_none zero = refl
within_none (suc n) = refl

-- so many bytes, and then more
within_split : (m n : ℕ) (x : List ℕ) → line_within (m + n) x ≡ (line_within m x || line_within n (drop m x))
unfolding line_within
within_split zero n x = rw (zero_add n) refl
  where
    zero_add : (k : ℕ) → 0 + k ≡ k
    zero_add k = omega arith
within_split (suc m) n [] = within_none (suc m + n) ∙ sym (within_none n)
within_split (suc m) n (b ∷ x) =
    let e : suc m + n ≡ suc (m + n) = omega arith in
    rw e
    (ap (λ t. begins_line_end (b ∷ x) || t) (within_split m n x)
    ∙ sym (or_assoc (begins_line_end (b ∷ x)) (line_within m x) (line_within n (drop m x))))

-- one byte more
within_one : (x : List ℕ) → line_within 1 x ≡ begins_line_end x
unfolding line_within
within_one [] = refl
within_one (b ∷ x) = or_false (begins_line_end (b ∷ x))

-- no line end begins past the text
within_all : (n : ℕ) (x : List ℕ) → length x ≤ n → line_within n x ≡ line_within (length x) x
within_all n x le =
    let m : ℕ = n - length x in
    let e : n ≡ length x + m = omega arith in
    let gone : drop (length x) x ≡ [] = drop_all x in
    rw e (within_split (length x) m x ∙ rw gone (rw (within_none m) (or_false (line_within (length x) x))))
  where
    drop_all : (y : List ℕ) → drop (length y) y ≡ []
    drop_all [] = refl
    drop_all (b ∷ y) = drop_all y

-- between places, and then up to a later one
pub between_split : (x : List ℕ) (a b c : ℕ) → a ≤ b → b ≤ c
    → line_between x a c ≡ (line_between x a b || line_between x b c)
between_split x a b c l m =
    let e : c - a ≡ (b - a) + (c - b) = omega arith in
    let f : a + (b - a) ≡ b = omega arith in
    rw e (within_split (b - a) (c - b) (drop a x) ∙ rw (drop-drop (b - a) a x) (rw f refl))

pub between_none : (x : List ℕ) (a b : ℕ) → b ≤ a → line_between x a b ≡ false
unfolding line_within
between_none x a b l = let e : b - a ≡ 0 = omega arith in rw e refl

pub between_one : (x : List ℕ) (a : ℕ) → line_between x a (a + 1) ≡ begins_line_end (drop a x)
between_one x a = let e : (a + 1) - a ≡ 1 = omega arith in rw e (within_one (drop a x))

-- a line end at a place between them
pub between_here : (x : List ℕ) (a k b : ℕ) → a ≤ k → k < b → begins_line_end (drop k x) ≡ true
    → line_between x a b ≡ true
between_here x a k b l m e =
    between_split x a k b l (omega arith)
    ∙ rw (between_split x k (k + 1) b (omega arith) (omega arith))
    (rw (between_one x k) (rw e (or_true (line_between x a k))))

-- none up to a place, and none there
pub between_more : (x : List ℕ) (a k : ℕ) → a ≤ k → line_between x a k ≡ false → begins_line_end (drop k x) ≡ false
    → line_between x a (k + 1) ≡ false
between_more x a k l e f = between_split x a k (k + 1) l (omega arith) ∙ rw (between_one x k) (rw e f)

-- none up to the text's end
pub between_end : (x : List ℕ) (a b : ℕ) → line_between x a (min b (length x)) ≡ false → line_between x a b ≡ false
between_end x a b e = by_cases (lt_or_le b (length x))
  where
    lt_or_le : (m n : ℕ) → (m < n) ⊎ (n ≤ m)
    lt_or_le m n = grind arith

    by_cases : (b < length x) ⊎ (length x ≤ b) → line_between x a b ≡ false
    by_cases (inl l) = let f : min b (length x) ≡ b = omega arith in rw f at e
    by_cases (inr l) =
        let f : min b (length x) ≡ length x = omega arith in
        let g : line_between x a (length x) ≡ false = rw f at e in
        let d : length (drop a x) ≡ length x - a = length-drop a x in
        let n : length (drop a x) ≤ b - a = omega arith in
        within_all (b - a) (drop a x) n ∙ rw d g

-- behind a token's end: up to a place, and on to a later one
pub between_since : (x : List ℕ) (end place upto : ℕ) → place ≤ upto
    → line_between x end upto ≡ (line_between x end place || line_between x (max end place) upto)
between_since x end place upto l = by_cases (lt_or_le end place)
  where
    lt_or_le : (m n : ℕ) → (m < n) ⊎ (n ≤ m)
    lt_or_le m n = grind arith

    by_cases : (end < place) ⊎ (place ≤ end)
        → line_between x end upto ≡ (line_between x end place || line_between x (max end place) upto)
    by_cases (inl m) =
        let f : max end place ≡ place = omega arith in rw f (between_split x end place upto (omega arith) l)
    by_cases (inr m) =
        let f : max end place ≡ end = omega arith in rw f (rw (between_none x end place m) refl)

-- none up to where a loop ended
pub between_upto : (x : List ℕ) (a k e : ℕ) → line_between x a k ≡ false → e ≤ k → (a ≤ e → k ≤ e)
    → line_between x a e ≡ false
between_upto x a k e h l m = by_cases (lt_or_le e a)
  where
    lt_or_le : (i j : ℕ) → (i < j) ⊎ (j ≤ i)
    lt_or_le i j = grind arith

    by_cases : (e < a) ⊎ (a ≤ e) → line_between x a e ≡ false
    by_cases (inl n) = between_none x a e (omega arith)
    by_cases (inr n) = let up : k ≤ e = m n in let same : e ≡ k = omega arith in rw same h

-- the rest of a text
pub rest_is : (x : List ℕ) (k : ℕ) → take (length x - k) (drop k x) ≡ drop k x
rest_is x k = rw (← length-drop k x) (take_all (drop k x))
  where
    take_all : (y : List ℕ) → take (length y) y ≡ y
    take_all [] = refl
    take_all (b ∷ y) = ap (λ t. b ∷ t) (take_all y)
