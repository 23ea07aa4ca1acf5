-- What stands behind a character past ASCII doesn't tell what it is.
use Rattle.std.proofs.Common.{◌≡◌, ℕ, zero, suc, ◌≤◌, ◌<◌, Bool, true, false, not, ◌&&◌, ◌||◌, ◌==◌, eqb-true, nat_le, List, [], ◌∷◌, ◌++◌, length, if◌then◌else◌, refl, sym, ◌∙◌, subst, arith, ◌⊎◌, inl, inr}
use Rattle.std.specs.List.{AllByRecursion}
use Rattle.std.proofs.lemmas.Bool.Decides.{nat_tests}
use Rattle.es_unicode.specs.Wide.{is_blank_of_two, is_space, is_blank_of_three, is_separator, blank_of_two, blank_of_three, wide_blank, wide_line, is_tail, tail_of, two_size, three_size, four_size, wide_by, wide_size}

-- ---- sizes
pick : (v : Bool) (n m : ℕ) → (if v then n else m) ≡ n ⊎ (if v then n else m) ≡ m
pick true n m = inl refl
pick false n m = inr refl

two_is : (a : ℕ) (t : List ℕ) → two_size a t ≡ 2 ⊎ two_size a t ≡ 0
unfolding two_size
two_is a [] = inr refl
two_is a (b ∷ t) = pick (is_tail b && not (is_blank_of_two a b)) 2 0

three_is : (a : ℕ) (t : List ℕ) → three_size a t ≡ 3 ⊎ three_size a t ≡ 0
unfolding three_size
three_is a [] = inr refl
three_is a (b ∷ []) = inr refl
three_is a (b ∷ c ∷ t) = pick (is_tail b && (is_tail c && not (is_blank_of_three a b c || is_separator a b c))) 3 0

four_is : (t : List ℕ) → four_size t ≡ 4 ⊎ four_size t ≡ 0
unfolding four_size
four_is [] = inr refl
four_is (b ∷ []) = inr refl
four_is (b ∷ c ∷ []) = inr refl
four_is (b ∷ c ∷ d ∷ t) = pick (is_tail b && (is_tail c && is_tail d)) 4 0

other : (n m k : ℕ) → n ≡ m ⊎ n ≡ 0 → n ≡ k → (m ≡ k → ⊥) → (0 ≡ k → ⊥) → ⊥
other n m k (inl e) f p q = p (sym e ∙ f)
other n m k (inr e) f p q = q (sym e ∙ f)

two_local : (a : ℕ) (u x y : List ℕ) → two_size a (u ++ x) ≡ length (a ∷ u) → two_size a (u ++ y) ≡ length (a ∷ u)
unfolding two_size
two_local a [] x y e = absurd (other (two_size a x) 2 1 (two_is a x) e (λ p. omega arith) (λ p. omega arith))
two_local a (b ∷ []) x y e = e
two_local a (b ∷ c ∷ u) x y e =
    absurd (other (two_size a (b ∷ c ∷ (u ++ x))) 2 (length (a ∷ b ∷ c ∷ u)) (two_is a (b ∷ c ∷ (u ++ x))) e
    (λ p. omega arith) (λ p. omega arith))

three_local : (a : ℕ) (u x y : List ℕ) → three_size a (u ++ x) ≡ length (a ∷ u)
    → three_size a (u ++ y) ≡ length (a ∷ u)
unfolding three_size
three_local a [] x y e = absurd (other (three_size a x) 3 1 (three_is a x) e (λ p. omega arith) (λ p. omega arith))
three_local a (b ∷ []) x y e =
    absurd (other (three_size a (b ∷ x)) 3 2 (three_is a (b ∷ x)) e (λ p. omega arith) (λ p. omega arith))
three_local a (b ∷ c ∷ []) x y e = e
three_local a (b ∷ c ∷ d ∷ u) x y e =
    absurd (other (three_size a (b ∷ c ∷ d ∷ (u ++ x))) 3 (length (a ∷ b ∷ c ∷ d ∷ u))
    (three_is a (b ∷ c ∷ d ∷ (u ++ x))) e (λ p. omega arith) (λ p. omega arith))

four_local : (a : ℕ) (u x y : List ℕ) → four_size (u ++ x) ≡ length (a ∷ u) → four_size (u ++ y) ≡ length (a ∷ u)
unfolding four_size
four_local a [] x y e = absurd (other (four_size x) 4 1 (four_is x) e (λ p. omega arith) (λ p. omega arith))
four_local a (b ∷ []) x y e =
    absurd (other (four_size (b ∷ x)) 4 2 (four_is (b ∷ x)) e (λ p. omega arith) (λ p. omega arith))
four_local a (b ∷ c ∷ []) x y e =
    absurd (other (four_size (b ∷ c ∷ x)) 4 3 (four_is (b ∷ c ∷ x)) e (λ p. omega arith) (λ p. omega arith))
four_local a (b ∷ c ∷ d ∷ []) x y e = e
four_local a (b ∷ c ∷ d ∷ f ∷ u) x y e =
    absurd (other (four_size (b ∷ c ∷ d ∷ f ∷ (u ++ x))) 4 (length (a ∷ b ∷ c ∷ d ∷ f ∷ u))
    (four_is (b ∷ c ∷ d ∷ f ∷ (u ++ x))) e (λ p. omega arith) (λ p. omega arith))

by_local : (n a : ℕ) (u x y : List ℕ) → wide_by n a (u ++ x) ≡ length (a ∷ u) → wide_by n a (u ++ y) ≡ length (a ∷ u)
unfolding wide_by
by_local zero a u x y e = absurd (omega arith)
by_local (suc zero) a u x y e = two_local a u x y e
by_local (suc (suc zero)) a u x y e = three_local a u x y e
by_local (suc (suc (suc n))) a u x y e = four_local a u x y e

pub wide_local : (a : ℕ) (u x y : List ℕ) → wide_size (a ∷ (u ++ x)) ≡ length (a ∷ u)
    → wide_size (a ∷ (u ++ y)) ≡ length (a ∷ u)
unfolding wide_size
wide_local a u x y e = by_local (tail_of a) a u x y e

-- ---- a character is within its text
two_within : (a : ℕ) (t : List ℕ) → two_size a t ≤ length (a ∷ t)
unfolding two_size
two_within a [] = omega arith
two_within a (b ∷ t) = elim (two_is a (b ∷ t)) [
  | inl e ↦ omega (arith, e)
  | inr e ↦ omega (arith, e)
]

three_within : (a : ℕ) (t : List ℕ) → three_size a t ≤ length (a ∷ t)
unfolding three_size
three_within a [] = omega arith
three_within a (b ∷ []) = omega arith
three_within a (b ∷ c ∷ t) = elim (three_is a (b ∷ c ∷ t)) [
  | inl e ↦ omega (arith, e)
  | inr e ↦ omega (arith, e)
]

four_within : (a : ℕ) (t : List ℕ) → four_size t ≤ length (a ∷ t)
unfolding four_size
four_within a [] = omega arith
four_within a (b ∷ []) = omega arith
four_within a (b ∷ c ∷ []) = omega arith
four_within a (b ∷ c ∷ d ∷ t) = elim (four_is (b ∷ c ∷ d ∷ t)) [
  | inl e ↦ omega (arith, e)
  | inr e ↦ omega (arith, e)
]

by_within : (n a : ℕ) (t : List ℕ) → wide_by n a t ≤ length (a ∷ t)
unfolding wide_by
by_within zero a t = omega arith
by_within (suc zero) a t = two_within a t
by_within (suc (suc zero)) a t = three_within a t
by_within (suc (suc (suc n))) a t = four_within a t

pub wide_within : (text : List ℕ) → wide_size text ≤ length text
unfolding wide_size
wide_within [] = omega arith
wide_within (a ∷ t) = by_within (tail_of a) a t

-- ---- and begins with a byte that begins one
low_tail : (a : ℕ) → nat_le 194 a ≡ false → tail_of a ≡ 0
unfolding tail_of
low_tail a e = grind (arith, nat_tests)

tail_by : (a : ℕ) (v : Bool) → nat_le 194 a ≡ v → (tail_of a ≡ 0 → ⊥) → 194 ≤ a
tail_by a true e h = grind (arith, nat_tests)
tail_by a false e h = absurd (h (low_tail a e))

tail_from : (a : ℕ) → (tail_of a ≡ 0 → ⊥) → 194 ≤ a
tail_from a h = tail_by a (nat_le 194 a) refl h

by_some : (n a : ℕ) (t : List ℕ) → 0 < wide_by n a t → n ≡ 0 → ⊥
unfolding wide_by
by_some zero a t l e = omega arith
by_some (suc n) a t l e = omega arith

pub wide_begins : (a : ℕ) (t : List ℕ) → 0 < wide_size (a ∷ t) → 194 ≤ a
unfolding wide_size
wide_begins a t l = tail_from a (λ e. by_some (tail_of a) a t l e)

-- ---- blanks
blank_two_is : (a b : ℕ) → blank_of_two a b ≡ 2 ⊎ blank_of_two a b ≡ 0
unfolding blank_of_two
blank_two_is a b = pick (is_blank_of_two a b) 2 0

abbrev pick_two : Bool → ℕ → ℕ
pick_two v n = if v then 2 else n

two_by : (v : Bool) (n : ℕ) → pick_two v 0 ≡ 2 → pick_two v n ≡ 2
two_by true n e = refl
two_by false n e = absurd (omega arith)

two_of_three : (a b c : ℕ) → blank_of_two a b ≡ 2 → blank_of_three a b c ≡ 2
unfolding blank_of_two blank_of_three
two_of_three a b c e = two_by (is_blank_of_two a b) (if is_blank_of_three a b c then 3 else 0) e

three_at_most : (v w : Bool) → (if v then 2 else (if w then 3 else 0)) ≤ 3
three_at_most true w = omega arith
three_at_most false true = omega arith
three_at_most false false = omega arith

pub blank_three_is : (a b c : ℕ) → blank_of_three a b c ≤ 3
unfolding blank_of_three
blank_three_is a b c = three_at_most (is_blank_of_two a b) (is_blank_of_three a b c)

-- a blank is one before any text
pub blank_local : (s after : List ℕ) → 0 < length s → wide_blank s ≡ length s → wide_blank (s ++ after) ≡ length s
unfolding wide_blank
blank_local [] after l e = absurd (omega arith)
blank_local (a ∷ []) after l e = absurd (omega arith)
blank_local (a ∷ b ∷ []) [] l e = e
blank_local (a ∷ b ∷ []) (c ∷ after) l e = two_of_three a b c e
blank_local (a ∷ b ∷ c ∷ []) after l e = e
blank_local (a ∷ b ∷ c ∷ d ∷ s) after l e =
    absurd (let m : blank_of_three a b c ≤ 3 = blank_three_is a b c in omega arith)

-- what stands at the front of a text of which a blank's size is found
pub record Blank (text : List ℕ) (size : ℕ) : Type 0 where
  pub blank : List ℕ
  pub after : List ℕ
  pub whole : text ≡ blank ++ after
  pub is : wide_blank blank ≡ length blank
  pub long : length blank ≡ size

three_cases : (v w : Bool) (n : ℕ) → (if v then 2 else (if w then 3 else 0)) ≡ suc n
    → (v ≡ true) × (suc n ≡ 2) ⊎ (suc n ≡ 3)
three_cases true w n e = inl (refl, sym e)
three_cases false true n e = inr (sym e)
three_cases false false n e = absurd (omega arith)

two_alone : (a b : ℕ) → is_blank_of_two a b ≡ true → blank_of_two a b ≡ 2
unfolding blank_of_two
two_alone a b e = rw e refl

front_of_two : (a b n : ℕ) → blank_of_two a b ≡ 2 ⊎ blank_of_two a b ≡ 0 → blank_of_two a b ≡ suc n
    → Blank (a ∷ b ∷ []) (suc n)
unfolding wide_blank
front_of_two a b n (inl p) e =
    record { blank = a ∷ b ∷ []; after = []; whole = refl; is = p; long = sym p ∙ e }
front_of_two a b n (inr p) e = absurd (let bad : 0 ≡ suc n = sym p ∙ e in omega arith)

front_of_three : (a b c n : ℕ) (rest : List ℕ)
    → (is_blank_of_two a b ≡ true) × (suc n ≡ 2) ⊎ (suc n ≡ 3) → blank_of_three a b c ≡ suc n
    → Blank (a ∷ b ∷ c ∷ rest) (suc n)
unfolding wide_blank
front_of_three a b c n rest (inl p) e =
    record { blank = a ∷ b ∷ []; after = c ∷ rest; whole = refl; is = two_alone a b p.0; long = sym p.1 }
front_of_three a b c n rest (inr p) e =
    record { blank = a ∷ b ∷ c ∷ []; after = rest; whole = refl; is = e ∙ p; long = sym p }

three_parts : (a b c n : ℕ) → blank_of_three a b c ≡ suc n
    → (is_blank_of_two a b ≡ true) × (suc n ≡ 2) ⊎ (suc n ≡ 3)
unfolding blank_of_three
three_parts a b c n e = three_cases (is_blank_of_two a b) (is_blank_of_three a b c) n e

pub blank_front : (text : List ℕ) (n : ℕ) → wide_blank text ≡ suc n → Blank text (suc n)
unfolding wide_blank
blank_front [] n e = absurd (omega arith)
blank_front (a ∷ []) n e = absurd (omega arith)
blank_front (a ∷ b ∷ []) n e = front_of_two a b n (blank_two_is a b) e
blank_front (a ∷ b ∷ c ∷ rest) n e = front_of_three a b c n rest (three_parts a b c n e) e

-- ---- a character before more text
two_more : (a : ℕ) (t x : List ℕ) (n : ℕ) → two_size a t ≡ suc n → two_size a (t ++ x) ≡ suc n
unfolding two_size
two_more a [] x n e = absurd (omega arith)
two_more a (b ∷ t) x n e = e

three_more : (a : ℕ) (t x : List ℕ) (n : ℕ) → three_size a t ≡ suc n → three_size a (t ++ x) ≡ suc n
unfolding three_size
three_more a [] x n e = absurd (omega arith)
three_more a (b ∷ []) x n e = absurd (omega arith)
three_more a (b ∷ c ∷ t) x n e = e

four_more : (t x : List ℕ) (n : ℕ) → four_size t ≡ suc n → four_size (t ++ x) ≡ suc n
unfolding four_size
four_more [] x n e = absurd (omega arith)
four_more (b ∷ []) x n e = absurd (omega arith)
four_more (b ∷ c ∷ []) x n e = absurd (omega arith)
four_more (b ∷ c ∷ d ∷ t) x n e = e

by_more : (m a : ℕ) (t x : List ℕ) (n : ℕ) → wide_by m a t ≡ suc n → wide_by m a (t ++ x) ≡ suc n
unfolding wide_by
by_more zero a t x n e = absurd (omega arith)
by_more (suc zero) a t x n e = two_more a t x n e
by_more (suc (suc zero)) a t x n e = three_more a t x n e
by_more (suc (suc (suc m))) a t x n e = four_more t x n e

pub wide_more : (a : ℕ) (t x : List ℕ) (n : ℕ) → wide_size (a ∷ t) ≡ suc n → wide_size (a ∷ (t ++ x)) ≡ suc n
unfolding wide_size
wide_more a t x n e = by_more (tail_of a) a t x n e

-- ---- no blank stands in a word
and_left : (u v : Bool) → (u && v) ≡ true → u ≡ true
and_left true v e = refl
and_left false v e = cc

and_right : (u v : Bool) → (u && v) ≡ true → v ≡ true
and_right true v e = e
and_right false v e = cc

and_none : (u : Bool) → (u && false) ≡ false
and_none true = refl
and_none false = refl

two_lead : (a b : ℕ) → is_blank_of_two a b ≡ true → tail_of a ≡ 1
unfolding is_blank_of_two tail_of
two_lead a b e = let same : a ≡ 194 = eqb-true a 194 (and_left (a == 194) (b == 160) e) in rw same refl

lead_by : (a : ℕ) (u v w x : Bool) (p q r s : Bool) → (a == 226) ≡ u → (a == 225) ≡ v → (a == 227) ≡ w → (a == 239) ≡ x
    → (u && p || (v && q || (w && r || x && s))) ≡ true → tail_of a ≡ 2
unfolding tail_of
lead_by a true v w x p q r s f g h i e = let same : a ≡ 226 = eqb-true a 226 f in rw same refl
lead_by a false true w x p q r s f g h i e = let same : a ≡ 225 = eqb-true a 225 g in rw same refl
lead_by a false false true x p q r s f g h i e = let same : a ≡ 227 = eqb-true a 227 h in rw same refl
lead_by a false false false true p q r s f g h i e = let same : a ≡ 239 = eqb-true a 239 i in rw same refl
lead_by a false false false false p q r s f g h i e = cc

three_lead : (a b c : ℕ) → is_blank_of_three a b c ≡ true → tail_of a ≡ 2
unfolding is_blank_of_three
three_lead a b c e =
    lead_by a (a == 226) (a == 225) (a == 227) (a == 239) (is_space b c) (b == 154 && c == 128) (b == 128 && c == 128)
    (b == 187 && c == 191) refl refl refl refl e

two_none : (a b : ℕ) (t : List ℕ) → is_blank_of_two a b ≡ true → two_size a (b ∷ t) ≡ 0
unfolding two_size
two_none a b t e = rw (e, and_none (is_tail b)) refl

three_none : (a b c : ℕ) (t : List ℕ) → is_blank_of_three a b c ≡ true → three_size a (b ∷ c ∷ t) ≡ 0
unfolding three_size
three_none a b c t e = rw (e, and_none (is_tail c), and_none (is_tail b)) refl

blank_two_none : (a b : ℕ) (t : List ℕ) → is_blank_of_two a b ≡ true → wide_size (a ∷ b ∷ t) ≡ 0
unfolding wide_size wide_by
blank_two_none a b t e = rw (two_lead a b e) (two_none a b t e)

blank_three_none : (a b c : ℕ) (t : List ℕ) → is_blank_of_three a b c ≡ true → wide_size (a ∷ b ∷ c ∷ t) ≡ 0
unfolding wide_size wide_by
blank_three_none a b c t e = rw (three_lead a b c e) (three_none a b c t e)

two_of : (a b n : ℕ) (v : Bool) → is_blank_of_two a b ≡ v → blank_of_two a b ≡ suc n → is_blank_of_two a b ≡ true
unfolding blank_of_two
two_of a b n true p e = p
two_of a b n false p e = let bad : 0 ≡ suc n = rw p at e in absurd (omega arith)

three_of : (a b c n : ℕ) (v w : Bool) → is_blank_of_two a b ≡ v → is_blank_of_three a b c ≡ w
    → blank_of_three a b c ≡ suc n → (is_blank_of_two a b ≡ true) ⊎ (is_blank_of_three a b c ≡ true)
unfolding blank_of_three
three_of a b c n true w p q e = inl p
three_of a b c n false true p q e = inr q
three_of a b c n false false p q e = let bad : 0 ≡ suc n = rw (p, q) at e in absurd (omega arith)

pub blank_no_char : (text : List ℕ) (n : ℕ) → wide_blank text ≡ suc n → wide_size text ≡ 0
unfolding wide_blank
blank_no_char [] n e = absurd (omega arith)
blank_no_char (a ∷ []) n e = absurd (omega arith)
blank_no_char (a ∷ b ∷ []) n e = blank_two_none a b [] (two_of a b n (is_blank_of_two a b) refl e)
blank_no_char (a ∷ b ∷ c ∷ t) n e =
    elim (three_of a b c n (is_blank_of_two a b) (is_blank_of_three a b c) refl refl e) [
      | inl p ↦ blank_two_none a b (c ∷ t) p
      | inr p ↦ blank_three_none a b c t p
    ]

-- ---- the bytes of a blank are no ASCII
space_high : (b c : ℕ) → is_space b c ≡ true → (128 ≤ b) × (128 ≤ c)
unfolding is_space
space_high b c e = (grind (arith, nat_tests), grind (arith, nat_tests))

two_high : (a b : ℕ) → is_blank_of_two a b ≡ true → (192 ≤ a) × (128 ≤ b)
unfolding is_blank_of_two
two_high a b e = (grind (arith, nat_tests), grind (arith, nat_tests))

three_high : (a b c : ℕ) → is_blank_of_three a b c ≡ true → (192 ≤ a) × (128 ≤ b) × (128 ≤ c)
unfolding is_blank_of_three is_space
three_high a b c e = (grind (arith, nat_tests), grind (arith, nat_tests), grind (arith, nat_tests))

abbrev pick_three : Bool → Bool → ℕ
pick_three v w = if v then 2 else (if w then 3 else 0)

two_not_three : (v w : Bool) → pick_three v w ≡ 3 → w ≡ true
two_not_three true w e = absurd (let bad : 2 ≡ 3 = e in omega arith)
two_not_three false true e = refl
two_not_three false false e = absurd (let bad : 0 ≡ 3 = e in omega arith)

is_three : (a b c : ℕ) → blank_of_three a b c ≡ 3 → is_blank_of_three a b c ≡ true
unfolding blank_of_three
is_three a b c e = two_not_three (is_blank_of_two a b) (is_blank_of_three a b c) e

blank_three_high : (a b c : ℕ) → blank_of_three a b c ≡ 3 → AllByRecursion (λ n. 128 ≤ n) (a ∷ b ∷ c ∷ [])
blank_three_high a b c e =
    let h : (192 ≤ a) × (128 ≤ b) × (128 ≤ c) = three_high a b c (is_three a b c e) in
    let first : 192 ≤ a = h.0 in (omega arith, (h.1, (h.2, tt)))

pub blank_high : (s : List ℕ) → 0 < length s → wide_blank s ≡ length s → AllByRecursion (λ b. 128 ≤ b) s
unfolding wide_blank
blank_high [] l e = absurd (omega arith)
blank_high (a ∷ []) l e = absurd (omega arith)
blank_high (a ∷ b ∷ []) l e =
    let h : (192 ≤ a) × (128 ≤ b) = two_high a b (two_of a b 1 (is_blank_of_two a b) refl e) in
    let first : 192 ≤ a = h.0 in (omega arith, (h.1, tt))
blank_high (a ∷ b ∷ c ∷ []) l e = blank_three_high a b c e
blank_high (a ∷ b ∷ c ∷ d ∷ s) l e =
    absurd (let m : blank_of_three a b c ≤ 3 = blank_three_is a b c in omega arith)

pub blank_begins : (a : ℕ) (s : List ℕ) (n : ℕ) → wide_blank (a ∷ s) ≡ suc n → 192 ≤ a
unfolding wide_blank
blank_begins a [] n e = absurd (omega arith)
blank_begins a (b ∷ []) n e = (two_high a b (two_of a b n (is_blank_of_two a b) refl e)).0
blank_begins a (b ∷ c ∷ s) n e =
    elim (three_of a b c n (is_blank_of_two a b) (is_blank_of_three a b c) refl refl e) [
      | inl p ↦ (two_high a b p).0
      | inr p ↦ (three_high a b c p).0
    ]

-- ---- line ends
-- what stands at the front of a text of which a line end's size is found
pub data Line (text : List ℕ) (size : ℕ) : Type 0 where
  line_separator : (after : List ℕ) → text ≡ 226 ∷ 128 ∷ 168 ∷ after → size ≡ 3 → Line text size
  paragraph_separator : (after : List ℕ) → text ≡ 226 ∷ 128 ∷ 169 ∷ after → size ≡ 3 → Line text size

line_by : (a b c : ℕ) (rest : List ℕ) (t u v w : Bool) → (a == 226) ≡ t → (b == 128) ≡ u → (c == 168) ≡ v
    → (c == 169) ≡ w → (t && (u && (v || w))) ≡ true → Line (a ∷ b ∷ c ∷ rest) 3
line_by a b c rest true true true w p q r s e =
    let x : a ≡ 226 = eqb-true a 226 p in
    let y : b ≡ 128 = eqb-true b 128 q in
    let z : c ≡ 168 = eqb-true c 168 r in
    let w : a ∷ b ∷ c ∷ rest ≡ 226 ∷ 128 ∷ 168 ∷ rest = cc in line_separator rest w refl
line_by a b c rest true true false true p q r s e =
    let x : a ≡ 226 = eqb-true a 226 p in
    let y : b ≡ 128 = eqb-true b 128 q in
    let z : c ≡ 169 = eqb-true c 169 s in
    let w : a ∷ b ∷ c ∷ rest ≡ 226 ∷ 128 ∷ 169 ∷ rest = cc in paragraph_separator rest w refl
line_by a b c rest true true false false p q r s e = cc
line_by a b c rest true false v w p q r s e = cc
line_by a b c rest false u v w p q r s e = cc

separator_line : (a b c : ℕ) (rest : List ℕ) → is_separator a b c ≡ true → Line (a ∷ b ∷ c ∷ rest) 3
unfolding is_separator
separator_line a b c rest e =
    line_by a b c rest (a == 226) (b == 128) (c == 168) (c == 169) refl refl refl refl e

line_of : (a b c n : ℕ) (rest : List ℕ) (v : Bool) → is_separator a b c ≡ v → (if v then 3 else 0) ≡ suc n
    → Line (a ∷ b ∷ c ∷ rest) (suc n)
line_of a b c n rest true p e = subst (Line (a ∷ b ∷ c ∷ rest)) e (separator_line a b c rest p)
line_of a b c n rest false p e = absurd (omega arith)

pub line_is : (text : List ℕ) (n : ℕ) → wide_line text ≡ suc n → Line text (suc n)
unfolding wide_line
line_is [] n e = absurd (omega arith)
line_is (a ∷ []) n e = absurd (omega arith)
line_is (a ∷ b ∷ []) n e = absurd (omega arith)
line_is (a ∷ b ∷ c ∷ rest) n e = line_of a b c n rest (is_separator a b c) refl e

-- it stands in no word and is no blank
no_char : (text : List ℕ) (n : ℕ) → Line text n → wide_size text ≡ 0
unfolding wide_size wide_by tail_of three_size is_tail is_separator is_blank_of_three is_space
no_char text n (line_separator after w e) = rw w refl
no_char text n (paragraph_separator after w e) = rw w refl

pub line_no_char : (text : List ℕ) (n : ℕ) → wide_line text ≡ suc n → wide_size text ≡ 0
line_no_char text n e = no_char text (suc n) (line_is text n e)

no_blank : (text : List ℕ) (n : ℕ) → Line text n → wide_blank text ≡ 0
unfolding wide_blank blank_of_three is_blank_of_two is_blank_of_three is_space
no_blank text n (line_separator after w e) = rw w refl
no_blank text n (paragraph_separator after w e) = rw w refl

pub line_no_blank : (text : List ℕ) (n : ℕ) → wide_line text ≡ suc n → wide_blank text ≡ 0
line_no_blank text n e = no_blank text (suc n) (line_is text n e)

-- it is one before any text
line_at_most : (v : Bool) → (if v then 3 else 0) ≤ 3
line_at_most true = omega arith
line_at_most false = omega arith

pub line_local : (s after : List ℕ) → 0 < length s → wide_line s ≡ length s → wide_line (s ++ after) ≡ length s
unfolding wide_line
line_local [] after l e = absurd (omega arith)
line_local (a ∷ []) after l e = absurd (omega arith)
line_local (a ∷ b ∷ []) after l e = absurd (omega arith)
line_local (a ∷ b ∷ c ∷ []) after l e = e
line_local (a ∷ b ∷ c ∷ d ∷ s) after l e =
    absurd (let m : (if is_separator a b c then 3 else 0) ≤ 3 = line_at_most (is_separator a b c) in omega arith)

begins_by : (a : ℕ) (s : List ℕ) (n : ℕ) → Line (a ∷ s) n → 192 ≤ a
begins_by a s n (line_separator after w e) = let same : a ≡ 226 = cc in omega arith
begins_by a s n (paragraph_separator after w e) = let same : a ≡ 226 = cc in omega arith

pub line_begins : (a : ℕ) (s : List ℕ) (n : ℕ) → wide_line (a ∷ s) ≡ suc n → 192 ≤ a
line_begins a s n e = begins_by a s (suc n) (line_is (a ∷ s) n e)
