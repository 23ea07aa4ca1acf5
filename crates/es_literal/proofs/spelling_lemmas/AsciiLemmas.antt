-- The bytes of a number are ASCII.
use Rattle.std.proofs.Common.{◌≡◌, ℕ, ◌<◌, Bool, true, false, ◌&&◌, ◌||◌, ◌==◌, List, [], ◌∷◌, ◌++◌, length, Some, None, refl, sym, subst, arith, eqb-true, inl, inr}
use Rattle.std.specs.List.{AllByRecursion}
use Rattle.std.proofs.lemmas.Bool.Decides.{nat_tests}
use Rattle.es_literal.specs.declared.spelling.number.Radix.{Radix}
use Rattle.es_literal.specs.declared.spelling.number.Radix.TheVariants.{Binary, Octal, Decimal, Hexadecimal}
use Rattle.es_literal.specs.spelling.Units.{concat, AreUnits}
use Rattle.es_literal.specs.spelling.Numbers.{is_digit, radix_of, begins_digit, digit_unit, IsRun, IsDigits, ArePlaces, IsFraction, IsSigned, IsExponent, IsWhole, big_end, IsNumber, in_radix, zeros, integer, decimal, point}

abbrev pub Ascii : List ℕ → Type 0
Ascii s = AllByRecursion (λ c. c < 128) s

both_ascii : (s t : List ℕ) → Ascii s → Ascii t → Ascii (s ++ t)
both_ascii [] t p q = q
both_ascii (b ∷ s) t p q = (p.0, both_ascii s t p.1 q)

digit_ascii : (r : Radix) (b : ℕ) → is_digit r b ≡ true → b < 128
unfolding is_digit
digit_ascii Binary b e = grind (arith, nat_tests)
digit_ascii Octal b e = grind (arith, nat_tests)
digit_ascii Decimal b e = grind (arith, nat_tests)
digit_ascii Hexadecimal b e = grind (arith, nat_tests)

both_left : (u v : Bool) → (u && v) ≡ true → u ≡ true
both_left true v e = refl
both_left false v e = cc

both_right : (u v : Bool) → (u && v) ≡ true → v ≡ true
both_right true v e = e
both_right false v e = cc

-- the size of a unit
size_one : (r : Radix) (b : ℕ) (t : List ℕ) → is_digit r b ≡ true → digit_unit r (b ∷ t) ≡ 1
unfolding digit_unit
size_one r b t p = rw p refl

size_two : (r : Radix) (b : ℕ) (t : List ℕ) → is_digit r b ≡ false → (b == 95 && begins_digit r t) ≡ true
    → digit_unit r (b ∷ t) ≡ 2
unfolding digit_unit
size_two r b t p q = rw (p, q) refl

size_none : (r : Radix) (b : ℕ) (t : List ℕ) → is_digit r b ≡ false → (b == 95 && begins_digit r t) ≡ false
    → digit_unit r (b ∷ t) ≡ 0
unfolding digit_unit
size_none r b t p q = rw (p, q) refl

unit_by : (r : Radix) (b : ℕ) (u rest : List ℕ) (v w : Bool) → is_digit r b ≡ v
    → (b == 95 && begins_digit r (u ++ rest)) ≡ w → digit_unit r (b ∷ (u ++ rest)) ≡ length (b ∷ u) → Ascii (b ∷ u)
unfolding begins_digit
unit_by r b [] rest true w p q e = (digit_ascii r b p, tt)
unit_by r b (c ∷ u) rest true w p q e =
    let f : digit_unit r (b ∷ ((c ∷ u) ++ rest)) ≡ 1 = size_one r b ((c ∷ u) ++ rest) p in absurd (omega arith)
unit_by r b [] rest false true p q e =
    let f : digit_unit r (b ∷ rest) ≡ 2 = size_two r b rest p q in absurd (omega arith)
unit_by r b (c ∷ []) rest false true p q e =
    let bar : b ≡ 95 = eqb-true b 95 (both_left (b == 95) (is_digit r c) q) in
    (omega arith, (digit_ascii r c (both_right (b == 95) (is_digit r c) q), tt))
unit_by r b (c ∷ d ∷ u) rest false true p q e =
    let f : digit_unit r (b ∷ ((c ∷ d ∷ u) ++ rest)) ≡ 2 = size_two r b ((c ∷ d ∷ u) ++ rest) p q in
    absurd (omega arith)
unit_by r b u rest false false p q e =
    let f : digit_unit r (b ∷ (u ++ rest)) ≡ 0 = size_none r b (u ++ rest) p q in absurd (omega arith)

unit_ascii : (r : Radix) (u rest : List ℕ) → digit_unit r (u ++ rest) ≡ length u → Ascii u
unit_ascii r [] rest e = tt
unit_ascii r (b ∷ u) rest e =
    unit_by r b u rest (is_digit r b) (b == 95 && begins_digit r (u ++ rest)) refl refl e

units_ascii : (r : Radix) (us : List (List ℕ)) (after : List ℕ) → AreUnits (digit_unit r) us after → Ascii (concat us)
units_ascii r [] after h = tt
units_ascii r (u ∷ us) after h =
    both_ascii u (concat us) (unit_ascii r u (concat us ++ after) h.0) (units_ascii r us after h.2)

run_ascii : (r : Radix) (s : List ℕ) → IsRun r s → Ascii s
run_ascii r s i = subst Ascii (sym i.whole) (units_ascii r i.units [] i.each)

digits_ascii : (r : Radix) (s : List ℕ) → IsDigits r s → Ascii s
digits_ascii r s d = subst Ascii (sym d.whole) (digit_ascii r d.first d.digit, run_ascii r d.more d.run)

places_ascii : (s : List ℕ) → ArePlaces s → Ascii s
places_ascii s (inl e) = subst Ascii (sym e) tt
places_ascii s (inr d) = digits_ascii Decimal s d

fraction_ascii : (s : List ℕ) → IsFraction s → Ascii s
fraction_ascii [] i = tt
fraction_ascii (b ∷ s) i = let e : b ≡ 46 = i.0 in (omega arith, places_ascii s i.1)

sign_by : (b m n : ℕ) (u v : Bool) → (b == m) ≡ u → (b == n) ≡ v → (u || v) ≡ true → m < 128 → n < 128 → b < 128
sign_by b m n true v p q e l k = let f : b ≡ m = eqb-true b m p in omega arith
sign_by b m n false true p q e l k = let f : b ≡ n = eqb-true b n q in omega arith
sign_by b m n false false p q e l k = cc

signed_ascii : (s : List ℕ) → IsSigned s → Ascii s
signed_ascii [] i = absurd i
signed_ascii (b ∷ s) (inl p) =
    (sign_by b 43 45 (b == 43) (b == 45) refl refl p.0 (omega arith) (omega arith), digits_ascii Decimal s p.1)
signed_ascii (b ∷ s) (inr d) = digits_ascii Decimal (b ∷ s) d

exponent_ascii : (s : List ℕ) → IsExponent s → Ascii s
exponent_ascii [] i = tt
exponent_ascii (b ∷ s) i =
    (sign_by b 101 69 (b == 101) (b == 69) refl refl i.0 (omega arith) (omega arith), signed_ascii s i.1)

whole_ascii : (s : List ℕ) → IsWhole s → Ascii s
whole_ascii s (inl e) = subst Ascii (sym e) (omega arith, tt)
whole_ascii s (inr d) = digits_ascii Decimal s d.0

big_ascii : (big : Bool) → Ascii (big_end big)
big_ascii true = (omega arith, tt)
big_ascii false = tt

all_digits : (s : List ℕ) → AllByRecursion (λ b. is_digit Decimal b ≡ true) s → Ascii s
all_digits [] h = tt
all_digits (b ∷ s) h = (digit_ascii Decimal b h.0, all_digits s h.1)

letter_by : (x : ℕ) {r : Radix} (a b c d e f : Bool) → (x == 120) ≡ a → (x == 88) ≡ b → (x == 111) ≡ c
    → (x == 79) ≡ d → (x == 98) ≡ e → (x == 66) ≡ f → radix_of x ≡ Some r → x < 128
unfolding radix_of
letter_by x true b c d e f p q r s t u h = let g : x ≡ 120 = eqb-true x 120 p in omega arith
letter_by x false true c d e f p q r s t u h = let g : x ≡ 88 = eqb-true x 88 q in omega arith
letter_by x false false true d e f p q r s t u h = let g : x ≡ 111 = eqb-true x 111 r in omega arith
letter_by x false false false true e f p q r s t u h = let g : x ≡ 79 = eqb-true x 79 s in omega arith
letter_by x false false false false true f p q r s t u h = let g : x ≡ 98 = eqb-true x 98 t in omega arith
letter_by x false false false false false true p q r s t u h = let g : x ≡ 66 = eqb-true x 66 u in omega arith
letter_by x false false false false false false p q r s t u h =
    let g : None ≡ Some _ = rw (p, q, r, s, t, u) at h in cc

letter_ascii : (x : ℕ) (r : Radix) → radix_of x ≡ Some r → x < 128
letter_ascii x r e =
    letter_by x (x == 120) (x == 88) (x == 111) (x == 79) (x == 98) (x == 66) refl refl refl refl refl refl e

pub number_ascii : (big : Bool) (s : List ℕ) → IsNumber big s → Ascii s
number_ascii big s (in_radix x r digits e d g) =
    subst Ascii (sym g) (
      omega arith,
      (
        letter_ascii x r e,
        both_ascii digits (big_end big) (digits_ascii r digits d) (big_ascii big),
      ),
    )
number_ascii big s (zeros d ds h g e) = subst Ascii (sym g) (omega arith, all_digits (d ∷ ds) h)
number_ascii big s (integer w i g e) =
    subst Ascii (sym g) (both_ascii w (110 ∷ []) (whole_ascii w i) (omega arith, tt))
number_ascii big s (decimal w f x i j k g e) =
    subst Ascii (sym g) (both_ascii w (f ++ x) (whole_ascii w i)
    (both_ascii f x (fraction_ascii f j) (exponent_ascii x k)))
number_ascii big s (point digits x d i g e) =
    subst Ascii (sym g) (omega arith, both_ascii digits x (digits_ascii Decimal digits d) (exponent_ascii x i))
