-- The number at the front of a text is found, and no longer one stands there.
use Rattle.std.proofs.Common.{◌≡◌, ℕ, ◌+◌, ◌-◌, ◌≤◌, Bool, true, false, ◌&&◌, ◌||◌, ◌==◌, List, [], ◌∷◌, ◌++◌, length, Option, Some, None, refl, sym, ◌∙◌, ap, subst, arith, append_assoc, length-append, eqb-true, inl, inr}
use Rattle.std.specs.List.{AllByRecursion}
use Rattle.std.proofs.lemmas.Bool.Decides.{nat_tests}
use Rattle.es_literal.specs.declared.spelling.number.Radix.{Radix}
use Rattle.es_literal.specs.declared.spelling.number.Radix.TheVariants.{Binary, Octal, Decimal, Hexadecimal}
use Rattle.es_literal.specs.declared.spelling.number.NumberEnd.{NumberEnd}
use Rattle.es_literal.specs.spelling.Numbers.{is_digit, radix_of, begins_digit, digit_unit, digits_rest, IsRun, IsDigits, ArePlaces, IsFraction, IsExponent, IsWhole, big_end, IsNumber, in_radix, zeros, integer, decimal, point, places_rest, fraction_rest, exponent_rest, decimals_rest, after_digits, after_whole, after_letter, after_zero, after_number, number_end, begins_number}
use Rattle.es_literal.proofs.spelling_lemmas.UnitLemmas.{ap2}
use Rattle.es_literal.proofs.spelling_lemmas.ReaderLemmas.{Cut, Reader, shrinks, Both, both}
use Rattle.es_literal.proofs.spelling_lemmas.DigitLemmas.{run_reader, run_ends, places_reader, places_end, exponent_reader, tail_reader, letter_ends}

abbrev pub Behind : Type 0
Behind = Bool × List ℕ

-- ---- what is found is a number
-- what stands behind a part of the text that makes a number with what stands before it
pub record Found (before text : List ℕ) (after : Behind) : Type 0 where
  pub part : List ℕ
  pub whole : text ≡ part ++ after.1
  pub is : IsNumber after.0 (before ++ part)

whole_by : (w : List ℕ) (b : ℕ) (t : List ℕ) (v : Bool) → (b == 110) ≡ v → IsWhole w
    → Found w (b ∷ t) (after_whole (b ∷ t))
unfolding after_whole
whole_by w b t true p i = rw p (record {
  part = b ∷ [];
  whole = refl;
  is = integer w i (ap (λ c. w ++ c ∷ []) (eqb-true b 110 p)) refl;
})
whole_by w b t false p i =
    let c : Cut (Both IsFraction IsExponent) (b ∷ t) (exponent_rest (fraction_rest (b ∷ t))) =
    tail_reader.sound (b ∷ t) in
    rw p (record {
      part = c.part;
      whole = c.whole;
      is = decimal w c.is.first c.is.second i c.is.one c.is.other (ap (λ q. w ++ q) c.is.whole) refl;
    })

whole_found : (w t : List ℕ) → IsWhole w → Found w t (after_whole t)
unfolding after_whole
whole_found w [] i = record { part = []; whole = refl; is = decimal w [] [] i tt tt refl refl }
whole_found w (b ∷ t) i = whole_by w b t (b == 110) refl i

-- digits of a radix
digits_by : (x : ℕ) (r : Radix) (digits : List ℕ) (b : ℕ) (t : List ℕ) (v : Bool) → (b == 110) ≡ v
    → radix_of x ≡ Some r → IsDigits r digits → Found (48 ∷ x ∷ digits) (b ∷ t) (after_digits (b ∷ t))
unfolding after_digits
digits_by x r digits b t true p e d = rw p (record {
  part = b ∷ [];
  whole = refl;
  is = in_radix x r digits e d (ap (λ c. 48 ∷ x ∷ (digits ++ c ∷ [])) (eqb-true b 110 p));
})
digits_by x r digits b t false p e d =
    rw p (record { part = []; whole = refl; is = in_radix x r digits e d refl })

digits_found : (x : ℕ) (r : Radix) (digits t : List ℕ) → radix_of x ≡ Some r → IsDigits r digits
    → Found (48 ∷ x ∷ digits) t (after_digits t)
unfolding after_digits
digits_found x r digits [] e d = record { part = []; whole = refl; is = in_radix x r digits e d refl }
digits_found x r digits (b ∷ t) e d = digits_by x r digits b t (b == 110) refl e d

zero_whole : IsWhole (48 ∷ [])
zero_whole = inl refl

-- a part in front of what is found
in_front : (before part text : List ℕ) (after : Behind) → Found (before ++ part) text after
    → Found before (part ++ text) after
in_front before part text after f = record {
  part = part ++ f.part;
  whole = ap (λ t. part ++ t) f.whole ∙ sym (append_assoc part f.part after.1);
  is = subst (IsNumber after.0) (append_assoc before part f.part) f.is;
}

letter_by : (x d : ℕ) (r : Radix) (t : List ℕ) (v : Bool) → is_digit r d ≡ v → radix_of x ≡ Some r
    → Found (48 ∷ []) (x ∷ d ∷ t) (after_letter (Some r) (x ∷ d ∷ t) (d ∷ t))
unfolding after_letter
letter_by x d r t true p e =
    let c : Cut (IsRun r) t (digits_rest r t) = (run_reader r).sound t in
    let i : IsDigits r (d ∷ c.part) = record { first = d; more = c.part; digit = p; run = c.is; whole = refl } in
    let f : Found (48 ∷ []) ((x ∷ d ∷ c.part) ++ digits_rest r t) (after_digits (digits_rest r t)) =
    in_front (48 ∷ []) (x ∷ d ∷ c.part) (digits_rest r t) _ (digits_found x r (d ∷ c.part) (digits_rest r t) e i) in
    rw p (subst (λ w. Found (48 ∷ []) (x ∷ d ∷ w) (after_digits (digits_rest r t))) (sym c.whole) f)
letter_by x d r t false p e = rw p (whole_found (48 ∷ []) (x ∷ d ∷ t) zero_whole)

letter_found : (x : ℕ) (t : List ℕ) (o : Option Radix) → radix_of x ≡ o
    → Found (48 ∷ []) (x ∷ t) (after_letter o (x ∷ t) t)
unfolding after_letter
letter_found x t None e = whole_found (48 ∷ []) (x ∷ t) zero_whole
letter_found x [] (Some r) e = whole_found (48 ∷ []) (x ∷ []) zero_whole
letter_found x (d ∷ t) (Some r) e = letter_by x d r t (is_digit r d) refl e

-- decimal digits alone
pub record Decimals (t b : List ℕ) : Type 0 where
  pub part : List ℕ
  pub whole : t ≡ part ++ b
  pub each : AllByRecursion (λ c. is_digit Decimal c ≡ true) part

decimals_by : (b : ℕ) (t : List ℕ) (v : Bool) → is_digit Decimal b ≡ v → Decimals t (decimals_rest t)
    → Decimals (b ∷ t) (decimals_rest (b ∷ t))
unfolding decimals_rest
decimals_by b t true p d =
    rw p (record { part = b ∷ d.part; whole = ap (λ w. b ∷ w) d.whole; each = (p, d.each) })
decimals_by b t false p d = rw p (record { part = []; whole = refl; each = tt })

decimals : (t : List ℕ) → Decimals t (decimals_rest t)
unfolding decimals_rest
decimals [] = record { part = []; whole = refl; each = tt }
decimals (b ∷ t) = decimals_by b t (is_digit Decimal b) refl (decimals t)

zero_by : (b : ℕ) (t : List ℕ) (v : Bool) → is_digit Decimal b ≡ v → Found (48 ∷ []) (b ∷ t) (after_zero (b ∷ t))
unfolding after_zero
zero_by b t true p =
    let d : Decimals t (decimals_rest t) = decimals t in
    rw p (record {
      part = b ∷ d.part;
      whole = ap (λ w. b ∷ w) d.whole;
      is = zeros b d.part (p, d.each) refl refl;
    })
zero_by b t false p = rw p (letter_found b t (radix_of b) refl)

zero_found : (t : List ℕ) → Found (48 ∷ []) t (after_zero t)
unfolding after_zero
zero_found [] = record { part = []; whole = refl; is = decimal (48 ∷ []) [] [] zero_whole tt tt refl refl }
zero_found (b ∷ t) = zero_by b t (is_digit Decimal b) refl

-- a digit that isn't `0`
digit_found : (b : ℕ) (t : List ℕ) → is_digit Decimal b ≡ true → (b == 48) ≡ false
    → Found (b ∷ []) t (after_whole (digits_rest Decimal t))
digit_found b t p z =
    let c : Cut (IsRun Decimal) t (digits_rest Decimal t) = (run_reader Decimal).sound t in
    let i : IsDigits Decimal (b ∷ c.part) =
    record { first = b; more = c.part; digit = p; run = c.is; whole = refl } in
    let f : Found (b ∷ []) (c.part ++ digits_rest Decimal t) (after_whole (digits_rest Decimal t)) =
    in_front (b ∷ []) c.part (digits_rest Decimal t) _
    (whole_found (b ∷ c.part) (digits_rest Decimal t) (inr (i, z))) in
    subst (λ w. Found (b ∷ []) w (after_whole (digits_rest Decimal t))) (sym c.whole) f

point_found : (d : ℕ) (t : List ℕ) → is_digit Decimal d ≡ true
    → Found (46 ∷ []) (d ∷ t) (false, exponent_rest (places_rest (d ∷ t)))
unfolding places_rest
point_found d t p =
    let c : Cut (IsRun Decimal) t (digits_rest Decimal t) = (run_reader Decimal).sound t in
    let e : Cut IsExponent (digits_rest Decimal t) (exponent_rest (digits_rest Decimal t)) =
    exponent_reader.sound (digits_rest Decimal t) in
    let i : IsDigits Decimal (d ∷ c.part) =
    record { first = d; more = c.part; digit = p; run = c.is; whole = refl } in
    rw p (record {
      part = (d ∷ c.part) ++ e.part;
      whole = ap (λ w. d ∷ w) (c.whole ∙ (ap (λ w. c.part ++ w) e.whole ∙ sym (append_assoc c.part e.part _)));
      is = point (d ∷ c.part) e.part i e.is refl refl;
    })

point_alone : (b : ℕ) → (b == 46) ≡ true → (is_digit Decimal b || b == 46 && false) ≡ true → ⊥
unfolding is_digit
point_alone b p h = grind (arith, nat_tests)

point_digit : (b : ℕ) (v : Bool) → (b == 46) ≡ true → (is_digit Decimal b || b == 46 && v) ≡ true → v ≡ true
unfolding is_digit
point_digit b true p h = refl
point_digit b false p h = absurd (point_alone b p h)

or_only : (u v : Bool) → (u || v) ≡ true → v ≡ false → u ≡ true
or_only true v h e = refl
or_only false true h e = cc
or_only false false h e = cc

no_point : (b : ℕ) (v : Bool) → (b == 46) ≡ false → (is_digit Decimal b || b == 46 && v) ≡ true
    → is_digit Decimal b ≡ true
no_point b v p h = or_only (is_digit Decimal b) (b == 46 && v) h (rw p refl)

start_found : (b : ℕ) (t : List ℕ) (u v : Bool) → (b == 46) ≡ u → (b == 48) ≡ v
    → begins_number (b ∷ t) ≡ true → Found (b ∷ []) t (after_number b t)
unfolding after_number begins_number begins_digit
start_found b [] true v p q h = absurd (point_alone b p h)
start_found b (d ∷ t) true v p q h =
    let e : b ≡ 46 = eqb-true b 46 p in
    rw p (subst (λ (c : ℕ). Found (c ∷ []) (d ∷ t) (false, exponent_rest (places_rest (d ∷ t)))) (sym e)
    (point_found d t (point_digit b (is_digit Decimal d) p h)))
start_found b t false true p q h =
    rw (p, q) (subst (λ (c : ℕ). Found (c ∷ []) t (after_zero t)) (sym (eqb-true b 48 q)) (zero_found t))
start_found b t false false p q h =
    rw (p, q) (digit_found b t (no_point b (begins_digit Decimal t) p h) q)

-- ---- a number that stands there is found, or a longer one
pub record Reached (big : Bool) (t : List ℕ) (after : Behind) : Type 0 where
  pub less : length after.1 ≤ length t
  pub same : length after.1 ≡ length t → after.0 ≡ big

whole_less_by : (b : ℕ) (t : List ℕ) (v : Bool) → (b == 110) ≡ v → Reached false (b ∷ t) (after_whole (b ∷ t))
unfolding after_whole
whole_less_by b t true p = rw p (record { less = omega arith; same = λ e. absurd (omega arith) })
whole_less_by b t false p =
    let l : length (exponent_rest (fraction_rest (b ∷ t))) ≤ length (b ∷ t) =
    shrinks (Both IsFraction IsExponent) (λ w. exponent_rest (fraction_rest w)) tail_reader (b ∷ t) in
    rw p (record { less = l; same = λ e. refl })

-- nothing more is a number too
whole_less : (t : List ℕ) → Reached false t (after_whole t)
unfolding after_whole
whole_less [] = record { less = omega arith; same = λ e. refl }
whole_less (b ∷ t) = whole_less_by b t (b == 110) refl

digits_less_by : (b : ℕ) (t : List ℕ) (v : Bool) → (b == 110) ≡ v → Reached false (b ∷ t) (after_digits (b ∷ t))
unfolding after_digits
digits_less_by b t true p = rw p (record { less = omega arith; same = λ e. absurd (omega arith) })
digits_less_by b t false p = rw p (record { less = omega arith; same = λ e. refl })

digits_less : (t : List ℕ) → Reached false t (after_digits t)
unfolding after_digits
digits_less [] = record { less = omega arith; same = λ e. refl }
digits_less (b ∷ t) = digits_less_by b t (b == 110) refl

-- a longer text
wider : (t w : List ℕ) (after : Behind) → length t ≤ length w → Reached false t after → Reached false w after
wider t w after l r =
    let less : length after.1 ≤ length t = r.less in
    record { less = omega arith; same = λ e. r.same (omega arith) }

letter_less : (r : Radix) (x d : ℕ) (t : List ℕ) (v : Bool) → is_digit r d ≡ v
    → Reached false (x ∷ d ∷ t) (after_letter (Some r) (x ∷ d ∷ t) (d ∷ t))
unfolding after_letter
letter_less r x d t true p =
    let l : length (digits_rest r t) ≤ length t = shrinks (IsRun r) (digits_rest r) (run_reader r) t in
    rw p (wider (digits_rest r t) (x ∷ d ∷ t) (after_digits (digits_rest r t)) (omega arith)
    (digits_less (digits_rest r t)))
letter_less r x d t false p = rw p (whole_less (x ∷ d ∷ t))

letters_less : (o : Option Radix) (x : ℕ) (t : List ℕ) → Reached false (x ∷ t) (after_letter o (x ∷ t) t)
unfolding after_letter
letters_less None x t = whole_less (x ∷ t)
letters_less (Some r) x [] = whole_less (x ∷ [])
letters_less (Some r) x (d ∷ t) = letter_less r x d t (is_digit r d) refl

decimals_less : (t : List ℕ) → length (decimals_rest t) ≤ length t
decimals_less t =
    let d : Decimals t (decimals_rest t) = decimals t in
    let size : length t ≡ length (d.part ++ decimals_rest t) = ap length d.whole in
    omega (arith, length-append d.part (decimals_rest t))

zero_less_by : (b : ℕ) (t : List ℕ) (v : Bool) → is_digit Decimal b ≡ v → Reached false (b ∷ t) (after_zero (b ∷ t))
unfolding after_zero
zero_less_by b t true p =
    let l : length (decimals_rest t) ≤ length t = decimals_less t in
    rw p (record { less = omega arith; same = λ e. refl })
zero_less_by b t false p = rw p (letters_less (radix_of b) b t)

zero_less : (t : List ℕ) → Reached false t (after_zero t)
unfolding after_zero
zero_less [] = record { less = omega arith; same = λ e. refl }
zero_less (b ∷ t) = zero_less_by b t (is_digit Decimal b) refl

decimals_pass : (s t : List ℕ) → AllByRecursion (λ c. is_digit Decimal c ≡ true) s
    → decimals_rest (s ++ t) ≡ decimals_rest t
unfolding decimals_rest
decimals_pass [] t h = refl
decimals_pass (b ∷ s) t h = rw h.0 (decimals_pass s t h.1)

-- the letters that begin other parts
letter_cases : (x : ℕ) {r : Radix} (a b c d e f : Bool) → (x == 120) ≡ a → (x == 88) ≡ b → (x == 111) ≡ c
    → (x == 79) ≡ d
    → (x == 98) ≡ e → (x == 66) ≡ f → radix_of x ≡ Some r → is_digit Decimal x ≡ false
unfolding radix_of is_digit
letter_cases x true b c d e f p q r s t u h = let g : x ≡ 120 = eqb-true x 120 p in rw g refl
letter_cases x false true c d e f p q r s t u h = let g : x ≡ 88 = eqb-true x 88 q in rw g refl
letter_cases x false false true d e f p q r s t u h = let g : x ≡ 111 = eqb-true x 111 r in rw g refl
letter_cases x false false false true e f p q r s t u h = let g : x ≡ 79 = eqb-true x 79 s in rw g refl
letter_cases x false false false false true f p q r s t u h = let g : x ≡ 98 = eqb-true x 98 t in rw g refl
letter_cases x false false false false false true p q r s t u h = let g : x ≡ 66 = eqb-true x 66 u in rw g refl
letter_cases x false false false false false false p q r s t u h =
    let g : None ≡ Some _ = rw (p, q, r, s, t, u) at h in cc

letter_is : (x : ℕ) (r : Radix) → radix_of x ≡ Some r → is_digit Decimal x ≡ false
letter_is x r e = letter_cases x (x == 120) (x == 88) (x == 111) (x == 79) (x == 98) (x == 66) refl refl refl refl refl
    refl e

-- ---- reach
same_behind : (big : Bool) (t : List ℕ) → Reached big t (big, t)
same_behind big t = record { less = omega arith; same = λ e. refl }

tail_reach : (b : ℕ) (q f e t : List ℕ) → IsFraction f → IsExponent e → b ∷ q ≡ f ++ e
    → length (exponent_rest (fraction_rest (b ∷ (q ++ t)))) ≤ length t
tail_reach b q f e t i j w =
    tail_reader.reach (b ∷ q) t (record { first = f; second = e; whole = w; one = i; other = j })

-- what begins a fraction or an exponent
data TailByte (b : ℕ) : Type 0 where
  by_point : b ≡ 46 → TailByte b
  by_letter : (b == 101 || b == 69) ≡ true → TailByte b

tail_byte : (b : ℕ) (q f e : List ℕ) → IsFraction f → IsExponent e → b ∷ q ≡ f ++ e → TailByte b
tail_byte b q [] [] i j w = cc
tail_byte b q [] (c ∷ e) i j w = let s : c ≡ b = cc in by_letter (subst (λ (d : ℕ). (d == 101 || d == 69) ≡ true) s j.0)
tail_byte b q (c ∷ f) e i j w = by_point (let s : b ≡ c = cc in s ∙ i.0)

-- it ends digits, and is no `n` and no radix's letter
pub record Apart (b : ℕ) : Type 0 where
  pub digit : is_digit Decimal b ≡ false
  pub bar : (b == 95) ≡ false
  pub big : (b == 110) ≡ false
  pub radix : radix_of b ≡ None

apart_at : (n b : ℕ) → b ≡ n → Apart n → Apart b
apart_at n b e a = subst Apart (sym e) a

apart_46 : Apart 46
unfolding is_digit radix_of
apart_46 = record { digit = refl; bar = refl; big = refl; radix = refl }

apart_101 : Apart 101
unfolding is_digit radix_of
apart_101 = record { digit = refl; bar = refl; big = refl; radix = refl }

apart_69 : Apart 69
unfolding is_digit radix_of
apart_69 = record { digit = refl; bar = refl; big = refl; radix = refl }

apart_by : (b : ℕ) (u v : Bool) → (b == 101) ≡ u → (b == 69) ≡ v → (u || v) ≡ true → Apart b
apart_by b true v p q e = apart_at 101 b (eqb-true b 101 p) apart_101
apart_by b false true p q e = apart_at 69 b (eqb-true b 69 q) apart_69
apart_by b false false p q e = cc

tail_apart : (b : ℕ) → TailByte b → Apart b
tail_apart b (by_point e) = apart_at 46 b e apart_46
tail_apart b (by_letter e) = apart_by b (b == 101) (b == 69) refl refl e

big_apart : ((is_digit Decimal 110 ≡ false) × ((110 == 95) ≡ false)) × (radix_of 110 ≡ None)
unfolding is_digit radix_of
big_apart = ((refl, refl), refl)

big_no_digit : (r : Radix) → is_digit r 110 ≡ false
unfolding is_digit
big_no_digit Binary = refl
big_no_digit Octal = refl
big_no_digit Decimal = refl
big_no_digit Hexadecimal = refl

no_unit : (r : Radix) (b : ℕ) (t : List ℕ) → is_digit r b ≡ false → (b == 95) ≡ false → digit_unit r (b ∷ t) ≡ 0
unfolding digit_unit
no_unit r b t p q = rw (p, q) refl

-- behind `0`
zero_at : (b : ℕ) (t : List ℕ) → is_digit Decimal b ≡ false → radix_of b ≡ None
    → after_zero (b ∷ t) ≡ after_whole (b ∷ t)
unfolding after_zero after_letter
zero_at b t p q = rw (p, q) refl

whole_at : (b : ℕ) (t : List ℕ) → (b == 110) ≡ false
    → after_whole (b ∷ t) ≡ (false, exponent_rest (fraction_rest (b ∷ t)))
unfolding after_whole
whole_at b t p = rw p refl

whole_big : (t : List ℕ) → after_whole (110 ∷ t) ≡ (true, t)
unfolding after_whole
whole_big t = refl

tail_reached : (b : ℕ) (q f e t : List ℕ) → IsFraction f → IsExponent e → b ∷ q ≡ f ++ e
    → Reached false t (after_whole (b ∷ (q ++ t)))
tail_reached b q f e t i j w =
    let a : Apart b = tail_apart b (tail_byte b q f e i j w) in
    subst (Reached false t) (sym (whole_at b (q ++ t) a.big))
    (record { less = tail_reach b q f e t i j w; same = λ g. refl })

-- behind the whole part of a decimal number
zero_tail : (q f e t : List ℕ) → IsFraction f → IsExponent e → q ≡ f ++ e → Reached false t (after_zero (q ++ t))
zero_tail [] f e t i j w = zero_less t
zero_tail (b ∷ q) f e t i j w =
    let a : Apart b = tail_apart b (tail_byte b q f e i j w) in
    subst (Reached false t) (sym (zero_at b (q ++ t) a.digit a.radix)) (tail_reached b q f e t i j w)

run_tail : (u q f e t : List ℕ) → IsRun Decimal u → IsFraction f → IsExponent e → q ≡ f ++ e
    → Reached false t (after_whole (digits_rest Decimal (u ++ (q ++ t))))
run_tail u [] f e t r i j w =
    wider (digits_rest Decimal (u ++ t)) t _ ((run_reader Decimal).reach u t r)
    (whole_less (digits_rest Decimal (u ++ t)))
run_tail u (b ∷ q) f e t r i j w =
    let a : Apart b = tail_apart b (tail_byte b q f e i j w) in
    subst (λ v. Reached false t (after_whole v))
    (sym (run_ends Decimal u (b ∷ (q ++ t)) r (no_unit Decimal b (q ++ t) a.digit a.bar)))
    (tail_reached b q f e t i j w)

-- the first byte decides
no_dot : (b : ℕ) → is_digit Decimal b ≡ true → (b == 46) ≡ false
unfolding is_digit
no_dot b p = grind (arith, nat_tests)

digit_start : (b : ℕ) (t : List ℕ) → is_digit Decimal b ≡ true → (b == 48) ≡ false
    → after_number b t ≡ after_whole (digits_rest Decimal t)
unfolding after_number
digit_start b t p q = rw (no_dot b p, q) refl

zero_start : (t : List ℕ) → after_number 48 t ≡ after_zero t
unfolding after_number
zero_start t = refl

point_start : (t : List ℕ) → after_number 46 t ≡ (false, exponent_rest (places_rest t))
unfolding after_number
point_start t = refl

-- a number that stands there, by its first byte
pub record Spelled (big : Bool) (s t : List ℕ) : Type 0 where
  pub first : ℕ
  pub more : List ℕ
  pub whole : s ≡ first ∷ more
  pub found : Reached big t (after_number first (more ++ t))

whole_spelled : (w q f e t : List ℕ) → IsWhole w → IsFraction f → IsExponent e → q ≡ f ++ e → (s : List ℕ)
    → s ≡ w ++ q → Spelled false s t
whole_spelled w q f e t (inl z) i j v s g = record {
  first = 48;
  more = q;
  whole = g ∙ ap (λ u. u ++ q) z;
  found = subst (Reached false t) (sym (zero_start (q ++ t))) (zero_tail q f e t i j v);
}
whole_spelled w q f e t (inr d) i j v s g = record {
  first = d.0.first;
  more = d.0.more ++ q;
  whole = g ∙ ap (λ u. u ++ q) d.0.whole;
  found = subst (Reached false t) (sym (digit_start d.0.first ((d.0.more ++ q) ++ t) d.0.digit d.1))
      (subst (λ u. Reached false t (after_whole (digits_rest Decimal u))) (sym (append_assoc d.0.more q t))
      (run_tail d.0.more q f e t d.0.run i j v));
}

big_spelled : (w t : List ℕ) → IsWhole w → (s : List ℕ) → s ≡ w ++ 110 ∷ [] → Spelled true s t
big_spelled w t (inl z) s g = record {
  first = 48;
  more = 110 ∷ [];
  whole = g ∙ ap (λ u. u ++ 110 ∷ []) z;
  found = subst (Reached true t) (sym (zero_start (110 ∷ t) ∙ (zero_at 110 t big_apart.0.0 big_apart.1 ∙ whole_big t)))
      (same_behind true t);
}
big_spelled w t (inr d) s g = record {
  first = d.0.first;
  more = d.0.more ++ 110 ∷ [];
  whole = g ∙ ap (λ u. u ++ 110 ∷ []) d.0.whole;
  found = subst (Reached true t)
      (sym (digit_start d.0.first ((d.0.more ++ 110 ∷ []) ++ t) d.0.digit d.1
      ∙ (ap (λ u. after_whole (digits_rest Decimal u)) (append_assoc d.0.more (110 ∷ []) t)
      ∙ (ap after_whole (run_ends Decimal d.0.more (110 ∷ t) d.0.run
      (no_unit Decimal 110 t big_apart.0.0 big_apart.0.1)) ∙ whole_big t))))
      (same_behind true t);
}

letter_at : (x : ℕ) (r : Radix) (t : List ℕ) → radix_of x ≡ Some r
    → after_zero (x ∷ t) ≡ after_letter (Some r) (x ∷ t) t
unfolding after_zero
letter_at x r t e = rw (letter_is x r e, e) refl

letter_digits : (x d : ℕ) (r : Radix) (t : List ℕ) → is_digit r d ≡ true
    → after_letter (Some r) (x ∷ d ∷ t) (d ∷ t) ≡ after_digits (digits_rest r t)
unfolding after_letter
letter_digits x d r t p = rw p refl

digits_big : (t : List ℕ) → after_digits (110 ∷ t) ≡ (true, t)
unfolding after_digits
digits_big t = refl

big_run : (big : Bool) (r : Radix) (u t : List ℕ) → IsRun r u
    → Reached big t (after_digits (digits_rest r (u ++ (big_end big ++ t))))
big_run true r u t i =
    subst (Reached true t) (sym (ap after_digits (run_ends r u (110 ∷ t) i (no_unit r 110 t (big_no_digit r) refl))
    ∙ digits_big t)) (same_behind true t)
big_run false r u t i =
    wider (digits_rest r (u ++ t)) t _ ((run_reader r).reach u t i) (digits_less (digits_rest r (u ++ t)))

radix_spelled : (big : Bool) (x : ℕ) (r : Radix) (digits t s : List ℕ) → radix_of x ≡ Some r → (d : IsDigits r digits)
    → s ≡ 48 ∷ x ∷ (digits ++ big_end big) → Spelled big s t
radix_spelled big x r digits t s e d g = record {
  first = 48;
  more = x ∷ d.first ∷ (d.more ++ big_end big);
  whole = g ∙ ap (λ u. 48 ∷ x ∷ (u ++ big_end big)) d.whole;
  found = subst (Reached big t)
      (sym (zero_start (x ∷ d.first ∷ ((d.more ++ big_end big) ++ t))
      ∙ (letter_at x r (d.first ∷ ((d.more ++ big_end big) ++ t)) e
      ∙ (letter_digits x d.first r ((d.more ++ big_end big) ++ t) d.digit
      ∙ ap (λ u. after_digits (digits_rest r u)) (append_assoc d.more (big_end big) t)))))
      (big_run big r d.more t d.run);
}

zeros_at : (d : ℕ) (t : List ℕ) → is_digit Decimal d ≡ true → after_zero (d ∷ t) ≡ (false, decimals_rest t)
unfolding after_zero
zeros_at d t p = rw p refl

zeros_spelled : (d : ℕ) (ds t s : List ℕ) → AllByRecursion (λ b. is_digit Decimal b ≡ true) (d ∷ ds) → s ≡ 48 ∷ d ∷ ds
    → Spelled false s t
zeros_spelled d ds t s h g = record {
  first = 48;
  more = d ∷ ds;
  whole = g;
  found = subst (Reached false t)
      (sym (zero_start (d ∷ (ds ++ t)) ∙ (zeros_at d (ds ++ t) h.0
      ∙ ap (λ v. (false, v)) (decimals_pass ds t h.1))))
      (record { less = decimals_less t; same = λ e. refl });
}

point_reader : Reader (Both ArePlaces IsExponent) (λ t. exponent_rest (places_rest t))
point_reader =
    both ArePlaces IsExponent places_rest exponent_rest places_reader exponent_reader
    (λ u b q t p e. let l : (is_digit Decimal b ≡ false) × ((b == 95) ≡ false) × ((b == 46) ≡ false) =
    letter_ends b q e in places_end u b (q ++ t) p l.0 l.1)

point_spelled : (digits e t s : List ℕ) → IsDigits Decimal digits → IsExponent e → s ≡ 46 ∷ (digits ++ e)
    → Spelled false s t
point_spelled digits e t s d i g = record {
  first = 46;
  more = digits ++ e;
  whole = g;
  found = subst (Reached false t) (sym (point_start ((digits ++ e) ++ t)))
      (record {
        less = point_reader.reach (digits ++ e) t (record {
          first = digits;
          second = e;
          whole = refl;
          one = inr d;
          other = i;
        });
        same = λ h. refl;
      });
}

pub spelled : (big : Bool) (s t : List ℕ) → IsNumber big s → Spelled big s t
spelled big s t (in_radix x r digits e d g) = radix_spelled big x r digits t s e d g
spelled big s t (zeros d ds h g e) = subst (λ v. Spelled v s t) (sym e) (zeros_spelled d ds t s h g)
spelled big s t (integer w i g e) = subst (λ v. Spelled v s t) (sym e) (big_spelled w t i s g)
spelled big s t (decimal w f x i j k g e) =
    subst (λ v. Spelled v s t) (sym e) (whole_spelled w (f ++ x) f x t i j k refl s g)
spelled big s t (point digits x d i g e) = subst (λ v. Spelled v s t) (sym e) (point_spelled digits x t s d i g)

-- ---- the whole look
-- a number begins with a digit or a point
or_left : (u v : Bool) → u ≡ true → (u || v) ≡ true
or_left true v e = refl
or_left false v e = cc

pub begins : (big : Bool) (s after : List ℕ) → IsNumber big s → begins_number (s ++ after) ≡ true
unfolding begins_number begins_digit is_digit
begins big s after (in_radix x r digits e d g) = rw g refl
begins big s after (zeros d ds h g e) = rw g refl
begins big s after (integer w (inl z) g e) = rw g (rw z refl)
begins big s after (integer w (inr d) g e) =
    ap (λ v. begins_number (v ++ after)) g ∙ (ap (λ v. begins_number ((v ++ 110 ∷ []) ++ after)) d.0.whole
    ∙ or_left _ _ d.0.digit)
begins big s after (decimal w f x (inl z) j k g e) = rw g (rw z refl)
begins big s after (decimal w f x (inr d) j k g e) =
    ap (λ v. begins_number (v ++ after)) g ∙ (ap (λ v. begins_number ((v ++ (f ++ x)) ++ after)) d.0.whole
    ∙ or_left _ _ d.0.digit)
begins big s after (point digits x d i g e) =
    ap (λ v. begins_number (v ++ after)) g
    ∙ (ap (λ v. begins_number ((46 ∷ (v ++ x)) ++ after)) d.whole ∙ d.digit)

-- no longer text at this place is a number
abbrev pub IsLongestNumber : List ℕ → List ℕ → Type 0
IsLongestNumber s after = (big : Bool) (more rest : List ℕ) → after ≡ more ++ rest → IsNumber big (s ++ more)
    → more ≡ []

-- what a look for a number finds
pub record NumberFound (at : ℕ) (text : List ℕ) (found : NumberEnd) : Type 0 where
  pub big : Bool
  pub part : List ℕ
  pub after : List ℕ
  pub whole : text ≡ part ++ after
  pub is : IsNumber big part
  pub end : found ≡ record { big = big; end = at + length part }

end_by : (at b : ℕ) (rest : List ℕ) → number_end at (b ∷ rest) ≡ record {
  big = (after_number b rest).0;
  end = at + (length (b ∷ rest) - length (after_number b rest).1);
}
unfolding number_end
end_by at b rest = refl

pub number_finds : (at b : ℕ) (rest : List ℕ) → begins_number (b ∷ rest) ≡ true
    → NumberFound at (b ∷ rest) (number_end at (b ∷ rest))
number_finds at b rest h =
    let f : Found (b ∷ []) rest (after_number b rest) =
    start_found b rest (b == 46) (b == 48) refl refl h in
    let size : length rest ≡ length (f.part ++ (after_number b rest).1) = ap length f.whole in
    record {
      big = (after_number b rest).0;
      part = b ∷ f.part;
      after = (after_number b rest).1;
      whole = ap (λ w. b ∷ w) f.whole;
      is = f.is;
      end = end_by at b rest ∙ ap (λ n. record { big = (after_number b rest).0; end = n })
          (let q : at + (length (b ∷ rest) - length (after_number b rest).1) ≡ at + length (b ∷ f.part) =
          omega (arith, length-append f.part (after_number b rest).1) in q);
    }

reach_by : (at : ℕ) (big : Bool) (s after : List ℕ) → Spelled big s after
    → at + length s ≤ (number_end at (s ++ after)).end
reach_by at big s after p =
    let less : length (after_number p.first (p.more ++ after)).1 ≤ length after = p.found.less in
    let long : length s ≡ length (p.first ∷ p.more) = ap length p.whole in
    let end : (number_end at (s ++ after)).end
    ≡ at + (length (p.first ∷ (p.more ++ after)) - length (after_number p.first (p.more ++ after)).1) =
    ap (λ w. (number_end at (w ++ after)).end) p.whole
    ∙ ap (λ (n : NumberEnd). n.end) (end_by at p.first (p.more ++ after)) in
    omega (arith, length-append p.more after)

-- a number is read at least to its end
pub number_reaches : (at : ℕ) (big : Bool) (s after : List ℕ) → IsNumber big s
    → at + length s ≤ (number_end at (s ++ after)).end
number_reaches at big s after i = reach_by at big s after (spelled big s after i)

pub no_empty : (big : Bool) → IsNumber big [] → ⊥
no_empty big i = let s : Spelled big [] [] = spelled big [] [] i in let e : [] ≡ s.first ∷ s.more = s.whole in cc

prefix_more : (u v a b : List ℕ) → u ++ a ≡ v ++ b → length b ≤ length a → (m : List ℕ) × (v ≡ u ++ m) × (a ≡ m ++ b)
prefix_more [] v a b e l = (v, refl, e)
prefix_more (x ∷ u) [] a b e l =
    let size : length ((x ∷ u) ++ a) ≡ length b = ap length e in
    absurd (omega (arith, length-append (x ∷ u) a))
prefix_more (x ∷ u) (y ∷ v) a b e l =
    let heads : x ≡ y = cc in
    let tails : u ++ a ≡ v ++ b = cc in
    let r : (m : List ℕ) × (v ≡ u ++ m) × (a ≡ m ++ b) = prefix_more u v a b tails l in
    let same : v ≡ u ++ r.0 = r.1 in
    (r.0, (let q : y ∷ v ≡ (x ∷ u) ++ r.0 = cc in q), r.2)

-- the longest one is found
is_by : (at : ℕ) (big : Bool) (s after : List ℕ) → IsNumber big s → IsLongestNumber s after
    → (p : Spelled big s after) → Found (p.first ∷ []) (p.more ++ after) (after_number p.first (p.more ++ after))
    → number_end at (s ++ after) ≡ record { big = big; end = at + length s }
is_by at big s after i l p f =
    let a : Behind = after_number p.first (p.more ++ after) in
    let less : length (after_number p.first (p.more ++ after)).1 ≤ length after = p.found.less in
    let r : (m : List ℕ) × (f.part ≡ p.more ++ m) × (after ≡ m ++ (after_number p.first (p.more ++ after)).1) =
    prefix_more p.more f.part after (after_number p.first (p.more ++ after)).1 f.whole less in
    let longer : IsNumber (after_number p.first (p.more ++ after)).0 (s ++ r.0) =
    subst (IsNumber (after_number p.first (p.more ++ after)).0)
    (ap (λ w. p.first ∷ w) r.1 ∙ ap (λ w. w ++ r.0) (sym p.whole)) f.is in
    let none : r.0 ≡ [] = l (after_number p.first (p.more ++ after)).0 r.0 _ r.2 longer in
    let back : after ≡ (after_number p.first (p.more ++ after)).1 =
    r.2 ∙ ap (λ w. w ++ (after_number p.first (p.more ++ after)).1) none in
    let sizes : length after ≡ length (after_number p.first (p.more ++ after)).1 = ap length back in
    let kinds : (after_number p.first (p.more ++ after)).0 ≡ big = p.found.same (omega arith) in
    let long : length s ≡ length (p.first ∷ p.more) = ap length p.whole in
    ap (λ w. number_end at (w ++ after)) p.whole
    ∙ (end_by at p.first (p.more ++ after)
    ∙ ap2 (λ v n. record { big = v; end = n }) kinds
    (let q : at + (length (p.first ∷ (p.more ++ after)) - length (after_number p.first (p.more ++ after)).1)
    ≡ at + length s = omega (arith, length-append p.more after) in q))

number_is_by : (at : ℕ) (big : Bool) (s after : List ℕ) → IsNumber big s → IsLongestNumber s after
    → Spelled big s after → number_end at (s ++ after) ≡ record { big = big; end = at + length s }
number_is_by at big s after i l p =
    let starts : begins_number (p.first ∷ (p.more ++ after)) ≡ true =
    ap (λ w. begins_number (w ++ after)) (sym p.whole) ∙ begins big s after i in
    is_by at big s after i l p
    (start_found p.first (p.more ++ after) (p.first == 46) (p.first == 48) refl refl starts)

pub number_is : (at : ℕ) (big : Bool) (s after : List ℕ) → IsNumber big s → IsLongestNumber s after
    → number_end at (s ++ after) ≡ record { big = big; end = at + length s }
number_is at big s after i l = number_is_by at big s after i l (spelled big s after i)
