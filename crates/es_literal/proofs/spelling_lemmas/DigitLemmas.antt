-- Digits are read to their end, and no further.
use Rattle.std.proofs.Common.{◌≡◌, ℕ, ◌≤◌, ◌<◌, Bool, true, false, ◌&&◌, ◌||◌, ◌==◌, List, [], ◌∷◌, ◌++◌, length, refl, sym, ◌∙◌, ap, subst, arith, length-append, eqb-true, inl, inr}
use Rattle.std.proofs.lemmas.Bool.Decides.{nat_tests}
use Rattle.es_literal.specs.declared.spelling.number.Radix.{Radix}
use Rattle.es_literal.specs.declared.spelling.number.Radix.TheVariants.{Decimal}
use Rattle.es_literal.specs.spelling.Units.{concat, AreUnits, units_rest}
use Rattle.es_literal.specs.spelling.Numbers.{is_digit, begins_digit, digit_unit, digits_rest, IsRun, IsDigits, ArePlaces, IsFraction, IsSigned, IsExponent, places_rest, fraction_rest, power_rest, signed_rest, exponent_rest}
use Rattle.es_literal.proofs.spelling_lemmas.UnitLemmas.{Within, Units, units, rest_units, rest_stops}
use Rattle.es_literal.proofs.spelling_lemmas.ReaderLemmas.{Cut, Reader, Both, both}

-- ---- units
and_no : (u : Bool) → (u && false) ≡ true → ⊥
and_no true e = cc
and_no false e = cc

within_by : (r : Radix) (b : ℕ) (rest : List ℕ) (u v : Bool) → is_digit r b ≡ u
    → (b == 95 && begins_digit r rest) ≡ v → digit_unit r (b ∷ rest) ≤ length (b ∷ rest)
unfolding digit_unit begins_digit
within_by r b rest true v p q = rw p (omega arith)
within_by r b [] false true p q = absurd (and_no (b == 95) q)
within_by r b (c ∷ rest) false true p q = rw (p, q) (omega arith)
within_by r b rest false false p q = rw (p, q) (omega arith)

digit_within : (r : Radix) → Within (digit_unit r)
unfolding digit_unit
digit_within r [] = omega arith
digit_within r (b ∷ rest) = within_by r b rest (is_digit r b) (b == 95 && begins_digit r rest) refl refl

-- a unit is one whatever stands behind it
unit_two : (r : Radix) (b : ℕ) (t : List ℕ) → is_digit r b ≡ false → (b == 95 && begins_digit r t) ≡ true
    → digit_unit r (b ∷ t) ≡ 2
unfolding digit_unit
unit_two r b t p q = rw (p, q) refl

unit_none : (r : Radix) (b : ℕ) (t : List ℕ) → is_digit r b ≡ false → (b == 95 && begins_digit r t) ≡ false
    → digit_unit r (b ∷ t) ≡ 0
unfolding digit_unit
unit_none r b t p q = rw (p, q) refl

one_by : (r : Radix) (b : ℕ) (t w : List ℕ) (u v : Bool) → is_digit r b ≡ u → (b == 95 && begins_digit r t) ≡ v
    → digit_unit r (b ∷ t) ≡ 1 → digit_unit r (b ∷ w) ≡ 1
unfolding digit_unit
one_by r b t w true v p q e = rw p refl
one_by r b t w false true p q e =
    let f : digit_unit r (b ∷ t) ≡ 2 = unit_two r b t p q in absurd (omega arith)
one_by r b t w false false p q e =
    let f : digit_unit r (b ∷ t) ≡ 0 = unit_none r b t p q in absurd (omega arith)

digit_same : (r : Radix) (u t w : List ℕ) → 0 < length u → digit_unit r (u ++ t) ≡ length u
    → digit_unit r (u ++ w) ≡ length u
unfolding digit_unit begins_digit
digit_same r [] t w l e = absurd (omega arith)
digit_same r (b ∷ []) t w l e = one_by r b t w (is_digit r b) (b == 95 && begins_digit r t) refl refl e
digit_same r (b ∷ c ∷ u) t w l e = e

same_units : (r : Radix) (us : List (List ℕ)) (t w : List ℕ) → AreUnits (digit_unit r) us t
    → AreUnits (digit_unit r) us w
same_units r [] t w h = tt
same_units r (u ∷ us) t w h =
    (digit_same r u (concat us ++ t) (concat us ++ w) h.1 h.0, h.1, same_units r us t w h.2)

-- ---- runs
run_cut : (r : Radix) (t : List ℕ) → Units (digit_unit r) 0 t → Cut (IsRun r) t (digits_rest r t)
unfolding digits_rest
run_cut r t u = record {
  part = concat u.units;
  whole = u.whole ∙ ap (λ b. concat u.units ++ b) (sym u.rest);
  is = record { units = u.units; each = same_units r u.units u.back [] u.each; whole = refl };
}

run_sound : (r : Radix) (t : List ℕ) → Cut (IsRun r) t (digits_rest r t)
run_sound r t = run_cut r t (units (digit_unit r) (digit_within r) 0 t)

run_less : (r : Radix) (t : List ℕ) → length (digits_rest r t) ≤ length t
run_less r t =
    let c : Cut (IsRun r) t (digits_rest r t) = run_sound r t in
    let size : length t ≡ length (c.part ++ digits_rest r t) = ap length c.whole in
    omega (arith, length-append c.part (digits_rest r t))

run_passes : (r : Radix) (u t : List ℕ) → IsRun r u → digits_rest r (u ++ t) ≡ digits_rest r t
unfolding digits_rest
run_passes r u t i =
    ap (λ v. units_rest (digit_unit r) 0 (v ++ t)) i.whole
    ∙ rest_units (digit_unit r) i.units t (same_units r i.units [] t i.each)

pub run_reader : (r : Radix) → Reader (IsRun r) (digits_rest r)
run_reader r = record {
  sound = run_sound r;
  reach = λ u t i. subst (λ v. length v ≤ length t) (sym (run_passes r u t i)) (run_less r t);
}

pub run_ends : (r : Radix) (u t : List ℕ) → IsRun r u → digit_unit r t ≡ 0 → digits_rest r (u ++ t) ≡ t
unfolding digits_rest
run_ends r u t i e = run_passes r u t i ∙ rest_stops (digit_unit r) t e

-- ---- places
places_by : (d : ℕ) (t : List ℕ) (v : Bool) → is_digit Decimal d ≡ v → Cut ArePlaces (d ∷ t) (places_rest (d ∷ t))
unfolding places_rest
places_by d t true p =
    let c : Cut (IsRun Decimal) t (digits_rest Decimal t) = run_sound Decimal t in
    rw p (record {
      part = d ∷ c.part;
      whole = ap (λ w. d ∷ w) c.whole;
      is = inr (record { first = d; more = c.part; digit = p; run = c.is; whole = refl });
    })
places_by d t false p = rw p (record { part = []; whole = refl; is = inl refl })

places_sound : (t : List ℕ) → Cut ArePlaces t (places_rest t)
unfolding places_rest
places_sound [] = record { part = []; whole = refl; is = inl refl }
places_sound (d ∷ t) = places_by d t (is_digit Decimal d) refl

places_less : (t : List ℕ) → length (places_rest t) ≤ length t
places_less t =
    let c : Cut ArePlaces t (places_rest t) = places_sound t in
    let size : length t ≡ length (c.part ++ places_rest t) = ap length c.whole in
    omega (arith, length-append c.part (places_rest t))

digits_pass : (u t : List ℕ) → IsDigits Decimal u → (d : IsDigits Decimal u)
    → places_rest (u ++ t) ≡ digits_rest Decimal (d.more ++ t)
unfolding places_rest
digits_pass u t i d = ap (λ v. places_rest (v ++ t)) d.whole ∙ rw d.digit refl

places_reach : (u t : List ℕ) → ArePlaces u → length (places_rest (u ++ t)) ≤ length t
places_reach u t (inl e) = subst (λ v. length (places_rest (v ++ t)) ≤ length t) (sym e) (places_less t)
places_reach u t (inr d) =
    subst (λ v. length v ≤ length t) (sym (digits_pass u t d d)) ((run_reader Decimal).reach d.more t d.run)

pub places_reader : Reader ArePlaces places_rest
places_reader = record { sound = places_sound; reach = places_reach }

-- what is neither a digit nor `_` ends places
pub places_end : (u : List ℕ) (b : ℕ) (t : List ℕ) → ArePlaces u → is_digit Decimal b ≡ false → (b == 95) ≡ false
    → places_rest (u ++ b ∷ t) ≡ b ∷ t
unfolding places_rest digit_unit
places_end u b t (inl e) p q = ap (λ v. places_rest (v ++ b ∷ t)) e ∙ rw p refl
places_end u b t (inr d) p q =
    digits_pass u (b ∷ t) d d ∙ run_ends Decimal d.more (b ∷ t) d.run (rw (p, q) refl)

-- ---- fractions
fraction_by : (b : ℕ) (t : List ℕ) (v : Bool) → (b == 46) ≡ v → Cut IsFraction (b ∷ t) (fraction_rest (b ∷ t))
unfolding fraction_rest
fraction_by b t true p =
    let c : Cut ArePlaces t (places_rest t) = places_sound t in
    rw p (record {
      part = b ∷ c.part;
      whole = ap (λ w. b ∷ w) c.whole;
      is = (eqb-true b 46 p, c.is);
    })
fraction_by b t false p = rw p (record { part = []; whole = refl; is = tt })

fraction_sound : (t : List ℕ) → Cut IsFraction t (fraction_rest t)
unfolding fraction_rest
fraction_sound [] = record { part = []; whole = refl; is = tt }
fraction_sound (b ∷ t) = fraction_by b t (b == 46) refl

fraction_less : (t : List ℕ) → length (fraction_rest t) ≤ length t
fraction_less t =
    let c : Cut IsFraction t (fraction_rest t) = fraction_sound t in
    let size : length t ≡ length (c.part ++ fraction_rest t) = ap length c.whole in
    omega (arith, length-append c.part (fraction_rest t))

point_is : (t : List ℕ) → fraction_rest (46 ∷ t) ≡ places_rest t
unfolding fraction_rest
point_is t = refl

fraction_reach : (u t : List ℕ) → IsFraction u → length (fraction_rest (u ++ t)) ≤ length t
fraction_reach [] t i = fraction_less t
fraction_reach (b ∷ u) t i =
    subst (λ v. length v ≤ length t) (sym (ap (λ c. fraction_rest (c ∷ (u ++ t))) i.0 ∙ point_is (u ++ t)))
    (places_reach u t i.1)

pub fraction_reader : Reader IsFraction fraction_rest
fraction_reader = record { sound = fraction_sound; reach = fraction_reach }

pub fraction_end : (u : List ℕ) (b : ℕ) (t : List ℕ) → IsFraction u → is_digit Decimal b ≡ false → (b == 95) ≡ false
    → (b == 46) ≡ false → fraction_rest (u ++ b ∷ t) ≡ b ∷ t
unfolding fraction_rest
fraction_end [] b t i p q r = rw r refl
fraction_end (c ∷ u) b t i p q r =
    ap (λ d. fraction_rest (d ∷ (u ++ b ∷ t))) i.0 ∙ (point_is (u ++ b ∷ t) ∙ places_end u b t i.1 p q)

-- ---- exponents
-- the digits of one, or the text as it was
data PowerFound (text rest back : List ℕ) : Type 0 where
  power : (u : List ℕ) → rest ≡ u ++ back → IsDigits Decimal u → PowerFound text rest back
  no_power : back ≡ text → PowerFound text rest back

power_by : (text : List ℕ) (d : ℕ) (t : List ℕ) (v : Bool) → is_digit Decimal d ≡ v
    → PowerFound text (d ∷ t) (power_rest text (d ∷ t))
unfolding power_rest
power_by text d t true p =
    let c : Cut (IsRun Decimal) t (digits_rest Decimal t) = run_sound Decimal t in
    rw p (power (d ∷ c.part) (ap (λ w. d ∷ w) c.whole)
    (record { first = d; more = c.part; digit = p; run = c.is; whole = refl }))
power_by text d t false p = rw p (no_power refl)

power_finds : (text rest : List ℕ) → PowerFound text rest (power_rest text rest)
unfolding power_rest
power_finds text [] = no_power refl
power_finds text (d ∷ t) = power_by text d t (is_digit Decimal d) refl

empty_digits : IsDigits Decimal [] → ⊥
empty_digits d = let f : [] ≡ d.first ∷ d.more = d.whole in cc

digits_signed : (u : List ℕ) → IsDigits Decimal u → IsSigned u
digits_signed [] d = absurd (empty_digits d)
digits_signed (c ∷ u) d = inr d

exponent_cut : (b : ℕ) (rest back : List ℕ) → ((b == 101 || b == 69) ≡ true) → PowerFound (b ∷ rest) rest back
    → Cut IsExponent (b ∷ rest) back
exponent_cut b rest back e (no_power f) = record { part = []; whole = sym f; is = tt }
exponent_cut b rest back e (power u w d) = record {
  part = b ∷ u;
  whole = ap (λ v. b ∷ v) w;
  is = (e, digits_signed u d);
}

signed_cut : (b c : ℕ) (rest back : List ℕ) → ((b == 101 || b == 69) ≡ true) → ((c == 43 || c == 45) ≡ true)
    → PowerFound (b ∷ c ∷ rest) rest back → Cut IsExponent (b ∷ c ∷ rest) back
signed_cut b c rest back e s (no_power f) = record { part = []; whole = sym f; is = tt }
signed_cut b c rest back e s (power u w d) = record {
  part = b ∷ c ∷ u;
  whole = ap (λ v. b ∷ c ∷ v) w;
  is = (e, inl (s, d));
}

signed_by : (b c : ℕ) (rest : List ℕ) (v : Bool) → ((b == 101 || b == 69) ≡ true) → (c == 43 || c == 45) ≡ v
    → Cut IsExponent (b ∷ c ∷ rest) (signed_rest (b ∷ c ∷ rest) (c ∷ rest))
unfolding signed_rest
signed_by b c rest true e p = rw p (signed_cut b c rest _ e p (power_finds (b ∷ c ∷ rest) rest))
signed_by b c rest false e p = rw p (exponent_cut b (c ∷ rest) _ e (power_finds (b ∷ c ∷ rest) (c ∷ rest)))

letter_sound : (b : ℕ) (t : List ℕ) → ((b == 101 || b == 69) ≡ true) → Cut IsExponent (b ∷ t) (signed_rest (b ∷ t) t)
unfolding signed_rest
letter_sound b [] e = record { part = []; whole = refl; is = tt }
letter_sound b (c ∷ t) e = signed_by b c t (c == 43 || c == 45) e refl

exponent_by : (b : ℕ) (t : List ℕ) (v : Bool) → (b == 101 || b == 69) ≡ v
    → Cut IsExponent (b ∷ t) (exponent_rest (b ∷ t))
unfolding exponent_rest
exponent_by b t true p = rw p (letter_sound b t p)
exponent_by b t false p = rw p (record { part = []; whole = refl; is = tt })

exponent_sound : (t : List ℕ) → Cut IsExponent t (exponent_rest t)
unfolding exponent_rest
exponent_sound [] = record { part = []; whole = refl; is = tt }
exponent_sound (b ∷ t) = exponent_by b t (b == 101 || b == 69) refl

exponent_less : (t : List ℕ) → length (exponent_rest t) ≤ length t
exponent_less t =
    let c : Cut IsExponent t (exponent_rest t) = exponent_sound t in
    let size : length t ≡ length (c.part ++ exponent_rest t) = ap length c.whole in
    omega (arith, length-append c.part (exponent_rest t))

-- a digit is no sign
digit_no_sign : (c : ℕ) → is_digit Decimal c ≡ true → (c == 43 || c == 45) ≡ false
unfolding is_digit
digit_no_sign c e = grind (arith, nat_tests)

power_reach : (text u t : List ℕ) → IsDigits Decimal u → length (power_rest text (u ++ t)) ≤ length t
unfolding power_rest
power_reach text u t d =
    subst (λ v. length (power_rest text (v ++ t)) ≤ length t) (sym d.whole)
    (rw d.digit ((run_reader Decimal).reach d.more t d.run))

unsigned_by : (text u t : List ℕ) (d : IsDigits Decimal u)
    → signed_rest text (u ++ t) ≡ power_rest text (u ++ t)
unfolding signed_rest
unsigned_by text u t d =
    ap (λ v. signed_rest text (v ++ t)) d.whole ∙ (rw (digit_no_sign d.first d.digit) refl
    ∙ ap (λ v. power_rest text (v ++ t)) (sym d.whole))

signed_is : (text : List ℕ) (c : ℕ) (t : List ℕ) → (c == 43 || c == 45) ≡ true
    → signed_rest text (c ∷ t) ≡ power_rest text t
unfolding signed_rest
signed_is text c t e = rw e refl

signed_reach : (text u t : List ℕ) → IsSigned u → length (signed_rest text (u ++ t)) ≤ length t
signed_reach text [] t i = absurd i
signed_reach text (c ∷ u) t (inl p) =
    subst (λ v. length v ≤ length t) (sym (signed_is text c (u ++ t) p.0)) (power_reach text u t p.1)
signed_reach text (c ∷ u) t (inr d) =
    subst (λ v. length v ≤ length t) (sym (unsigned_by text (c ∷ u) t d)) (power_reach text (c ∷ u) t d)

exponent_is : (b : ℕ) (t : List ℕ) → (b == 101 || b == 69) ≡ true → exponent_rest (b ∷ t) ≡ signed_rest (b ∷ t) t
unfolding exponent_rest
exponent_is b t e = rw e refl

exponent_reach : (u t : List ℕ) → IsExponent u → length (exponent_rest (u ++ t)) ≤ length t
exponent_reach [] t i = exponent_less t
exponent_reach (b ∷ u) t i =
    subst (λ v. length v ≤ length t) (sym (exponent_is b (u ++ t) i.0)) (signed_reach (b ∷ (u ++ t)) u t i.1)

pub exponent_reader : Reader IsExponent exponent_rest
exponent_reader = record { sound = exponent_sound; reach = exponent_reach }

-- ---- a fraction and an exponent
letter_cases : (b : ℕ) (u v : Bool) → (b == 101) ≡ u → (b == 69) ≡ v → (u || v) ≡ true
    → (is_digit Decimal b ≡ false) × ((b == 95) ≡ false) × ((b == 46) ≡ false)
unfolding is_digit
letter_cases b true v p q e = let f : b ≡ 101 = eqb-true b 101 p in (rw f refl, rw f refl, rw f refl)
letter_cases b false true p q e = let f : b ≡ 69 = eqb-true b 69 q in (rw f refl, rw f refl, rw f refl)
letter_cases b false false p q e = cc

letter_by : (b : ℕ) → (b == 101 || b == 69) ≡ true
    → (is_digit Decimal b ≡ false) × ((b == 95) ≡ false) × ((b == 46) ≡ false)
letter_by b e = letter_cases b (b == 101) (b == 69) refl refl e

pub letter_ends : (b : ℕ) (q : List ℕ) → IsExponent (b ∷ q)
    → (is_digit Decimal b ≡ false) × ((b == 95) ≡ false) × ((b == 46) ≡ false)
letter_ends b q i = letter_by b i.0

pub tail_reader : Reader (Both IsFraction IsExponent) (λ t. exponent_rest (fraction_rest t))
tail_reader =
    both IsFraction IsExponent fraction_rest exponent_rest fraction_reader exponent_reader
    (λ u b q t f e. let l : (is_digit Decimal b ≡ false) × ((b == 95) ≡ false) × ((b == 46) ≡ false) =
    letter_ends b q e in fraction_end u b (q ++ t) f l.0 l.1 l.2)
