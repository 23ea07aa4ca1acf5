-- Forgiving base64 in the steps of the Infra Standard ("forgiving-base64 decode"): digits of six bits, four at a time, with
-- the spare bits of a shorter last group discarded.
use Rattle.std.proofs.Common.{◌≡◌, ◌≢◌, ◌∙◌, sym, ap, subst, refl, ℕ, zero, suc, ◌+◌, ◌-◌, ◌*◌, ◌/◌, ◌%◌, ◌<◌, ◌==◌, true, List, [], ◌∷◌, ◌++◌, map, length, arith}
use Rattle.std.specs.Prelude.{Some, slice_index, slice_set, position}
use Rattle.std.specs.List.{AllByRecursion}
use Rattle.std.proofs.lemmas.Bool.{eqb-true}
use Rattle.std.proofs.lemmas.List.Quantifiers.{position-Some}
use Rattle.base64.specs.Rfc4648.{encode_symbols}
use Rattle.data_specifier.specs.Forgiving.{alphabet, spare, masked_at, masked_digit, masked}

-- the digit's place among the digits t is its value
abbrev pub HasValue : List ℕ → ℕ → ℕ → Type 0
HasValue t value digit = position (λ d. d == digit) t ≡ Some value

-- a value and its digit
abbrev pub Pair : Type 0
Pair = ℕ × ℕ

abbrev pub values_in : List Pair → List ℕ
values_in pairs = map (λ (p : Pair). p.0) pairs

abbrev pub digits_in : List Pair → List ℕ
digits_in pairs = map (λ (p : Pair). p.1) pairs

-- each value is that of its digit
abbrev pub AreDigits : List ℕ → List Pair → Type 0
AreDigits t pairs = AllByRecursion (λ (p : Pair). HasValue t p.0 p.1) pairs

-- the bytes of values of six bits each: 24 bits are three bytes; of 18 bits the last two and of 12 bits the last four are
-- discarded
abbrev pub bytes_of : List ℕ → List ℕ
bytes_of [] = []
bytes_of (a ∷ []) = []
bytes_of (a ∷ b ∷ []) = (a * 4 + b / 16) ∷ []
bytes_of (a ∷ b ∷ c ∷ []) = (a * 4 + b / 16) ∷ (b % 16 * 16 + c / 4) ∷ []
bytes_of (a ∷ b ∷ c ∷ d ∷ more) = (a * 4 + b / 16) ∷ (b % 16 * 16 + c / 4) ∷ (c % 4 * 64 + d) ∷ bytes_of more

-- the definition's masking, over any digits
abbrev masked_by : List ℕ → List ℕ → List ℕ
masked_by t ds =
    let last = length ds - 1 in slice_set ds last (masked_digit t (spare (length ds)) (slice_index ds last))

module _ (t : List ℕ) (full : length t ≡ 64) where
  -- a digit stands at its value
  at_value : (v d : ℕ) → HasValue t v d → slice_index t v ≡ d
  at_value v d is = eqb-true _ d (position-Some (λ x. x == d) t v 0 is).1

  small : (v d : ℕ) → HasValue t v d → v < 64
  small v d is = let within = (position-Some (λ x. x == d) t v 0 is).0 in omega (arith, within, full)

  -- the whole groups in front of more digits stay
  masked-group : (p q r s e : ℕ) (ds : List ℕ)
      → masked_by t (p ∷ q ∷ r ∷ s ∷ e ∷ ds) ≡ p ∷ q ∷ r ∷ s ∷ masked_by t (e ∷ ds)
  masked-group p q r s e ds =
      let n : ℕ = length ds in
      let far : suc (suc (suc (suc (suc n)))) - 1 ≡ suc (suc (suc (suc n))) = omega arith in
      let near : suc n - 1 ≡ n = omega arith in
      let same : suc (suc (suc (suc (suc n)))) % 4 ≡ suc n % 4 = omega arith in
      rw (far, near, same) refl

  one_group : (p q a b : ℕ) → HasValue t a p → HasValue t b q
      → masked_by t (p ∷ q ∷ []) ≡ encode_symbols t ((a * 4 + b / 16) ∷ [])
  unfolding encode_symbols
  one_group p q a b of_p of_q =
      let high : b < 64 = small b q of_q in
      let first : (a * 4 + b / 16) / 4 ≡ a = omega arith in
      let second : (a * 4 + b / 16) % 4 * 16 ≡ b / 16 * 16 = omega arith in
      rw (of_q, first, second, at_value a p of_p) refl

  two_bytes : (p q r a b c : ℕ) → HasValue t a p → HasValue t b q → HasValue t c r
      → masked_by t (p ∷ q ∷ r ∷ []) ≡ encode_symbols t ((a * 4 + b / 16) ∷ (b % 16 * 16 + c / 4) ∷ [])
  unfolding encode_symbols
  two_bytes p q r a b c of_p of_q of_r =
      let high : b < 64 = small b q of_q in
      let also : c < 64 = small c r of_r in
      let first : (a * 4 + b / 16) / 4 ≡ a = omega arith in
      let second : (a * 4 + b / 16) % 4 * 16 + (b % 16 * 16 + c / 4) / 16 ≡ b = omega arith in
      let third : (b % 16 * 16 + c / 4) % 16 * 4 ≡ c / 4 * 4 = omega arith in
      rw (of_r, first, second, third, at_value a p of_p, at_value b q of_q) refl

  -- three bytes in front of others are four digits in front of theirs
  encode-group : (p q r s a b c d : ℕ) (bytes : List ℕ) → HasValue t a p → HasValue t b q → HasValue t c r
      → HasValue t d s
      → encode_symbols t ((a * 4 + b / 16) ∷ (b % 16 * 16 + c / 4) ∷ (c % 4 * 64 + d) ∷ bytes)
      ≡ p ∷ q ∷ r ∷ s ∷ encode_symbols t bytes
  unfolding encode_symbols
  encode-group p q r s a b c d bytes of_p of_q of_r of_s =
      let high : b < 64 = small b q of_q in
      let also : c < 64 = small c r of_r in
      let last : d < 64 = small d s of_s in
      let first : (a * 4 + b / 16) / 4 ≡ a = omega arith in
      let second : (a * 4 + b / 16) % 4 * 16 + (b % 16 * 16 + c / 4) / 16 ≡ b = omega arith in
      let third : (b % 16 * 16 + c / 4) % 16 * 4 + (c % 4 * 64 + d) / 64 ≡ c = omega arith in
      let fourth : (c % 4 * 64 + d) % 64 ≡ d = omega arith in
      rw (first, second, third, fourth, at_value a p of_p, at_value b q of_q, at_value c r of_r, at_value d s of_s) refl

  masked-four : (p q r s d : ℕ) → HasValue t d s → masked_by t (p ∷ q ∷ r ∷ s ∷ []) ≡ p ∷ q ∷ r ∷ s ∷ []
  masked-four p q r s d of_s =
      let whole : d / 1 * 1 ≡ d = omega arith in
      rw (of_s, whole, at_value d s of_s) refl

  encode-none : encode_symbols t [] ≡ []
  unfolding encode_symbols
  encode-none = refl

  -- digits, masked, are the base64 of the bytes of their values
  pub masked-encodes : (pairs : List Pair) → AreDigits t pairs → length (digits_in pairs) % 4 ≢ 1
      → masked_by t (digits_in pairs) ≡ encode_symbols t (bytes_of (values_in pairs))
  masked-encodes [] have rest = sym encode-none
  masked-encodes (x ∷ []) have rest = absurd (rest refl)
  masked-encodes (x ∷ y ∷ []) have rest = one_group x.1 y.1 x.0 y.0 have.0 have.1.0
  masked-encodes (x ∷ y ∷ z ∷ []) have rest = two_bytes x.1 y.1 z.1 x.0 y.0 z.0 have.0 have.1.0 have.1.1.0
  masked-encodes (x ∷ y ∷ z ∷ w ∷ []) have rest =
      masked-four x.1 y.1 z.1 w.1 w.0 have.1.1.1.0
      ∙ ap (λ l. x.1 ∷ y.1 ∷ z.1 ∷ w.1 ∷ l) (sym encode-none)
      ∙ sym (encode-group x.1 y.1 z.1 w.1 x.0 y.0 z.0 w.0 [] have.0 have.1.0 have.1.1.0 have.1.1.1.0)
  masked-encodes (x ∷ y ∷ z ∷ w ∷ v ∷ more) have rest =
      let on : length (digits_in (v ∷ more)) % 4 ≢ 1 = λ same. rest (omega arith) in
      masked-group x.1 y.1 z.1 w.1 v.1 (digits_in more)
      ∙ ap (λ l. x.1 ∷ y.1 ∷ z.1 ∷ w.1 ∷ l) (masked-encodes (v ∷ more) have.1.1.1.1 on)
      ∙ sym (encode-group x.1 y.1 z.1 w.1 x.0 y.0 z.0 w.0 (bytes_of (values_in (v ∷ more))) have.0 have.1.0 have.1.1.0
      have.1.1.1.0)

  -- the bytes of values are bytes
  pub bytes_of-small : (pairs : List Pair) → AreDigits t pairs
      → AllByRecursion (λ b. b < 256) (bytes_of (values_in pairs))
  bytes_of-small [] have = tt
  bytes_of-small (x ∷ []) have = tt
  bytes_of-small (x ∷ y ∷ []) have =
      let a = small x.0 x.1 have.0 in let b = small y.0 y.1 have.1.0 in (omega (arith, a, b), tt)
  bytes_of-small (x ∷ y ∷ z ∷ []) have =
      let a = small x.0 x.1 have.0 in let b = small y.0 y.1 have.1.0 in let c = small z.0 z.1 have.1.1.0 in
      (omega (arith, a, b), (omega (arith, b, c), tt))
  bytes_of-small (x ∷ y ∷ z ∷ w ∷ more) have =
      let a = small x.0 x.1 have.0 in let b = small y.0 y.1 have.1.0 in let c = small z.0 z.1 have.1.1.0 in
      let d = small w.0 w.1 have.1.1.1.0 in
      (omega (arith, a, b), (omega (arith, b, c), (omega (arith, c, d), bytes_of-small more have.1.1.1.1)))

-- each place of a list of bytes, and behind its end
pub each_below : (bytes : List ℕ) → AllByRecursion (λ b. b < 256) bytes → (i : ℕ) → slice_index bytes i < 256
each_below [] each i = omega arith
each_below (b ∷ bytes) each zero = each.0
each_below (b ∷ bytes) each (suc i) = each_below bytes each.1 i
