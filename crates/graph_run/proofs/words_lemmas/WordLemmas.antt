-- Numbers as words.
use Rattle.std.proofs.Common.{zero, suc, ◌≡◌, ◌≤◌, ◌<◌, ◌^◌, ℕ, Bool, true, false, List, [], ◌∷◌, length, get_or, refl, sym, ◌∙◌, ap, subst, arith, Result, Ok, Err, Option, Some, None}
use Rattle.std.specs.Prelude.{◌↔◌, decimal, ◌==◌, ◌||◌, not}
use Rattle.std.specs.Str.Parse.{AllDigits, digits_value, ParsesUnsigned}
use Rattle.std.proofs.lemmas.Str.Parse.{IsNumeralModel, numerals_by_value, tells_digits, parse_plain}
use Rattle.std.proofs.lemmas.Bool.{eqb-true}
use Rattle.std.proofs.lemmas.Fmt.{decimal-digits_value, first_decimal, decimal_digit, parse-decimal}
use Rattle.graph_run.specs.words.Words.{IsCount, is_plain}

own : IsNumeralModel (AllDigits 10) (digits_value 10)
own = numerals_by_value (AllDigits 10) tells_digits

-- a plain word begins neither with a sign nor with a zero
no_sign : (word : List ℕ) → is_plain word ≡ true → get_or word 0 0 ≡ 43 → ⊥
no_sign [] h is = cc
no_sign (b ∷ word) h is = let no : is_plain (43 ∷ word) ≡ true = subst (λ (c : ℕ). is_plain (c ∷ word) ≡ true) is h in
    cc

no_zero : (word : List ℕ) → is_plain word ≡ true → get_or word 0 0 ≡ 48 → ⊥
no_zero [] h is = cc
no_zero (b ∷ word) h is = let no : is_plain (48 ∷ word) ≡ true = subst (λ (c : ℕ). is_plain (c ∷ word) ≡ true) is h in
    cc

-- what is read of such a word is its number
pub count_read : {E : Type 0} (word : List ℕ) (r : Result ℕ E) (n : ℕ) → ParsesUnsigned 32 10 word r
    → is_plain word ≡ true
    → r ≡ Ok n → (most : ℕ) → most ≤ 1000000 → n ≤ most → IsCount most n word
count_read {E} word r n parsed plain is most low le =
    let read : ParsesUnsigned {E = E} 32 10 word (Ok n) = subst (ParsesUnsigned {E = E} 32 10 word) is parsed in
    let told : (AllDigits 10 word × (0 < length word) × (digits_value 10 word < 2 ^ 32)) × (n ≡ digits_value 10 word) =
    parse_plain own {E = E} 32 word (Ok n) read (no_sign word plain) in
    let (numeral, value) = told in
    let (digits, some, small) = numeral in
    let same : decimal (digits_value 10 word) ≡ word =
    decimal-digits_value own word digits some (λ zero. absurd (no_zero word plain zero)) (omega (arith, small)) in
    let written : word ≡ decimal n = sym same ∙ ap decimal (sym value) in
    (written, positive n written, le)
  where
    positive : (m : ℕ) → word ≡ decimal m → 1 ≤ m
    positive zero w = absurd
        (no_zero word plain (ap (λ (ds : List ℕ). get_or ds 0 0) (w ∙ decimal_digit 0 (omega arith))))
    positive (suc m) w = omega arith

-- a number's word is plain
pub count_plain : (word : List ℕ) (most n : ℕ) → most ≤ 1000000 → IsCount most n word → is_plain word ≡ true
count_plain word most n low (written, some, le) =
    by word (subst (λ (ds : List ℕ). 48 < get_or ds 0 0) (sym written)
    (first_decimal n (omega (arith, some)) (omega (arith, le, low))))
  where
    by : (ds : List ℕ) → 48 < get_or ds 0 0 → is_plain ds ≡ true
    by [] lt = absurd (omega arith)
    by (b ∷ ds) lt = high (b == 43) (b == 48) refl refl
      where
        high : (s z : Bool) → (b == 43) ≡ s → (b == 48) ≡ z → not (s || z) ≡ true
        high true z h k = absurd (let is = eqb-true b 43 h in omega (arith, is, lt))
        high false true h k = absurd (let is = eqb-true b 48 k in omega (arith, is, lt))
        high false false h k = refl

-- and is read
pub count_written : {E : Type 0} (word : List ℕ) (r : Result ℕ E) (most n : ℕ) → most ≤ 1000000
    → ParsesUnsigned 32 10 word r → IsCount most n word → r ≡ Ok n
count_written word r most n low parsed (written, some, le) =
    parse-decimal 32 n word r (omega (arith, le, low)) (omega (arith, le, low)) written parsed

-- ---- what `count_of` answers

module _ (word : List ℕ) (most : ℕ) (low : most ≤ 1000000) where
  pub none_unplain : is_plain word ≡ false → (n : ℕ) → (◌≡◌ {A = Option ℕ} None (Some n)) ↔ IsCount most n word
  none_unplain unplain n =
      (λ is. absurd cc, λ counted. absurd (let yes : is_plain word ≡ true = count_plain word most n low counted in cc))

  pub some_read : {E : Type 0} (r : Result ℕ E) (m : ℕ) → ParsesUnsigned 32 10 word r → is_plain word ≡ true
      → r ≡ Ok m → m ≤ most → (n : ℕ) → (◌≡◌ {A = Option ℕ} (Some m) (Some n)) ↔ IsCount most n word
  some_read {E} r m parsed plain is le n = (
    λ same.
        let one : m ≡ n = cc in
        subst (λ (k : ℕ). IsCount most k word) one (count_read word r m parsed plain is most low le),
    λ counted.
        let both : ◌≡◌ {A = Result ℕ E} (Ok m) (Ok n) = sym is ∙ count_written word r most n low parsed counted in cc,
  )

  pub none_large : {E : Type 0} (r : Result ℕ E) (m : ℕ) → ParsesUnsigned 32 10 word r → r ≡ Ok m → most < m
      → (n : ℕ) → (◌≡◌ {A = Option ℕ} None (Some n)) ↔ IsCount most n word
  none_large {E} r m parsed is large n = (
    λ same. absurd cc,
    λ counted.
        let both : ◌≡◌ {A = Result ℕ E} (Ok m) (Ok n) = sym is ∙ count_written word r most n low parsed counted in
        let one : m ≡ n = cc in absurd (omega (arith, one, large, counted.2)),
  )

  pub none_unread : {E : Type 0} (r : Result ℕ E) (e : E) → ParsesUnsigned 32 10 word r → r ≡ Err e
      → (n : ℕ) → (◌≡◌ {A = Option ℕ} None (Some n)) ↔ IsCount most n word
  none_unread {E} r e parsed is n = (
    λ same. absurd cc,
    λ counted. absurd
        (let both : ◌≡◌ {A = Result ℕ E} (Err e) (Ok n) = sym is ∙ count_written word r most n low parsed counted in
        cc),
  )
