-- A number that is told by its decimal digits alone is the one that is found.
use Rattle.std.proofs.Common.{◌≡◌, ℕ, ◌+◌, ◌≤◌, Bool, true, false, ◌||◌, ◌==◌, List, [], ◌∷◌, length, drop, get_or, Some, None, if◌then◌else◌, refl, sym, ◌∙◌, ap, subst, arith, eqb-true, true≢false}
use Rattle.std.specs.Char.{is_ascii_digit}
use Rattle.es_literal.specs.spelling.Units.{units_rest}
use Rattle.es_literal.specs.declared.spelling.number.NumberEnd.{NumberEnd}
use Rattle.es_literal.specs.declared.spelling.number.Radix.TheVariants.{Decimal}
use Rattle.es_literal.specs.spelling.Numbers.{is_digit, digit_unit, digits_rest, fraction_rest, exponent_rest, after_whole, after_number, number_end}
use Rattle.es_literal.proofs.spelling_lemmas.UnitLemmas.{ap2}
use Rattle.es_lexer.specs.Bytes.{is_part}
use Rattle.es_lexer.specs.Spans.{plain_stop}

some_same : (x y : ℕ) → Some x ≡ Some y → x ≡ y
some_same x y e = cc

unlike_by : (b n : ℕ) (v : Bool) → (b == n) ≡ v → (b ≡ n → ⊥) → (b == n) ≡ false
unlike_by b n true e f = absurd (f (eqb-true b n e))
unlike_by b n false e f = e

unlike : (b n : ℕ) → (b ≡ n → ⊥) → (b == n) ≡ false
unlike b n f = unlike_by b n (b == n) refl f

no_byte_by : (b k : ℕ) (v : Bool) → (b == k) ≡ v → is_part k ≡ true → is_part b ≡ false → (b == k) ≡ false
no_byte_by b k true e h n = absurd (true≢false (sym h ∙ (ap is_part (sym (eqb-true b k e)) ∙ n)))
no_byte_by b k false e h n = e

-- what is no part of a name isn't this part
no_byte : (b k : ℕ) → is_part k ≡ true → is_part b ≡ false → (b == k) ≡ false
no_byte b k h n = no_byte_by b k (b == k) refl h n

digit_passed : (b : ℕ) (rest : List ℕ) → is_ascii_digit b ≡ true
    → digits_rest Decimal (b ∷ rest) ≡ digits_rest Decimal rest
unfolding digits_rest digit_unit is_digit units_rest
digit_passed b rest d = rw d refl

digits_done : (b : ℕ) (rest : List ℕ) → is_ascii_digit b ≡ false → is_part b ≡ false
    → digits_rest Decimal (b ∷ rest) ≡ b ∷ rest
unfolding digits_rest digit_unit is_digit units_rest
digits_done b rest d n = rw (d, no_byte b 95 refl n) refl

no_fraction : (b : ℕ) (rest : List ℕ) → (b == 46) ≡ false → fraction_rest (b ∷ rest) ≡ b ∷ rest
unfolding fraction_rest
no_fraction b rest p = rw p refl

no_exponent : (b : ℕ) (rest : List ℕ) → is_part b ≡ false → exponent_rest (b ∷ rest) ≡ b ∷ rest
unfolding exponent_rest
no_exponent b rest n = rw (no_byte b 101 refl n, no_byte b 69 refl n) refl

abbrev small : List ℕ → Bool × List ℕ
small t = (false, t)

whole_done : (b : ℕ) (rest : List ℕ) → (b == 46) ≡ false → is_part b ≡ false → after_whole (b ∷ rest) ≡ small (b ∷ rest)
unfolding after_whole
whole_done b rest p n =
    rw (no_byte b 110 refl n) (ap small (ap exponent_rest (no_fraction b rest p) ∙ no_exponent b rest n))

-- decimal digits end here, and nothing goes on behind them
record Plain (at end : ℕ) (text : List ℕ) : Type 0 where
  from : at ≤ end
  is_small : (after_whole (digits_rest Decimal text)).0 ≡ false
  place : end + length (after_whole (digits_rest Decimal text)).1 ≡ at + length text

as_plain : (at : ℕ) (text : List ℕ) → after_whole (digits_rest Decimal text) ≡ small text → Plain at at text
as_plain at text e = record {
  from = omega arith;
  is_small = ap (λ (r : Bool × List ℕ). r.0) e;
  place = ap (λ (r : Bool × List ℕ). at + length r.1) e;
}

none_left : after_whole (digits_rest Decimal []) ≡ small []
unfolding after_whole digits_rest units_rest
none_left = refl

plain_more : (at end b : ℕ) (rest : List ℕ) → is_ascii_digit b ≡ true → Plain (at + 1) end rest
    → Plain at end (b ∷ rest)
plain_more at end b rest d on =
    let same : digits_rest Decimal (b ∷ rest) ≡ digits_rest Decimal rest = digit_passed b rest d in
    let long : end + length (after_whole (digits_rest Decimal (b ∷ rest))).1
    ≡ end + length (after_whole (digits_rest Decimal rest)).1 =
    ap (λ t. end + length (after_whole t).1) same in
    record {
      from = omega (arith, on.from);
      is_small = ap (λ t. (after_whole t).0) same ∙ on.is_small;
      place = long ∙ (on.place ∙ omega arith);
    }

stop_step : (at end b : ℕ) (rest : List ℕ) (u v w : Bool) → is_ascii_digit b ≡ u → (b == 46) ≡ v → is_part b ≡ w
    → (if u then plain_stop (at + 1) rest else (if v || w then None else Some at)) ≡ Some end
    → (plain_stop (at + 1) rest ≡ Some end → Plain (at + 1) end rest) → Plain at end (b ∷ rest)
stop_step at end b rest true v w d p n e more = plain_more at end b rest d (more e)
stop_step at end b rest false true w d p n e more = absurd cc
stop_step at end b rest false false true d p n e more = absurd cc
stop_step at end b rest false false false d p n e more =
    subst (λ m. Plain at m (b ∷ rest)) (some_same at end e)
    (as_plain at (b ∷ rest) (ap after_whole (digits_done b rest d n) ∙ whole_done b rest p n))

stop_found : (at end : ℕ) (text : List ℕ) → plain_stop at text ≡ Some end → Plain at end text
unfolding plain_stop
stop_found at end [] e = subst (λ m. Plain at m []) (some_same at end e) (as_plain at [] none_left)
stop_found at end (b ∷ rest) e =
    stop_step at end b rest (is_ascii_digit b) (b == 46) (is_part b) refl refl refl e
    (λ f. stop_found (at + 1) end rest f)

abbrev pub ended : Bool → ℕ → NumberEnd
ended big end = record { big = big; end = end }

-- the number that is told, and where it ends
pub record Told (start end : ℕ) (text : List ℕ) : Type 0 where
  pub value : ended false end ≡ number_end start text
  pub from : start ≤ end
  pub within : end ≤ start + length text

plain_number : (start end b : ℕ) (rest : List ℕ) → (b == 46) ≡ false → (b == 48) ≡ false → Plain (start + 1) end rest
    → number_end start (b ∷ rest) ≡ ended false end
unfolding number_end after_number
plain_number start end b rest p z on =
    rw (p, z) (ap2 ended on.is_small (omega (arith, on.place, on.from)))

pub number_told : (start end : ℕ) (text t : List ℕ) → 1 ≤ length text → (get_or text 0 0 ≡ 46 → ⊥)
    → (get_or text 0 0 ≡ 48 → ⊥) → t ≡ drop 1 text → plain_stop (start + 1) t ≡ Some end → Told start end text
number_told start end [] t l p z d e = absurd (omega arith)
number_told start end (b ∷ rest) t l p z d e =
    let on : Plain (start + 1) end rest = stop_found (start + 1) end rest (ap (plain_stop (start + 1)) (sym d) ∙ e) in
    record {
      value = sym (plain_number start end b rest (unlike b 46 p) (unlike b 48 z) on);
      from = omega (arith, on.from);
      within = omega (arith, on.place);
    }
