-- No quote stands in words, names, numbers, punctuators and flags.
use Rattle.std.proofs.Common.{◌≡◌, ℕ, zero, suc, ◌+◌, ◌*◌, ◌<◌, Bool, true, false, not, ◌&&◌, ◌||◌, ◌==◌, List, [], ◌∷◌, ◌++◌, length, Option, Some, None, refl, sym, ◌∙◌, ap, subst, arith, eqb-true, true≢false, nat_le, if◌then◌else◌, inl, inr}
use Rattle.std.specs.List.{AllByRecursion}
use Rattle.es_literal.specs.Strings.{is_quote}
use Rattle.es_literal.specs.declared.spelling.number.Radix.{Radix}
use Rattle.es_literal.specs.declared.spelling.number.Radix.TheVariants.{Binary, Octal, Decimal, Hexadecimal}
use Rattle.es_literal.specs.spelling.Units.{concat, AreUnits}
use Rattle.es_literal.specs.spelling.Numbers.{is_digit, radix_of, begins_digit, digit_unit, IsRun, IsDigits, ArePlaces, IsFraction, IsSigned, IsExponent, IsWhole, big_end, IsNumber, in_radix, zeros, integer, decimal, point}
use Rattle.es_unicode.specs.declared.escape.Escape.{Escape}
use Rattle.es_unicode.specs.Wide.{wide_size, wide_by, two_size, three_size, four_size, is_tail, tail_of, is_blank_of_two, is_blank_of_three, is_separator}
use Rattle.es_unicode.specs.Escapes.{is_hex, hex, four_escape, point_escape, braced_escape, unicode_escape, escape_at, is_name_part, size_if, escaped_part}
use Rattle.es_token.specs.declared.token.TokenKind.{TokenKind}
use Rattle.es_lexer.specs.Bytes.{is_part, part_unit, word_unit}
use Rattle.es_lexer.specs.Signs.{signs_of_one, signs_of_two, signs_of_three, sign_kind}
use Rattle.es_lexer.specs.Spelling.{AreParts, IsWord}
use Rattle.es_lexer.proofs.SignLemmas as mark
use Rattle.es_law_edits.proofs.tokens.Twins.{quote_fails, quote_two}

abbrev pub Unquoted : List ℕ → Type 0
Unquoted s = AllByRecursion (λ b. is_quote b ≡ false) s

pub both : (s t : List ℕ) → Unquoted s → Unquoted t → Unquoted (s ++ t)
both [] t p q = q
both (b ∷ s) t p q = (p.0, both s t p.1 q)

clash : (u : Bool) → u ≡ true → u ≡ false → ⊥
clash u e f = true≢false (sym e ∙ f)

-- no quote stands in such a text
pub no_quote : (s : List ℕ) (q : ℕ) (t : List ℕ) → Unquoted (s ++ q ∷ t) → is_quote q ≡ true → ⊥
no_quote [] q t h e = clash (is_quote q) e h.0
no_quote (b ∷ s) q t h e = no_quote s q t h.1 e

plain_by : (p : ℕ → Bool) (b : ℕ) (u : Bool) → is_quote b ≡ u → p 34 ≡ false → p 39 ≡ false → p b ≡ true
    → is_quote b ≡ false
plain_by p b true e f g h = absurd (clash (p b) h (quote_fails p b f g e))
plain_by p b false e f g h = e

-- a byte that passes a test which no quote passes
pub plain : (p : ℕ → Bool) (b : ℕ) → p 34 ≡ false → p 39 ≡ false → p b ≡ true → is_quote b ≡ false
plain p b f g h = plain_by p b (is_quote b) refl f g h

both_left : (u v : Bool) → (u && v) ≡ true → u ≡ true
both_left true v e = refl
both_left false v e = cc

both_right : (u v : Bool) → (u && v) ≡ true → v ≡ true
both_right true v e = e
both_right false v e = cc

-- a choice between a size and none is that size
some_by : (v : Bool) (n : ℕ) (m : ℕ) → (if v then n else 0) ≡ suc m → (v ≡ true) × (n ≡ suc m)
some_by true n m e = (refl, e)
some_by false n m e = cc

-- no bytes
empty : (u : List ℕ) → length u ≡ 0 → Unquoted u
empty [] e = tt
empty (b ∷ u) e = absurd (omega arith)

-- ---- characters past ASCII
tail_plain : (b : ℕ) → is_tail b ≡ true → is_quote b ≡ false
unfolding is_tail
tail_plain b h = plain is_tail b refl refl h

two_plain : (a : ℕ) (u x : List ℕ) → two_size a (u ++ x) ≡ suc (length u) → Unquoted u
unfolding two_size
two_plain a [] x e = tt
two_plain a (b ∷ u) x e =
    let s = some_by (is_tail b && not (is_blank_of_two a b)) 2 (length (b ∷ u)) e in
    let n : 2 ≡ suc (length (b ∷ u)) = s.1 in
    (tail_plain b (both_left _ _ s.0), empty u (omega arith))

three_plain : (a : ℕ) (u x : List ℕ) → three_size a (u ++ x) ≡ suc (length u) → Unquoted u
unfolding three_size
three_plain a [] x e = tt
three_plain a (b ∷ []) [] e = cc
three_plain a (b ∷ []) (c ∷ x) e =
    let s = some_by (is_tail b && (is_tail c && not (is_blank_of_three a b c || is_separator a b c))) 3 1 e in
    let n : 3 ≡ 2 = s.1 in cc
three_plain a (b ∷ c ∷ u) x e =
    let s = some_by (is_tail b && (is_tail c && not (is_blank_of_three a b c || is_separator a b c))) 3
    (length (b ∷ c ∷ u)) e in
    let n : 3 ≡ suc (length (b ∷ c ∷ u)) = s.1 in
    let more = both_right (is_tail b) _ s.0 in
    (tail_plain b (both_left (is_tail b) _ s.0), (tail_plain c (both_left (is_tail c) _ more), empty u (omega arith)))

four_plain : (u x : List ℕ) → four_size (u ++ x) ≡ suc (length u) → Unquoted u
unfolding four_size
four_plain [] x e = tt
four_plain (b ∷ []) [] e = cc
four_plain (b ∷ []) (c ∷ []) e = cc
four_plain (b ∷ []) (c ∷ d ∷ x) e =
    let s = some_by (is_tail b && (is_tail c && is_tail d)) 4 1 e in let n : 4 ≡ 2 = s.1 in cc
four_plain (b ∷ c ∷ []) [] e = cc
four_plain (b ∷ c ∷ []) (d ∷ x) e =
    let s = some_by (is_tail b && (is_tail c && is_tail d)) 4 2 e in let n : 4 ≡ 3 = s.1 in cc
four_plain (b ∷ c ∷ d ∷ u) x e =
    let s = some_by (is_tail b && (is_tail c && is_tail d)) 4 (length (b ∷ c ∷ d ∷ u)) e in
    let n : 4 ≡ suc (length (b ∷ c ∷ d ∷ u)) = s.1 in
    let more = both_right (is_tail b) _ s.0 in (
      tail_plain b (both_left (is_tail b) _ s.0),
      (
        tail_plain c (both_left (is_tail c) _ more),
        (tail_plain d (both_right (is_tail c) _ more), empty u (omega arith)),
      ),
    )

by_plain : (n a : ℕ) (u x : List ℕ) → wide_by n a (u ++ x) ≡ suc (length u) → Unquoted u
unfolding wide_by
by_plain zero a u x e = cc
by_plain (suc zero) a u x e = two_plain a u x e
by_plain (suc (suc zero)) a u x e = three_plain a u x e
by_plain (suc (suc (suc n))) a u x e = four_plain u x e

first_plain : (a : ℕ) (n : ℕ) (v : Bool) (t : List ℕ) (m : ℕ) → is_quote a ≡ v → tail_of a ≡ n → wide_by n a t ≡ suc m
    → is_quote a ≡ false
unfolding wide_by tail_of
first_plain a zero v t m e f h = cc
first_plain a (suc n) true t m e f h =
    let g : (tail_of a == 0) ≡ true = elim (quote_two a e) [ inl p ↦ rw p refl | inr p ↦ rw p refl ] in
    let z : tail_of a ≡ 0 = eqb-true (tail_of a) 0 g in absurd (omega (arith, f, z))
first_plain a (suc n) false t m e f h = e

wide_plain : (a : ℕ) (u x : List ℕ) → wide_size (a ∷ (u ++ x)) ≡ suc (length u) → Unquoted (a ∷ u)
unfolding wide_size
wide_plain a u x e =
    (first_plain a (tail_of a) (is_quote a) (u ++ x) (length u) refl refl e, by_plain (tail_of a) a u x e)

-- ---- parts of names
part_by : (b : ℕ) (u x : List ℕ) (v : Bool) → is_part b ≡ v
    → (if v then 1 else wide_size (b ∷ (u ++ x))) ≡ suc (length u)
    → Unquoted (b ∷ u)
unfolding wide_size
part_by b u x true p e = (plain is_part b refl refl p, empty u (omega arith))
part_by b u x false p e = wide_plain b u x e

part_plain : (u x : List ℕ) → part_unit (u ++ x) ≡ length u → 0 < length u → Unquoted u
unfolding part_unit
part_plain [] x e l = tt
part_plain (b ∷ u) x e l = part_by b u x (is_part b) refl e

flags_units : (us : List (List ℕ)) → AreUnits part_unit us [] → Unquoted (concat us)
flags_units [] h = tt
flags_units (u ∷ us) h = both u (concat us) (part_plain u (concat us ++ []) h.0 h.1) (flags_units us h.2)

pub flags_plain : (s : List ℕ) → AreParts part_unit s → Unquoted s
flags_plain s p = subst Unquoted (sym p.whole) (flags_units p.units p.each)

-- ---- escapes
hex_plain : (b : ℕ) → is_hex b ≡ true → is_quote b ≡ false
unfolding is_hex
hex_plain b h = plain is_hex b refl refl h

abbrev sized_of : Option Escape → ℕ
sized_of None = 0
sized_of (Some e) = e.size

point_by : (size value b : ℕ) (u x : List ℕ) (v w : Bool) → (b == 125) ≡ v
    → (is_hex b && nat_le (value * 16 + hex b) 0x10FFFF) ≡ w
    → (sized_of (point_escape (size + 1) (value * 16 + hex b) (u ++ x)) ≡ size + 1 + length u → Unquoted u)
    → sized_of (point_escape size value (b ∷ (u ++ x))) ≡ size + length (b ∷ u) → Unquoted (b ∷ u)
unfolding point_escape
point_by size value b u x true w p q m e =
    let f : size + 1 ≡ size + length (b ∷ u) = rw p at e in
    (plain (λ c. c == 125) b refl refl p, empty u (omega arith))
point_by size value b u x false true p q m e =
    let f : sized_of (point_escape (size + 1) (value * 16 + hex b) (u ++ x)) ≡ size + length (b ∷ u) = rw (p, q) at e in
    (hex_plain b (both_left (is_hex b) _ q), m (omega (arith, f)))
point_by size value b u x false false p q m e =
    let f : 0 ≡ size + length (b ∷ u) = rw (p, q) at e in absurd (omega arith)

point_plain : (size value : ℕ) (u x : List ℕ) → sized_of (point_escape size value (u ++ x)) ≡ size + length u
    → Unquoted u
point_plain size value [] x e = tt
point_plain size value (b ∷ u) x e =
    point_by size value b u x (b == 125) (is_hex b && nat_le (value * 16 + hex b) 0x10FFFF) refl refl
    (point_plain (size + 1) (value * 16 + hex b) u x) e

braced_by : (b : ℕ) (u x : List ℕ) (v : Bool) → is_hex b ≡ v → sized_of (braced_escape (b ∷ (u ++ x))) ≡ 4 + length u
    → Unquoted (b ∷ u)
unfolding braced_escape
braced_by b u x true p e =
    let f : sized_of (point_escape 4 (hex b) (u ++ x)) ≡ 4 + length u = rw p at e in
    (hex_plain b p, point_plain 4 (hex b) u x f)
braced_by b u x false p e = let f : 0 ≡ 4 + length u = rw p at e in absurd (omega arith)

braced_plain : (u x : List ℕ) → sized_of (braced_escape (u ++ x)) ≡ 3 + length u → Unquoted u
braced_plain [] x e = tt
braced_plain (b ∷ u) x e = braced_by b u x (is_hex b) refl (omega (arith, e))

four_sized : (v : Bool) (code n : ℕ) → sized_of (if v then Some (record { code = code; size = 6 }) else None) ≡ suc n
    → (v ≡ true) × (6 ≡ suc n)
four_sized true code n e = (refl, e)
four_sized false code n e = cc

hexes_plain : (u x : List ℕ) → sized_of (four_escape (u ++ x)) ≡ 2 + length u → Unquoted u
unfolding four_escape
hexes_plain [] x e = tt
hexes_plain (c ∷ []) [] e = absurd (omega (arith, e))
hexes_plain (c ∷ []) (d ∷ []) e = absurd (omega (arith, e))
hexes_plain (c ∷ []) (d ∷ f ∷ []) e = absurd (omega (arith, e))
hexes_plain (c ∷ []) (d ∷ f ∷ g ∷ x) e =
    let s = four_sized (is_hex c && is_hex d && (is_hex f && is_hex g)) _ 2 e in let n : 6 ≡ 3 = s.1 in cc
hexes_plain (c ∷ d ∷ []) [] e = absurd (omega (arith, e))
hexes_plain (c ∷ d ∷ []) (f ∷ []) e = absurd (omega (arith, e))
hexes_plain (c ∷ d ∷ []) (f ∷ g ∷ x) e =
    let s = four_sized (is_hex c && is_hex d && (is_hex f && is_hex g)) _ 3 e in let n : 6 ≡ 4 = s.1 in cc
hexes_plain (c ∷ d ∷ f ∷ []) [] e = absurd (omega (arith, e))
hexes_plain (c ∷ d ∷ f ∷ []) (g ∷ x) e =
    let s = four_sized (is_hex c && is_hex d && (is_hex f && is_hex g)) _ 4 e in let n : 6 ≡ 5 = s.1 in cc
hexes_plain (c ∷ d ∷ f ∷ g ∷ u) x e =
    let six : sized_of (if is_hex c && is_hex d && (is_hex f && is_hex g) then
    Some (record { code = _; size = 6 }) else None)
    ≡ suc (1 + length (c ∷ d ∷ f ∷ g ∷ u)) =
    e ∙ (let m : 2 + length (c ∷ d ∷ f ∷ g ∷ u) ≡ suc (1 + length (c ∷ d ∷ f ∷ g ∷ u)) = omega arith in m) in
    let s = four_sized (is_hex c && is_hex d && (is_hex f && is_hex g)) _ (1 + length (c ∷ d ∷ f ∷ g ∷ u)) six in
    let n : 6 ≡ suc (1 + length (c ∷ d ∷ f ∷ g ∷ u)) = s.1 in
    let one = both_left (is_hex c && is_hex d) _ s.0 in
    let two = both_right (is_hex c && is_hex d) _ s.0 in (
      hex_plain c (both_left (is_hex c) _ one),
      (
        hex_plain d (both_right (is_hex c) _ one),
        (hex_plain f (both_left (is_hex f) _ two), (hex_plain g (both_right (is_hex f) _ two), empty u (omega arith))),
      ),
    )

unicode_by : (b : ℕ) (u x : List ℕ) (v : Bool) → (b == 123) ≡ v
    → sized_of (if v then braced_escape (u ++ x) else four_escape (b ∷ (u ++ x))) ≡ 2 + length (b ∷ u)
    → Unquoted (b ∷ u)
unicode_by b u x true p e = (plain (λ c. c == 123) b refl refl p, braced_plain u x (omega (arith, e)))
unicode_by b u x false p e = hexes_plain (b ∷ u) x e

unicode_plain : (u x : List ℕ) → sized_of (unicode_escape (u ++ x)) ≡ 2 + length u → Unquoted u
unfolding unicode_escape
unicode_plain [] x e = tt
unicode_plain (b ∷ u) x e = unicode_by b u x (b == 123) refl e

size_some : (p : ℕ → Bool) (found : Option Escape) (n : ℕ) → size_if p found ≡ suc n → sized_of found ≡ suc n
unfolding size_if
size_some p None n e = cc
size_some p (Some found) n e = (some_by (p found.code) found.size n e).1

escape_by : (a b : ℕ) (u x : List ℕ) (v : Bool) → (a == 92 && b == 117) ≡ v
    → sized_of (if v then unicode_escape (u ++ x) else None) ≡ length (a ∷ b ∷ u) → Unquoted (a ∷ b ∷ u)
escape_by a b u x true p e = (
  plain (λ c. c == 92) a refl refl (both_left (a == 92) _ p),
  (plain (λ c. c == 117) b refl refl (both_right (a == 92) _ p), unicode_plain u x (omega (arith, e))),
)
escape_by a b u x false p e = absurd (omega (arith, e))

escape_plain : (u x : List ℕ) → sized_of (escape_at (u ++ x)) ≡ length u → 1 < length u → Unquoted u
unfolding escape_at
escape_plain [] x e l = tt
escape_plain (a ∷ []) x e l = absurd (omega arith)
escape_plain (a ∷ b ∷ u) x e l = escape_by a b u x (a == 92 && b == 117) refl e

-- ---- words
single_by : (a b : ℕ) (t : List ℕ) (v : Bool) → (a == 92 && b == 117) ≡ v
    → sized_of (if v then unicode_escape t else None) ≡ 1 → is_quote a ≡ false
single_by a b t true p e = plain (λ c. c == 92) a refl refl (both_left (a == 92) _ p)
single_by a b t false p e = cc

single_plain : (a : ℕ) (x : List ℕ) → sized_of (escape_at (a ∷ x)) ≡ 1 → Unquoted (a ∷ [])
unfolding escape_at
single_plain a [] e = cc
single_plain a (b ∷ x) e = (single_by a b x (a == 92 && b == 117) refl e, tt)

escaped_plain : (u x : List ℕ) → escaped_part (u ++ x) ≡ length u → Unquoted u
unfolding escaped_part
escaped_plain [] x e = tt
escaped_plain (a ∷ []) x e = single_plain a x (size_some is_name_part (escape_at (a ∷ x)) 0 e)
escaped_plain (a ∷ b ∷ u) x e =
    escape_plain (a ∷ b ∷ u) x (size_some is_name_part (escape_at (a ∷ b ∷ (u ++ x))) (length (b ∷ u)) e) (omega arith)

word_by : (b : ℕ) (u x : List ℕ) (v : Bool) → (b == 92) ≡ v
    → (if v then escaped_part (b ∷ (u ++ x)) else part_unit (b ∷ (u ++ x))) ≡ length (b ∷ u) → Unquoted (b ∷ u)
word_by b u x true p e = escaped_plain (b ∷ u) x e
word_by b u x false p e = part_plain (b ∷ u) x e (omega arith)

unit_plain : (u x : List ℕ) → word_unit (u ++ x) ≡ length u → Unquoted u
unfolding word_unit
unit_plain [] x e = tt
unit_plain (b ∷ u) x e = word_by b u x (b == 92) refl e

words_units : (us : List (List ℕ)) → AreUnits word_unit us [] → Unquoted (concat us)
words_units [] h = tt
words_units (u ∷ us) h = both u (concat us) (unit_plain u (concat us ++ []) h.0) (words_units us h.2)

pub word_plain : (s : List ℕ) → IsWord s → Unquoted s
word_plain s w =
    let p : AreParts word_unit s = w.goes_on in subst Unquoted (sym p.whole) (words_units p.units p.each)

-- ---- punctuators
abbrev unquoted : List ℕ → Bool
unquoted [] = true
unquoted (b ∷ s) = not (is_quote b) && unquoted s

not_back : (v : Bool) → not v ≡ true → v ≡ false
not_back true e = cc
not_back false e = refl

unquoted_is : (s : List ℕ) → unquoted s ≡ true → Unquoted s
unquoted_is [] e = tt
unquoted_is (b ∷ s) e = (
  not_back (is_quote b) (both_left (not (is_quote b)) (unquoted s) e),
  unquoted_is s (both_right (not (is_quote b)) (unquoted s) e),
)

pub sign_plain : (s : List ℕ) (k : TokenKind) → sign_kind s ≡ Some k → Unquoted s
unfolding signs_of_one signs_of_two signs_of_three is_quote
sign_plain s k e = unquoted_is s (mark.sign_passes (λ t j. unquoted t) s k refl refl refl e)

-- ---- numbers
digit_plain : (r : Radix) (b : ℕ) → is_digit r b ≡ true → is_quote b ≡ false
unfolding is_digit
digit_plain Binary b e = plain (is_digit Binary) b refl refl e
digit_plain Octal b e = plain (is_digit Octal) b refl refl e
digit_plain Decimal b e = plain (is_digit Decimal) b refl refl e
digit_plain Hexadecimal b e = plain (is_digit Hexadecimal) b refl refl e

digits_by : (r : Radix) (b : ℕ) (u x : List ℕ) (v w : Bool) → is_digit r b ≡ v
    → (b == 95 && begins_digit r (u ++ x)) ≡ w
    → (if v then 1 else (if w then 2 else 0)) ≡ length (b ∷ u) → Unquoted (b ∷ u)
unfolding begins_digit
digits_by r b u x true w p q e = (digit_plain r b p, empty u (omega (arith, e)))
digits_by r b [] x false true p q e = absurd (omega (arith, e))
digits_by r b (c ∷ u) x false true p q e = (
  plain (λ d. d == 95) b refl refl (both_left (b == 95) (is_digit r c) q),
  (digit_plain r c (both_right (b == 95) (is_digit r c) q), empty u (omega (arith, e))),
)
digits_by r b u x false false p q e = absurd (omega (arith, e))

digit_unit_plain : (r : Radix) (u x : List ℕ) → digit_unit r (u ++ x) ≡ length u → Unquoted u
unfolding digit_unit
digit_unit_plain r [] x e = tt
digit_unit_plain r (b ∷ u) x e = digits_by r b u x (is_digit r b) (b == 95 && begins_digit r (u ++ x)) refl refl e

digit_units : (r : Radix) (us : List (List ℕ)) (after : List ℕ) → AreUnits (digit_unit r) us after
    → Unquoted (concat us)
digit_units r [] after h = tt
digit_units r (u ∷ us) after h =
    both u (concat us) (digit_unit_plain r u (concat us ++ after) h.0) (digit_units r us after h.2)

digits_plain : (r : Radix) (s : List ℕ) → IsDigits r s → Unquoted s
digits_plain r s d =
    let i : IsRun r d.more = d.run in
    subst Unquoted (sym d.whole)
    (digit_plain r d.first d.digit, subst Unquoted (sym i.whole) (digit_units r i.units [] i.each))

places_plain : (s : List ℕ) → ArePlaces s → Unquoted s
places_plain s (inl e) = subst Unquoted (sym e) tt
places_plain s (inr d) = digits_plain Decimal s d

-- one of two bytes that are no quotes
pair_plain : (m n b : ℕ) → (34 == m || 34 == n) ≡ false → (39 == m || 39 == n) ≡ false → (b == m || b == n) ≡ true
    → is_quote b ≡ false
pair_plain m n b f g e = plain (λ c. c == m || c == n) b f g e

fraction_plain : (s : List ℕ) → IsFraction s → Unquoted s
unfolding is_quote
fraction_plain [] i = tt
fraction_plain (b ∷ s) i = (ap is_quote i.0, places_plain s i.1)

signed_plain : (s : List ℕ) → IsSigned s → Unquoted s
signed_plain [] i = absurd i
signed_plain (b ∷ s) (inl p) = (pair_plain 43 45 b refl refl p.0, digits_plain Decimal s p.1)
signed_plain (b ∷ s) (inr d) = digits_plain Decimal (b ∷ s) d

exponent_plain : (s : List ℕ) → IsExponent s → Unquoted s
exponent_plain [] i = tt
exponent_plain (b ∷ s) i = (pair_plain 101 69 b refl refl i.0, signed_plain s i.1)

whole_plain : (s : List ℕ) → IsWhole s → Unquoted s
unfolding is_quote
whole_plain s (inl e) = subst Unquoted (sym e) (refl, tt)
whole_plain s (inr d) = digits_plain Decimal s d.0

big_plain : (big : Bool) → Unquoted (big_end big)
unfolding is_quote
big_plain true = (refl, tt)
big_plain false = tt

all_plain : (s : List ℕ) → AllByRecursion (λ b. is_digit Decimal b ≡ true) s → Unquoted s
all_plain [] h = tt
all_plain (b ∷ s) h = (digit_plain Decimal b h.0, all_plain s h.1)

abbrev is_some : Option Radix → Bool
is_some None = false
is_some (Some r) = true

letter_plain : (x : ℕ) (r : Radix) → radix_of x ≡ Some r → is_quote x ≡ false
unfolding radix_of
letter_plain x r e = plain (λ c. is_some (radix_of c)) x refl refl (ap is_some e)

pub number_plain : (big : Bool) (s : List ℕ) → IsNumber big s → Unquoted s
unfolding is_quote
number_plain big s (in_radix x r digits e d g) =
    subst Unquoted (sym g)
    (refl, (letter_plain x r e, both digits (big_end big) (digits_plain r digits d) (big_plain big)))
number_plain big s (zeros d ds h g e) = subst Unquoted (sym g) (refl, all_plain (d ∷ ds) h)
number_plain big s (integer w i g e) = subst Unquoted (sym g) (both w (110 ∷ []) (whole_plain w i) (refl, tt))
number_plain big s (decimal w f x i j k g e) =
    subst Unquoted (sym g) (both w (f ++ x) (whole_plain w i) (both f x (fraction_plain f j) (exponent_plain x k)))
number_plain big s (point digits x d i g e) =
    subst Unquoted (sym g) (refl, both digits x (digits_plain Decimal digits d) (exponent_plain x i))
