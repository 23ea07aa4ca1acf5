-- What the class of a first byte says of the byte.
use Rattle.std.proofs.Common.{◌≡◌, ℕ, ◌-◌, ◌≤◌, nat_le, Bool, true, false, ◌==◌, ◌&&◌, ◌||◌, List, [], ◌∷◌, length, take, drop, get_or, if◌then◌else◌, refl, sym, ◌∙◌, ap, arith, eqb-true, true≢false}
use Rattle.std.specs.Char.{is_ascii_digit}
use Rattle.std.proofs.lemmas.Bool.Decides.{nat_tests}
use Rattle.std.proofs.lemmas.List.{take_rest}
use Rattle.es_lexer.specs.declared.bytes.First.{First}
use Rattle.es_lexer.specs.declared.bytes.First.TheVariants.{Blank, LineEnd, Start, Quote, Slash, Backtick, Brace, Hash, Digit, Dot, Backslash, Wide, Other}
use Rattle.es_literal.specs.Strings.{is_quote as is_string_quote}
use Rattle.es_lexer.specs.Bytes.{is_blank, is_line_end, is_start, is_quote, first_of, begins_comment}

-- the tests that a byte of a class passes
pub data Classed (b : ℕ) (c : First) : Type 0 where
  blank : is_blank b ≡ true → c ≡ Blank → Classed b c
  line_end : is_line_end b ≡ true → c ≡ LineEnd → Classed b c
  start : is_start b ≡ true → c ≡ Start → Classed b c
  quote : is_line_end b ≡ false → is_quote b ≡ true → c ≡ Quote → Classed b c
  slash : b ≡ 47 → c ≡ Slash → Classed b c
  backtick : b ≡ 96 → c ≡ Backtick → Classed b c
  brace : b ≡ 125 → c ≡ Brace → Classed b c
  hash : b ≡ 35 → c ≡ Hash → Classed b c
  digit : is_ascii_digit b ≡ true → c ≡ Digit → Classed b c
  dot : b ≡ 46 → c ≡ Dot → Classed b c
  backslash : b ≡ 92 → c ≡ Backslash → Classed b c
  wide : 128 ≤ b → c ≡ Wide → Classed b c
  other : c ≡ Other → Classed b c

rest_of : ℕ → First
rest_of b =
    if b == 96 then Backtick
    else (if b == 125 then Brace
    else (if b == 35 then Hash
    else (if is_ascii_digit b then Digit
    else (if b == 46 then Dot
    else (if b == 92 then Backslash
    else (if nat_le 128 b then Wide
    else Other))))))

high_of : (b : ℕ) → nat_le 128 b ≡ true → 128 ≤ b
high_of b e = grind (arith, nat_tests)

rest_classed : (b : ℕ) (u v w x y z h : Bool) → (b == 96) ≡ u → (b == 125) ≡ v → (b == 35) ≡ w → is_ascii_digit b ≡ x
    → (b == 46) ≡ y → (b == 92) ≡ z → nat_le 128 b ≡ h → Classed b (rest_of b)
unfolding rest_of
rest_classed b true v w x y z h p q r s o m n = backtick (eqb-true _ _ p) (rw p refl)
rest_classed b false true w x y z h p q r s o m n = brace (eqb-true _ _ q) (rw (p, q) refl)
rest_classed b false false true x y z h p q r s o m n = hash (eqb-true _ _ r) (rw (p, q, r) refl)
rest_classed b false false false true y z h p q r s o m n = digit s (rw (p, q, r, s) refl)
rest_classed b false false false false true z h p q r s o m n = dot (eqb-true _ _ o) (rw (p, q, r, s, o) refl)
rest_classed b false false false false false true h p q r s o m n =
    backslash (eqb-true _ _ m) (rw (p, q, r, s, o, m) refl)
rest_classed b false false false false false false true p q r s o m n =
    wide (high_of b n) (rw (p, q, r, s, o, m, n) refl)
rest_classed b false false false false false false false p q r s o m n = other (rw (p, q, r, s, o, m, n) refl)

classed_by : (b : ℕ) (u v w x z : Bool) → is_blank b ≡ u → is_line_end b ≡ v → is_start b ≡ w → is_quote b ≡ x
    → (b == 47) ≡ z → Classed b (rest_of b) → Classed b (first_of b)
unfolding first_of rest_of
classed_by b true v w x z p q r s o c = blank p (rw p refl)
classed_by b false true w x z p q r s o c = line_end q (rw (p, q) refl)
classed_by b false false true x z p q r s o c = start r (rw (p, q, r) refl)
classed_by b false false false true z p q r s o c = quote q s (rw (p, q, r, s) refl)
classed_by b false false false false true p q r s o c = slash (eqb-true _ _ o) (rw (p, q, r, s, o) refl)
classed_by b false false false false false p q r s o c = rw (p, q, r, s, o) c

pub classed : (b : ℕ) → Classed b (first_of b)
classed b = classed_by b (is_blank b) (is_line_end b) (is_start b) (is_quote b)
    (b == 47) refl refl refl refl refl
    (rest_classed b (b == 96) (b == 125) (b == 35) (is_ascii_digit b) (b == 46) (b == 92) (nat_le 128 b) refl refl refl
    refl refl refl refl)

pub start_is : (b : ℕ) → first_of b ≡ Start → is_start b ≡ true
start_is b h = elim (classed b) [
  | blank p e ↦ cc
  | line_end p e ↦ cc
  | start s e ↦ s
  | quote n q e ↦ cc
  | slash s e ↦ cc
  | backtick s e ↦ cc
  | brace s e ↦ cc
  | hash s e ↦ cc
  | digit s e ↦ cc
  | dot s e ↦ cc
  | backslash s e ↦ cc
  | wide l e ↦ cc
  | other e ↦ cc
]

pub slash_is : (b : ℕ) → first_of b ≡ Slash → b ≡ 47
slash_is b h = elim (classed b) [
  | blank p e ↦ cc
  | line_end p e ↦ cc
  | start s e ↦ cc
  | quote n q e ↦ cc
  | slash s e ↦ s
  | backtick s e ↦ cc
  | brace s e ↦ cc
  | hash s e ↦ cc
  | digit s e ↦ cc
  | dot s e ↦ cc
  | backslash s e ↦ cc
  | wide l e ↦ cc
  | other e ↦ cc
]

pub quote_is : (b : ℕ) → first_of b ≡ Quote → is_string_quote b ≡ true
unfolding is_string_quote
quote_is b h = elim (classed b) [
  | blank p e ↦ cc
  | line_end p e ↦ cc
  | start s e ↦ cc
  | quote n q e ↦ q
  | slash s e ↦ cc
  | backtick s e ↦ cc
  | brace s e ↦ cc
  | hash s e ↦ cc
  | digit s e ↦ cc
  | dot s e ↦ cc
  | backslash s e ↦ cc
  | wide l e ↦ cc
  | other e ↦ cc
]

double_class : first_of 34 ≡ Quote
unfolding first_of
double_class = refl

single_class : first_of 39 ≡ Quote
unfolding first_of
single_class = refl

quote_by : (q : ℕ) (u v : Bool) → (q == 34) ≡ u → (q == 39) ≡ v → (u || v) ≡ true → first_of q ≡ Quote
quote_by q true v p r e = ap first_of (eqb-true q 34 p) ∙ double_class
quote_by q false true p r e = ap first_of (eqb-true q 39 r) ∙ single_class
quote_by q false false p r e = cc

pub quote_class : (q : ℕ) → is_string_quote q ≡ true → first_of q ≡ Quote
unfolding is_string_quote
quote_class q e = quote_by q (q == 34) (q == 39) refl refl e

pub slash_class : first_of 47 ≡ Slash
unfolding first_of
slash_class = refl

-- a byte of another class than a number is not that number
apart_by : (b n : ℕ) (c d : First) → first_of b ≡ c → first_of n ≡ d → (c ≡ d → ⊥) → (v : Bool) → (b == n) ≡ v
    → (b == n) ≡ false
apart_by b n c d p q differ true e = absurd (differ (sym p ∙ ap first_of (eqb-true _ _ e) ∙ q))
apart_by b n c d p q differ false e = e

pub apart : (b n : ℕ) (c d : First) → first_of b ≡ c → first_of n ≡ d → (c ≡ d → ⊥) → (b == n) ≡ false
apart b n c d p q differ = apart_by b n c d p q differ (b == n) refl

-- no comment begins with a byte of another class than the slash
pub no_comment_at : (b : ℕ) (rest : List ℕ) (c : First) → first_of b ≡ c → (c ≡ Slash → ⊥)
    → begins_comment (b ∷ rest) ≡ false
unfolding begins_comment
no_comment_at b [] c p differ = refl
no_comment_at b (d ∷ rest) c p differ = rw (apart b 47 c Slash p slash_class differ) refl

-- the text of which the first byte is of the slash's class
pub slash_text : (text : List ℕ) → 1 ≤ length text → Slash ≡ first_of (get_or text 0 0)
    → text ≡ 47 ∷ take (length text - 1) (drop 1 text)
slash_text [] l e = absurd (omega arith)
slash_text (b ∷ rest) l e =
    ap (λ c. c ∷ rest) (slash_is b (sym e)) ∙ ap (λ t. 47 ∷ t) (sym (take_rest (b ∷ rest) 1))

blank_not_end : (b : ℕ) (u v w x : Bool) → (b == 9) ≡ u → (b == 11) ≡ v → (b == 12) ≡ w → (b == 32) ≡ x
    → (u || v || w || x) ≡ true → is_line_end b ≡ false
blank_not_end b true v w x p q r s e = rw (eqb-true b 9 p) refl
blank_not_end b false true w x p q r s e = rw (eqb-true b 11 q) refl
blank_not_end b false false true x p q r s e = rw (eqb-true b 12 r) refl
blank_not_end b false false false true p q r s e = rw (eqb-true b 32 s) refl
blank_not_end b false false false false p q r s e = cc

-- a blank is no line end
pub blank_no_line : (b : ℕ) → first_of b ≡ Blank → is_line_end b ≡ false
blank_no_line b h = elim (classed b) [
  | blank p e ↦ blank_not_end b (b == 9) (b == 11) (b == 12) (b == 32) refl refl refl refl p
  | line_end p e ↦ cc
  | start s e ↦ cc
  | quote n q e ↦ cc
  | slash s e ↦ cc
  | backtick s e ↦ cc
  | brace s e ↦ cc
  | hash s e ↦ cc
  | digit s e ↦ cc
  | dot s e ↦ cc
  | backslash s e ↦ cc
  | wide l e ↦ cc
  | other e ↦ cc
]

pub blank_is : (b : ℕ) → first_of b ≡ Blank → is_blank b ≡ true
blank_is b h = elim (classed b) [
  | blank p e ↦ p
  | line_end p e ↦ cc
  | start s e ↦ cc
  | quote n q e ↦ cc
  | slash s e ↦ cc
  | backtick s e ↦ cc
  | brace s e ↦ cc
  | hash s e ↦ cc
  | digit s e ↦ cc
  | dot s e ↦ cc
  | backslash s e ↦ cc
  | wide l e ↦ cc
  | other e ↦ cc
]

pub line_end_is : (b : ℕ) → first_of b ≡ LineEnd → is_line_end b ≡ true
line_end_is b h = elim (classed b) [
  | blank p e ↦ cc
  | line_end p e ↦ p
  | start s e ↦ cc
  | quote n q e ↦ cc
  | slash s e ↦ cc
  | backtick s e ↦ cc
  | brace s e ↦ cc
  | hash s e ↦ cc
  | digit s e ↦ cc
  | dot s e ↦ cc
  | backslash s e ↦ cc
  | wide l e ↦ cc
  | other e ↦ cc
]

pub backtick_is : (b : ℕ) → first_of b ≡ Backtick → b ≡ 96
backtick_is b h = elim (classed b) [
  | blank p e ↦ cc
  | line_end p e ↦ cc
  | start s e ↦ cc
  | quote n q e ↦ cc
  | slash s e ↦ cc
  | backtick s e ↦ s
  | brace s e ↦ cc
  | hash s e ↦ cc
  | digit s e ↦ cc
  | dot s e ↦ cc
  | backslash s e ↦ cc
  | wide l e ↦ cc
  | other e ↦ cc
]

pub backtick_class : first_of 96 ≡ Backtick
unfolding first_of
backtick_class = refl

pub brace_is : (b : ℕ) → first_of b ≡ Brace → b ≡ 125
brace_is b h = elim (classed b) [
  | blank p e ↦ cc
  | line_end p e ↦ cc
  | start s e ↦ cc
  | quote n q e ↦ cc
  | slash s e ↦ cc
  | backtick s e ↦ cc
  | brace s e ↦ s
  | hash s e ↦ cc
  | digit s e ↦ cc
  | dot s e ↦ cc
  | backslash s e ↦ cc
  | wide l e ↦ cc
  | other e ↦ cc
]

pub brace_class : first_of 125 ≡ Brace
unfolding first_of
brace_class = refl

pub hash_is : (b : ℕ) → first_of b ≡ Hash → b ≡ 35
hash_is b h = elim (classed b) [
  | blank p e ↦ cc
  | line_end p e ↦ cc
  | start s e ↦ cc
  | quote n q e ↦ cc
  | slash s e ↦ cc
  | backtick s e ↦ cc
  | brace s e ↦ cc
  | hash s e ↦ s
  | digit s e ↦ cc
  | dot s e ↦ cc
  | backslash s e ↦ cc
  | wide l e ↦ cc
  | other e ↦ cc
]

pub hash_class : first_of 35 ≡ Hash
unfolding first_of
hash_class = refl

pub backslash_is : (b : ℕ) → first_of b ≡ Backslash → b ≡ 92
backslash_is b h = elim (classed b) [
  | blank p e ↦ cc
  | line_end p e ↦ cc
  | start s e ↦ cc
  | quote n q e ↦ cc
  | slash s e ↦ cc
  | backtick s e ↦ cc
  | brace s e ↦ cc
  | hash s e ↦ cc
  | digit s e ↦ cc
  | dot s e ↦ cc
  | backslash s e ↦ s
  | wide l e ↦ cc
  | other e ↦ cc
]

pub backslash_class : first_of 92 ≡ Backslash
unfolding first_of
backslash_class = refl

mark_class : first_of 33 ≡ Other
unfolding first_of
mark_class = refl

and_false : (u : Bool) → (u && false) ≡ false
and_false true = refl
and_false false = refl

-- what is of another class than `!` is none
pub no_mark_by : (front : Bool) (b : ℕ) (c : First) → first_of b ≡ c → (c ≡ Other → ⊥) → (front && b == 33) ≡ false
no_mark_by front b c f d = rw (apart b 33 c Other f mark_class d) (and_false front)

pub brace_text : (text : List ℕ) → 1 ≤ length text → Brace ≡ first_of (get_or text 0 0)
    → text ≡ 125 ∷ take (length text - 1) (drop 1 text)
brace_text [] l e = absurd (omega arith)
brace_text (b ∷ rest) l e =
    ap (λ c. c ∷ rest) (brace_is b (sym e)) ∙ ap (λ t. 125 ∷ t) (sym (take_rest (b ∷ rest) 1))

pub dot_is : (b : ℕ) → first_of b ≡ Dot → b ≡ 46
dot_is b h = elim (classed b) [
  | blank p e ↦ cc
  | line_end p e ↦ cc
  | start s e ↦ cc
  | quote n q e ↦ cc
  | slash s e ↦ cc
  | backtick s e ↦ cc
  | brace s e ↦ cc
  | hash s e ↦ cc
  | digit s e ↦ cc
  | dot s e ↦ s
  | backslash s e ↦ cc
  | wide l e ↦ cc
  | other e ↦ cc
]

pub digit_is : (b : ℕ) → first_of b ≡ Digit → is_ascii_digit b ≡ true
digit_is b h = elim (classed b) [
  | blank p e ↦ cc
  | line_end p e ↦ cc
  | start s e ↦ cc
  | quote n q e ↦ cc
  | slash s e ↦ cc
  | backtick s e ↦ cc
  | brace s e ↦ cc
  | hash s e ↦ cc
  | digit s e ↦ s
  | dot s e ↦ cc
  | backslash s e ↦ cc
  | wide l e ↦ cc
  | other e ↦ cc
]

pub dot_class : first_of 46 ≡ Dot
unfolding first_of
dot_class = refl

-- a digit is nothing else
digit_no : (b : ℕ) → is_ascii_digit b ≡ true
    → ((is_blank b ≡ false) × (is_line_end b ≡ false)) × ((is_start b ≡ false) × (is_quote b ≡ false))
digit_no b e =
    ((grind (arith, nat_tests), grind (arith, nat_tests)), (grind (arith, nat_tests), grind (arith, nat_tests)))

digit_eq_by : (b n : ℕ) (v : Bool) → (b == n) ≡ v → is_ascii_digit b ≡ true → is_ascii_digit n ≡ false
    → (b == n) ≡ false
digit_eq_by b n true p e f = absurd (true≢false (sym e ∙ (ap is_ascii_digit (eqb-true b n p) ∙ f)))
digit_eq_by b n false p e f = p

digit_eq : (b n : ℕ) → is_ascii_digit b ≡ true → is_ascii_digit n ≡ false → (b == n) ≡ false
digit_eq b n e f = digit_eq_by b n (b == n) refl e f

-- the class of a digit
pub digit_class : (b : ℕ) → is_ascii_digit b ≡ true → first_of b ≡ Digit
unfolding first_of
digit_class b e =
    let n : ((is_blank b ≡ false) × (is_line_end b ≡ false)) × ((is_start b ≡ false) × (is_quote b ≡ false)) =
    digit_no b e in
    rw (
      n.0.0,
      n.0.1,
      n.1.0,
      n.1.1,
      digit_eq b 47 e refl,
      digit_eq b 96 e refl,
      digit_eq b 125 e refl,
      digit_eq b 35 e refl,
      e,
    ) refl

pub dot_text : (text : List ℕ) → 1 ≤ length text → Dot ≡ first_of (get_or text 0 0)
    → text ≡ 46 ∷ take (length text - 1) (drop 1 text)
dot_text [] l e = absurd (omega arith)
dot_text (b ∷ rest) l e =
    ap (λ c. c ∷ rest) (dot_is b (sym e)) ∙ ap (λ t. 46 ∷ t) (sym (take_rest (b ∷ rest) 1))

-- the class of a start, and of a byte past ASCII
start_no : (b : ℕ) → is_start b ≡ true → (is_blank b ≡ false) × (is_line_end b ≡ false)
start_no b e = (grind (arith, nat_tests), grind (arith, nat_tests))

pub start_class : (b : ℕ) → is_start b ≡ true → first_of b ≡ Start
unfolding first_of
start_class b e = let n : (is_blank b ≡ false) × (is_line_end b ≡ false) = start_no b e in rw (n.0, n.1, e) refl

wide_no : (b : ℕ) → 128 ≤ b
    → ((is_blank b ≡ false) × (is_line_end b ≡ false)) × ((is_start b ≡ false) × (is_quote b ≡ false))
wide_no b l =
    ((grind (arith, nat_tests), grind (arith, nat_tests)), (grind (arith, nat_tests), grind (arith, nat_tests)))

wide_no_sign : (b : ℕ) → 128 ≤ b
    → (((b == 47) ≡ false) × ((b == 96) ≡ false)) × (((b == 125) ≡ false) × ((b == 35) ≡ false))
wide_no_sign b l =
    ((grind (arith, nat_tests), grind (arith, nat_tests)), (grind (arith, nat_tests), grind (arith, nat_tests)))

wide_no_number : (b : ℕ) → 128 ≤ b
    → ((is_ascii_digit b ≡ false) × ((b == 46) ≡ false)) × (((b == 92) ≡ false) × (nat_le 128 b ≡ true))
wide_no_number b l =
    ((grind (arith, nat_tests), grind (arith, nat_tests)), (grind (arith, nat_tests), grind (arith, nat_tests)))

pub wide_class : (b : ℕ) → 128 ≤ b → first_of b ≡ Wide
unfolding first_of
wide_class b l =
    let m = wide_no b l in
    let n = wide_no_sign b l in
    let o = wide_no_number b l in
    rw (m.0.0, m.0.1, m.1.0, m.1.1, n.0.0, n.0.1, n.1.0, n.1.1, o.0.0, o.0.1, o.1.0, o.1.1) refl
