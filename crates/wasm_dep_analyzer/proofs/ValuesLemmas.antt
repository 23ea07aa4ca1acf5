-- Numbers, step by step.
use Rattle.std.proofs.Common.{◌≡◌, ◌≢◌, ℕ, zero, suc, ◌+◌, ◌-◌, ◌*◌, ◌^◌, ◌<◌, ◌≤◌, ◌⊎◌, Bool, true, false, cond, eqb, List, [], ◌∷◌, ◌++◌, length, take, drop, Result, Ok, Err, refl, sym, ap, subst, ◌∙◌, inl, inr, append_assoc, lit<, arith}
use Rattle.std.proofs.Math.Nat.{pow-succ', one-le-pow}
use Rattle.std.proofs.lemmas.Bool.{lt-ltb, le-ltb, eq-eqb, eqb-true}
use Rattle.std.proofs.lemmas.List.{take-append-drop, length-append}
use Rattle.std.proofs.Math.Seq.{take-length}
use Rattle.std.proofs.lemmas.Str.{utf8_valid_len-IsUtf8}
use Rattle.std.specs.Prelude.{IsUtf8, nat_lt}
use Rattle.std.specs.Str.Lossy.{utf8_valid_len}
use Rattle.wasm_dep_analyzer.specs.declared.error.ParseError.{ParseError}
use Rattle.wasm_dep_analyzer.specs.declared.error.ParseError.TheVariants.{UnexpectedEof, IntegerOverflow, InvalidUtf8}
use Rattle.wasm_dep_analyzer.specs.Reading.{◌>>=◌}
use Rattle.wasm_dep_analyzer.specs.Values.{u8_at, number_at, u32_at, bytes_at, utf8_text, name_at}

-- a value as reading gives it
abbrev gives : {A : Type 0} → A → Result A ParseError
gives x = Ok x

-- what is given is one value
pub given_once : {A : Type 0} (x y : A) → gives x ≡ gives y → x ≡ y
given_once x y h = cc

-- the byte that is read stands first
pub first_is : (bytes : List ℕ) (b : ℕ) (rest : List ℕ) → u8_at bytes ≡ Ok (b, rest) → bytes ≡ b ∷ rest
first_is [] b rest h = absurd cc
first_is (x ∷ xs) b rest h =
    let pair : (x, xs) ≡ (b, rest) = given_once (x, xs) (b, rest) h in
    ap (λ (p : ℕ × List ℕ). p.0 ∷ p.1) pair

-- no byte, no number
pub number_at-none : (more : ℕ) (bytes : List ℕ) (e : ParseError) → u8_at bytes ≡ Err e → number_at more bytes ≡ Err e
unfolding number_at
number_at-none more [] e h = h
number_at-none more (b ∷ rest) e h = absurd cc

-- the last byte that may come
pub number_at-last : (more : ℕ) (bytes : List ℕ) (b : ℕ) (rest : List ℕ) → more ≡ 0 → b < 16
    → u8_at bytes ≡ Ok (b, rest)
    → number_at more bytes ≡ Ok (b, rest)
unfolding number_at
number_at-last more bytes b rest none small h = rw (first_is bytes b rest h, none, lt-ltb b 16 small) refl

-- the last byte that may come is too large
pub number_at-overflow : (more : ℕ) (bytes : List ℕ) (b : ℕ) (rest : List ℕ) → more ≡ 0 → 16 ≤ b
    → u8_at bytes ≡ Ok (b, rest)
    → number_at more bytes ≡ Err IntegerOverflow
unfolding number_at
number_at-overflow more bytes b rest none large h = rw (first_is bytes b rest h, none, le-ltb b 16 large) refl

-- a byte below 128 is the last
pub number_at-ends : (more : ℕ) (bytes : List ℕ) (b : ℕ) (rest : List ℕ) → b < 128 → u8_at bytes ≡ Ok (b, rest)
    → 0 < more → number_at more bytes ≡ Ok (b, rest)
unfolding number_at
number_at-ends zero bytes b rest small h some = absurd (omega arith)
number_at-ends (suc more) bytes b rest small h some = rw (first_is bytes b rest h, lt-ltb b 128 small) refl

-- another byte is followed by higher groups
pub number_at-high : (less more : ℕ) (bytes : List ℕ) (b : ℕ) (rest : List ℕ) → more ≡ suc less → 128 ≤ b
    → u8_at bytes ≡ Ok (b, rest)
    → number_at more bytes ≡ (number_at less rest >>= λ high. Ok (b - 128 + 128 * high.0, high.1))
unfolding number_at
number_at-high less more bytes b rest e large h = rw (first_is bytes b rest h, e, le-ltb b 128 large) refl

-- how large a number of so many groups may be
pub power_more : (more : ℕ) → 0 < more → 128 ^ more ≡ 128 * 128 ^ (more - 1)
power_more zero some = absurd (omega arith)
power_more (suc more) some =
    let one_less : suc more - 1 ≡ more = omega arith in
    rw (one_less, pow-succ' 128 more) refl

-- four more groups fill 32 bits
pub power_within : (more : ℕ) → more ≤ 4 → 16 * 128 ^ more ≤ 2 ^ 32
power_within zero le = omega arith
power_within (suc zero) le = omega arith
power_within (suc (suc zero)) le = omega arith
power_within (suc (suc (suc zero))) le = omega arith
power_within (suc (suc (suc (suc zero)))) le = omega arith
power_within (suc (suc (suc (suc (suc more))))) le = absurd (omega arith)

-- no power is 0
pub power_positive : (more : ℕ) → 1 ≤ 128 ^ more
power_positive more = one-le-pow more 128 (lit< tt)

-- ---- what is read stands in front of the rest

-- the bytes end in the rest
abbrev pub EndsIn : List ℕ → List ℕ → Type 0
EndsIn bytes rest = (front : List ℕ) × (bytes ≡ front ++ rest)

pub EndsIn-trans : (a b c : List ℕ) → EndsIn a b → EndsIn b c → EndsIn a c
EndsIn-trans a b c p q = (p.0 ++ q.0, p.1 ∙ ap (λ (x : List ℕ). p.0 ++ x) q.1 ∙ sym (append_assoc p.0 q.0 c))

-- a step that gave a value
pub bind_ok : {A B : Type 0} (r : Result A ParseError) (f : A → Result B ParseError) (y : B) → (r >>= f) ≡ Ok y
    → (x : A) × (r ≡ Ok x) × (f x ≡ Ok y)
bind_ok (Ok x) f y e = (x, refl, e)
bind_ok (Err d) f y e = absurd cc

-- a test that gave its value
pub guard_ok : {A : Type 0} (b : Bool) (d : ParseError) (x y : A) → cond b (Ok x) (Err d) ≡ Ok y → x ≡ y
guard_ok true d x y e = given_once x y e
guard_ok false d x y e = absurd cc

-- the same with the fault first
pub unless_ok : {A : Type 0} (b : Bool) (d : ParseError) (x y : A) → cond b (Err d) (Ok x) ≡ Ok y
    → (b ≡ false) × (x ≡ y)
unless_ok true d x y e = absurd cc
unless_ok false d x y e = (refl, given_once x y e)

-- a value from one of two ways
pub either_ok : {A : Type 0} (b : Bool) (x : A) (r : Result A ParseError) (y : A) → cond b (Ok x) r ≡ Ok y
    → (x ≡ y) ⊎ (r ≡ Ok y)
either_ok true x r y e = inl (given_once x y e)
either_ok false x r y e = inr e

pub u8_ends : (bytes : List ℕ) (b : ℕ) (rest : List ℕ) → u8_at bytes ≡ Ok (b, rest) → EndsIn bytes rest
u8_ends bytes b rest h = (b ∷ [], first_is bytes b rest h)

one_ends : (taken read : ℕ × List ℕ) → taken ≡ read → EndsIn (taken.0 ∷ taken.1) read.1
one_ends taken read h = (taken.0 ∷ [], ap (λ (p : ℕ × List ℕ). taken.0 ∷ p.1) h)

pub number_ends : (more : ℕ) (bytes : List ℕ) (n : ℕ) (rest : List ℕ) → number_at more bytes ≡ Ok (n, rest)
    → EndsIn bytes rest
unfolding number_at
number_ends more [] n rest h = absurd cc
number_ends zero (b ∷ xs) n rest h =
    one_ends (b, xs) (n, rest) (guard_ok (nat_lt b 16) IntegerOverflow (b, xs) (n, rest) h)
number_ends (suc more) (b ∷ xs) n rest h =
    elim (either_ok (nat_lt b 128) (b, xs) (number_at more xs >>= λ high. Ok (b - 128 + 128 * high.0, high.1))
    (n, rest) h) [
      | inl here ↦ one_ends (b, xs) (n, rest) here
      | inr on ↦
          let step = bind_ok (number_at more xs) (λ high. Ok (b - 128 + 128 * high.0, high.1)) (n, rest) on in
          let same : step.0.1 ≡ rest =
          ap (λ (p : ℕ × List ℕ). p.1) (given_once (b - 128 + 128 * step.0.0, step.0.1) (n, rest) step.2) in
          let tail : EndsIn xs rest =
          number_ends more xs step.0.0 rest (step.1 ∙ ap (λ (r : List ℕ). gives (step.0.0, r)) same) in
          EndsIn-trans (b ∷ xs) xs rest (b ∷ [], refl) tail
    ]

-- so many bytes, and the rest
pub bytes_are : (count : ℕ) (bytes spelled rest : List ℕ) → bytes_at count bytes ≡ Ok (spelled, rest)
    → bytes ≡ spelled ++ rest
bytes_are count bytes spelled rest h =
    let taken = unless_ok (nat_lt (length bytes) count) UnexpectedEof (take count bytes, drop count bytes)
    (spelled, rest) h in
    let front : take count bytes ≡ spelled = ap (λ (p : List ℕ × List ℕ). p.0) taken.1 in
    let back : drop count bytes ≡ rest = ap (λ (p : List ℕ × List ℕ). p.1) taken.1 in
    rw (← front, ← back) (sym (take-append-drop count bytes))

-- a name is spelled in front of the rest
pub name_stands : (bytes name rest : List ℕ) → name_at bytes ≡ Ok (name, rest) → EndsIn bytes (name ++ rest)
unfolding name_at utf8_text
name_stands bytes name rest h =
    let count = bind_ok (u32_at bytes)
    (λ count. bytes_at count.0 count.1 >>= λ spelled. utf8_text spelled.0 >>= λ text. Ok (text, spelled.1))
    (name, rest) h in
    let spelled = bind_ok (bytes_at count.0.0 count.0.1)
    (λ spelled. utf8_text spelled.0 >>= λ text. Ok (text, spelled.1)) (name, rest) count.2 in
    let text = bind_ok (utf8_text spelled.0.0) (λ text. Ok (text, spelled.0.1)) (name, rest) spelled.2 in
    let pair : (text.0, spelled.0.1) ≡ (name, rest) = given_once (text.0, spelled.0.1) (name, rest) text.2 in
    let same : spelled.0.0 ≡ text.0 =
    guard_ok (eqb (utf8_valid_len spelled.0.0) (length spelled.0.0)) (InvalidUtf8 (utf8_valid_len spelled.0.0))
    spelled.0.0 text.0 text.1 in
    let stands : count.0.1 ≡ spelled.0.0 ++ spelled.0.1 =
    bytes_are count.0.0 count.0.1 spelled.0.0 spelled.0.1 spelled.1 in
    let named : spelled.0.0 ++ spelled.0.1 ≡ name ++ rest =
    ap (λ (t : List ℕ). t ++ spelled.0.1) same ∙ ap (λ (p : List ℕ × List ℕ). p.0 ++ p.1) pair in
    let ends = number_ends 4 bytes count.0.0 count.0.1 count.1 in
    (ends.0, ends.1 ∙ ap (λ (x : List ℕ). ends.0 ++ x) (stands ∙ named))

-- a name and the rest are no longer than the bytes
pub length-name : (bytes name rest : List ℕ) → name_at bytes ≡ Ok (name, rest)
    → length name + length rest ≤ length bytes
length-name bytes name rest h =
    let stands = name_stands bytes name rest h in
    omega (arith, ap length stands.1, length-append stands.0 (name ++ rest), length-append name rest)

-- a text is read as it is
pub utf8_text-text : (bytes text : List ℕ) → text ≡ bytes → IsUtf8 bytes → utf8_text bytes ≡ Ok text
unfolding utf8_text
utf8_text-text bytes text same valid =
    rw (utf8_valid_len-IsUtf8 bytes valid, eq-eqb (length bytes) (length bytes) refl, same) refl

-- a test that does not hold fails
pub not_true : (b : Bool) → (b ≡ true → ⊥) → b ≡ false
not_true true h = absurd (h refl)
not_true false h = refl

-- other bytes are a fault behind their longest front that is a text
pub utf8_text-fault : (bytes : List ℕ) (n : ℕ) → n ≡ utf8_valid_len bytes → ¬ (IsUtf8 bytes) → IsUtf8 (take n bytes)
    → utf8_text bytes ≡ Err (InvalidUtf8 n)
unfolding utf8_text
utf8_text-fault bytes n same invalid front =
    let differs : utf8_valid_len bytes ≢ length bytes =
    λ e. invalid (subst IsUtf8 (ap (λ (k : ℕ). take k bytes) (same ∙ e) ∙ take-length bytes) front) in
    rw (not_true (eqb (utf8_valid_len bytes) (length bytes)) (λ e. differs (eqb-true _ _ e)), same) refl
