-- A quoted text is a string literal, and what it stands for is the text.
use Rattle.std.proofs.Common.{◌≡◌, ℕ, suc, ◌+◌, ◌-◌, ◌/◌, ◌%◌, ◌≤◌, ◌<◌, Bool, true, false, not, ◌&&◌, ◌==◌, nat_lt, List, [], ◌∷◌, ◌++◌, length, get_or, map, refl, sym, ◌∙◌, ap, subst, arith, eqb-true, ltb-true, ltb-false, ne_eqb, append_assoc, append-nil, length-append, take_at, ◌⊎◌, inl, inr, flat_map, encode_utf8, encode_utf8_all, chars, IsUtf8, Some, is_some}
use Rattle.std.specs.List.{AllByRecursion, list_any}
use Rattle.std.specs.Option.{unwrap_or}
use Rattle.std.specs.Char.Escape.{encode_utf16}
use Rattle.std.specs.Char.Utf16.{utf16_chars, utf16_lossy_chars, has_unpaired_surrogate, lone_unit_char, surrogate_pair_char}
use Rattle.std.proofs.lemmas.Bool.{lt-leb, le-leb, lt-ltb, le-ltb}
use Rattle.std.proofs.lemmas.List.Concat.{flat_map-append}
use Rattle.std.proofs.lemmas.Str.{encode_ascii, encodes-append, inside_one, chars-encodes, encodes-chars, scalars-chars, utf16_chars-nil, utf16_chars_lone, utf16_chars_pair}
use lib.Utf8.{scalar, scalars, scalar_cases}
use Rattle.es_literal.specs.spelling.Units.{concat}
use Rattle.es_literal.specs.Strings.{is_plain, is_single, IsUnit, plain, single, AreUnits, is_quote, IsString}
use Rattle.es_literal.specs.Quotes.{escaped, quoted}
use Rattle.es_literal.specs.Values.{is_octal, is_line_end, single_code, escape_of, unit_of, units_of, inner, value_units, value_of, is_lone}

-- ---- characters that need no escape
record Free (c : ℕ) : Type 0 where
  quote : (c == 34) ≡ false
  slash : (c == 92) ≡ false
  feed : (c == 10) ≡ false
  return : (c == 13) ≡ false

free_plain : (c : ℕ) → Free c → is_plain 34 c ≡ true
unfolding is_plain
free_plain c f = rw (f.quote, f.slash, f.feed, f.return) refl

high_free : (c : ℕ) → 128 ≤ c → Free c
high_free c l = record {
  quote = ne_eqb c 34 (λ e. omega arith);
  slash = ne_eqb c 92 (λ e. omega arith);
  feed = ne_eqb c 10 (λ e. omega arith);
  return = ne_eqb c 13 (λ e. omega arith);
}

byte_by : (c k : ℕ) (low : Bool) → Free c → k < length (encode_utf8 c) → nat_lt (get_or (encode_utf8 c) k 0) 128 ≡ low
    → is_plain 34 (get_or (encode_utf8 c) k 0) ≡ true
byte_by c k true f l e =
    let same : c ≡ get_or (encode_utf8 c) k 0 =
    inside_one c [] (encode_utf8 c) k (sym (append-nil (encode_utf8 c))) l
    (ltb-true (get_or (encode_utf8 c) k 0) 128 e) in
    subst (λ b. is_plain 34 b ≡ true) same (free_plain c f)
byte_by c k false f l e =
    free_plain (get_or (encode_utf8 c) k 0)
    (high_free (get_or (encode_utf8 c) k 0) (ltb-false (get_or (encode_utf8 c) k 0) 128 e))

each_by : (P : ℕ → Type 0) (s : List ℕ) → ((k : ℕ) → k < length s → P (get_or s k 0)) → AllByRecursion P s
each_by P [] h = tt
each_by P (b ∷ s) h = (h 0 (omega arith), each_by P s (λ k l. h (suc k) (omega arith)))

bytes_plain : (c : ℕ) → Free c → AllByRecursion (λ b. is_plain 34 b ≡ true) (encode_utf8 c)
bytes_plain c f = each_by (λ b. is_plain 34 b ≡ true) (encode_utf8 c)
    (λ k l. byte_by c k (nat_lt (get_or (encode_utf8 c) k 0) 128) f l refl)

-- a property of an escaped character
record Escapes (P : ℕ → List ℕ → Type 0) : Type 0 where
  quote : P 34 (92 ∷ 34 ∷ [])
  slash : P 92 (92 ∷ 92 ∷ [])
  feed : P 10 (92 ∷ 110 ∷ [])
  return : P 13 (92 ∷ 114 ∷ [])
  free : (c : ℕ) → Free c → P c (c ∷ [])

escaped_by : (P : ℕ → List ℕ → Type 0) → Escapes P → (c : ℕ) (u v w x : Bool) → (c == 34) ≡ u → (c == 92) ≡ v
    → (c == 10) ≡ w → (c == 13) ≡ x → P c (escaped c)
unfolding escaped
escaped_by P k c true v w x p q r s = rw p (subst (λ (d : ℕ). P d (92 ∷ 34 ∷ [])) (sym (eqb-true c 34 p)) k.quote)
escaped_by P k c false true w x p q r s =
    rw (p, q) (subst (λ (d : ℕ). P d (92 ∷ 92 ∷ [])) (sym (eqb-true c 92 q)) k.slash)
escaped_by P k c false false true x p q r s =
    rw (p, q, r) (subst (λ (d : ℕ). P d (92 ∷ 110 ∷ [])) (sym (eqb-true c 10 r)) k.feed)
escaped_by P k c false false false true p q r s =
    rw (p, q, r, s) (subst (λ (d : ℕ). P d (92 ∷ 114 ∷ [])) (sym (eqb-true c 13 s)) k.return)
escaped_by P k c false false false false p q r s =
    rw (p, q, r, s) (k.free c (record { quote = p; slash = q; feed = r; return = s }))

escaped_is : (P : ℕ → List ℕ → Type 0) → Escapes P → (c : ℕ) → P c (escaped c)
escaped_is P k c = escaped_by P k c (c == 34) (c == 92) (c == 10) (c == 13) refl refl refl refl

-- ---- it is a literal
record Body (s after : List ℕ) : Type 0 where
  units : List (List ℕ)
  each : AreUnits 34 units after
  whole : s ≡ concat units

body_unit : (u s after : List ℕ) → IsUnit 34 u (s ++ after) → Body s after → Body (u ++ s) after
body_unit u s after i b = record {
  units = u ∷ b.units;
  each = (subst (λ (t : List ℕ). IsUnit 34 u (t ++ after)) b.whole i, b.each);
  whole = ap (λ t. u ++ t) b.whole;
}

body_bytes : (bs s after : List ℕ) → AllByRecursion (λ b. is_plain 34 b ≡ true) bs → Body s after → Body (bs ++ s) after
body_bytes [] s after h b = b
body_bytes (x ∷ bs) s after h b =
    body_unit (x ∷ []) (bs ++ s) after (plain x h.0 refl) (body_bytes bs s after h.1 b)

pair_ascii : (a b : ℕ) → a < 128 → b < 128 → encode_utf8_all (a ∷ b ∷ []) ≡ a ∷ b ∷ []
pair_ascii a b l m = rw (encode_ascii a l, encode_ascii b m) refl

body_pair : (b : ℕ) (s after : List ℕ) → b < 128 → is_single b ≡ true → Body s after
    → Body (encode_utf8_all (92 ∷ b ∷ []) ++ s) after
body_pair b s after l p k =
    subst (λ (t : List ℕ). Body (t ++ s) after) (sym (pair_ascii 92 b (omega arith) l))
    (body_unit (92 ∷ b ∷ []) s after (single b p refl) k)

abbrev Goes : List ℕ → List ℕ → ℕ → List ℕ → Type 0
Goes s after c t = Body s after → Body (encode_utf8_all t ++ s) after

body_escapes : (s after : List ℕ) → Escapes (Goes s after)
unfolding is_single
body_escapes s after = record {
  quote = λ k. body_pair 34 s after (omega arith) refl k;
  slash = λ k. body_pair 92 s after (omega arith) refl k;
  feed = λ k. body_pair 110 s after (omega arith) refl k;
  return = λ k. body_pair 114 s after (omega arith) refl k;
  free = λ c f k. subst (λ (t : List ℕ). Body (t ++ s) after) (sym (append-nil (encode_utf8 c)))
      (body_bytes (encode_utf8 c) s after (bytes_plain c f) k);
}

body_text : (cs after : List ℕ) → Body (encode_utf8_all (flat_map escaped cs)) after
body_text [] after = record { units = []; each = tt; whole = refl }
body_text (c ∷ cs) after =
    subst (λ (t : List ℕ). Body t after) (sym (encodes-append (escaped c) (flat_map escaped cs)))
    (escaped_is (Goes (encode_utf8_all (flat_map escaped cs)) after)
    (body_escapes (encode_utf8_all (flat_map escaped cs)) after) c (body_text cs after))

quoted_bytes : (cs : List ℕ)
    → encode_utf8_all (quoted cs) ≡ 34 ∷ (encode_utf8_all (flat_map escaped cs) ++ 34 ∷ [])
unfolding quoted
quoted_bytes cs =
    let one : encode_utf8 34 ≡ 34 ∷ [] = encode_ascii 34 (omega arith) in
    ap (λ t. t ++ encode_utf8_all (flat_map escaped cs ++ 34 ∷ [])) one
    ∙ ap (λ t. 34 ∷ t) (encodes-append (flat_map escaped cs) (34 ∷ [])
    ∙ ap (λ t. encode_utf8_all (flat_map escaped cs) ++ (t ++ [])) one)

pub quoted_string : (cs : List ℕ) → IsString (encode_utf8_all (quoted cs))
unfolding is_quote
quoted_string cs =
    let b : Body (encode_utf8_all (flat_map escaped cs)) (34 ∷ []) = body_text cs (34 ∷ []) in
    record {
      quote = 34;
      units = b.units;
      quotes = refl;
      each = b.each;
      whole = quoted_bytes cs ∙ ap (λ t. 34 ∷ (t ++ 34 ∷ [])) b.whole;
    }

-- one more character
pub quote_more : (cs : List ℕ) (c : ℕ) → encode_utf8_all (34 ∷ flat_map escaped (cs ++ c ∷ []))
    ≡ encode_utf8_all (34 ∷ flat_map escaped cs) ++ encode_utf8_all (escaped c)
quote_more cs c =
    ap (λ t. encode_utf8_all (34 ∷ t)) (flat_map-append escaped cs (c ∷ [])
    ∙ ap (λ t. flat_map escaped cs ++ t) (append-nil (escaped c)))
    ∙ encodes-append (34 ∷ flat_map escaped cs) (escaped c)

pub quote_done : (cs : List ℕ)
    → encode_utf8_all (34 ∷ flat_map escaped cs) ++ encode_utf8 34 ≡ encode_utf8_all (quoted cs)
unfolding quoted
quote_done cs =
    ap (λ t. encode_utf8_all (34 ∷ flat_map escaped cs) ++ t) (sym (append-nil (encode_utf8 34)))
    ∙ sym (encodes-append (34 ∷ flat_map escaped cs) (34 ∷ []))

-- ---- and stands for the text
abbrev Scalars : List ℕ → ℕ → List ℕ → Type 0
Scalars rest c t = scalar c ≡ true → scalars rest ≡ true → scalars (t ++ rest) ≡ true

both_true : (u v : Bool) → u ≡ true → v ≡ true → (u && v) ≡ true
both_true u v e h = rw e h

scalar_escapes : (rest : List ℕ) → Escapes (Scalars rest)
scalar_escapes rest = record {
  quote = λ e h. h;
  slash = λ e h. h;
  feed = λ e h. h;
  return = λ e h. h;
  free = λ c f e h. both_true (scalar c) (scalars rest) e h;
}

left_true : (u v : Bool) → (u && v) ≡ true → u ≡ true
left_true true v e = refl
left_true false v e = cc

right_true : (u v : Bool) → (u && v) ≡ true → v ≡ true
right_true true v e = e
right_true false v e = cc

body_scalars : (cs rest : List ℕ) → scalars cs ≡ true → scalars rest ≡ true
    → scalars (flat_map escaped cs ++ rest) ≡ true
body_scalars [] rest e h = h
body_scalars (c ∷ cs) rest e h =
    subst (λ (t : List ℕ). scalars t ≡ true) (sym (append_assoc (escaped c) (flat_map escaped cs) rest))
    (escaped_is (Scalars (flat_map escaped cs ++ rest)) (scalar_escapes (flat_map escaped cs ++ rest)) c
    (left_true (scalar c) (scalars cs) e) (body_scalars cs rest (right_true (scalar c) (scalars cs) e) h))

quoted_chars : (cs : List ℕ) → scalars cs ≡ true → chars (encode_utf8_all (quoted cs)) ≡ quoted cs
unfolding quoted
quoted_chars cs e = chars-encodes (34 ∷ (flat_map escaped cs ++ 34 ∷ [])) (body_scalars cs (34 ∷ []) e refl)

quoted_inner : (cs : List ℕ) → inner (quoted cs) ≡ flat_map escaped cs
unfolding inner quoted
quoted_inner cs =
    take_at (flat_map escaped cs) (34 ∷ []) (length (34 ∷ (flat_map escaped cs ++ 34 ∷ [])) - 2)
    (omega (arith, length-append (flat_map escaped cs) (34 ∷ [])))

abbrev Stands : List ℕ → ℕ → List ℕ → Type 0
Stands rest c t = units_of 0 (t ++ rest) ≡ encode_utf16 c ++ units_of 0 rest

free_stands : (c : ℕ) (rest : List ℕ) → Free c → units_of 0 (c ∷ rest) ≡ encode_utf16 c ++ units_of 0 rest
unfolding units_of unit_of
free_stands c rest f = rw f.slash refl

stands_escapes : (rest : List ℕ) → Escapes (Stands rest)
unfolding units_of unit_of escape_of is_octal is_line_end single_code
stands_escapes rest = record {
  quote = refl;
  slash = refl;
  feed = refl;
  return = refl;
  free = λ c f. free_stands c rest f;
}

quoted_units : (cs : List ℕ) → units_of 0 (flat_map escaped cs) ≡ flat_map encode_utf16 cs
unfolding units_of
quoted_units [] = refl
quoted_units (c ∷ cs) =
    escaped_is (Stands (flat_map escaped cs)) (stands_escapes (flat_map escaped cs)) c
    ∙ ap (λ t. encode_utf16 c ++ t) (quoted_units cs)

-- ---- units of characters are read as these characters
lone_low : (c : ℕ) → c < 0xD800 → lone_unit_char c ≡ Some c
lone_low c l = rw (lt-leb 0xD800 c l) refl

lone_high : (c : ℕ) → 0xE000 ≤ c → lone_unit_char c ≡ Some c
lone_high c l = rw (le-leb 0xD800 c (omega arith), le-ltb c 0xE000 l) refl

one_unit : (c : ℕ) → c < 0x10000 → encode_utf16 c ≡ c ∷ []
one_unit c l = rw (lt-ltb c 0x10000 l) refl

read_one : (c : ℕ) (us : List ℕ) → c < 0x10000 → (c < 0xD800) ⊎ (0xE000 ≤ c)
    → utf16_chars (encode_utf16 c ++ us) ≡ Some c ∷ utf16_chars us
read_one c us l (inl k) =
    ap (λ t. utf16_chars (t ++ us)) (one_unit c l)
    ∙ (utf16_chars_lone c us (λ p. omega (arith, p.0)) ∙ ap (λ t. t ∷ utf16_chars us) (lone_low c k))
read_one c us l (inr k) =
    ap (λ t. utf16_chars (t ++ us)) (one_unit c l)
    ∙ (utf16_chars_lone c us (λ p. omega (arith, p.1)) ∙ ap (λ t. t ∷ utf16_chars us) (lone_high c k))

two_units : (c : ℕ) → 0x10000 ≤ c
    → encode_utf16 c ≡ (0xD800 + (c - 0x10000) / 0x400) ∷ (0xDC00 + (c - 0x10000) % 0x400) ∷ []
two_units c l = rw (le-ltb c 0x10000 l) refl

pair_code : (c : ℕ) → 0x10000 ≤ c
    → surrogate_pair_char (0xD800 + (c - 0x10000) / 0x400) (0xDC00 + (c - 0x10000) % 0x400) ≡ c
pair_code c l = omega arith

read_two : (c : ℕ) (us : List ℕ) → 0x10000 ≤ c → c < 0x110000
    → utf16_chars (encode_utf16 c ++ us) ≡ Some c ∷ utf16_chars us
read_two c us l k =
    ap (λ t. utf16_chars (t ++ us)) (two_units c l)
    ∙ (utf16_chars_pair (0xD800 + (c - 0x10000) / 0x400) (0xDC00 + (c - 0x10000) % 0x400) us
    (omega arith, omega arith, omega arith, omega arith)
    ∙ ap (λ d. Some d ∷ utf16_chars us) (pair_code c l))

read_high : (c : ℕ) (us : List ℕ) (low : Bool) → nat_lt c 0x10000 ≡ low → (0xE000 ≤ c) × (c < 0x110000)
    → utf16_chars (encode_utf16 c ++ us) ≡ Some c ∷ utf16_chars us
read_high c us true e r = read_one c us (ltb-true c 0x10000 e) (inr r.0)
read_high c us false e r = read_two c us (ltb-false c 0x10000 e) r.1

read_by : (c : ℕ) (us : List ℕ) → (c < 0xD800) ⊎ ((0xE000 ≤ c) × (c < 0x110000))
    → utf16_chars (encode_utf16 c ++ us) ≡ Some c ∷ utf16_chars us
read_by c us (inl l) = read_one c us (omega arith) (inl l)
read_by c us (inr r) = read_high c us (nat_lt c 0x10000) refl r

units_read : (cs : List ℕ) → scalars cs ≡ true → utf16_chars (flat_map encode_utf16 cs) ≡ map (λ c. Some c) cs
units_read [] e = utf16_chars-nil
units_read (c ∷ cs) e =
    read_by c (flat_map encode_utf16 cs) (scalar_cases c (left_true (scalar c) (scalars cs) e))
    ∙ ap (λ t. Some c ∷ t) (units_read cs (right_true (scalar c) (scalars cs) e))

all_same : (cs : List ℕ) → map (λ o. unwrap_or o 0xFFFD) (map (λ c. Some c) cs) ≡ cs
all_same [] = refl
all_same (c ∷ cs) = ap (λ t. c ∷ t) (all_same cs)

none_lone : (cs : List ℕ) → list_any (λ o. not (is_some o)) (map (λ c. Some c) cs) ≡ false
none_lone [] = refl
none_lone (c ∷ cs) = none_lone cs

quoted_value_units : (cs : List ℕ) → scalars cs ≡ true
    → value_units (encode_utf8_all (quoted cs)) ≡ flat_map encode_utf16 cs
unfolding value_units
quoted_value_units cs e =
    ap (λ t. units_of 0 (inner t)) (quoted_chars cs e) ∙ (ap (units_of 0) (quoted_inner cs) ∙ quoted_units cs)

quoted_value : (cs : List ℕ) → scalars cs ≡ true → value_of (encode_utf8_all (quoted cs)) ≡ encode_utf8_all cs
unfolding value_of
quoted_value cs e =
    ap (λ t. encode_utf8_all (utf16_lossy_chars t)) (quoted_value_units cs e)
    ∙ ap encode_utf8_all (ap (λ t. map (λ o. unwrap_or o 0xFFFD) t) (units_read cs e) ∙ all_same cs)

quoted_lone : (cs : List ℕ) → scalars cs ≡ true → is_lone (encode_utf8_all (quoted cs)) ≡ false
unfolding is_lone
quoted_lone cs e =
    ap has_unpaired_surrogate (quoted_value_units cs e)
    ∙ (ap (λ t. list_any (λ o. not (is_some o)) t) (units_read cs e) ∙ none_lone cs)

-- the same of a text
pub text_value : (text : List ℕ) → IsUtf8 text → value_of (encode_utf8_all (quoted (chars text))) ≡ text
text_value text u = quoted_value (chars text) (scalars-chars text u) ∙ encodes-chars text u

pub text_lone : (text : List ℕ) → IsUtf8 text → is_lone (encode_utf8_all (quoted (chars text))) ≡ false
text_lone text u = quoted_lone (chars text) (scalars-chars text u)
