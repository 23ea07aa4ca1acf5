-- A unit's size is found where a unit stands, and nowhere else.
use Rattle.std.proofs.Common.{◌≡◌, ℕ, ◌+◌, ◌*◌, ◌≤◌, ◌<◌, Bool, true, false, ◌==◌, nat_le, List, [], ◌∷◌, ◌++◌, length, refl, sym, ◌∙◌, ap, subst, arith, eqb-true, le-leb, leb-true, ltb-true, append_assoc, length-append, true≢false}
use Rattle.std.specs.List.{AllByRecursion}
use Rattle.es_literal.specs.Strings.{digit, is_hex, worth, is_plain, is_single, begins_feed, IsUnit, plain, single, two, four, braced, return, return_feed, two_size, four_size, point_size, braced_size, unicode_size, return_size, escape_size, string_unit}

-- ---- tests of a byte
apart : (b n : ℕ) (v : Bool) → (b == n) ≡ v → is_hex b ≡ true → is_hex n ≡ false → v ≡ false
apart b n true p h g = absurd (true≢false (sym h ∙ (ap is_hex (eqb-true b n p) ∙ g)))
apart b n false p h g = refl

no_brace : (b : ℕ) → is_hex b ≡ true → (b == 123) ≡ false
unfolding is_hex digit
no_brace b h = apart b 123 (b == 123) refl h refl

pub no_close : (b : ℕ) → is_hex b ≡ true → (b == 125) ≡ false
unfolding is_hex digit
no_close b h = apart b 125 (b == 125) refl h refl

digit_small : (b : ℕ) → is_hex b ≡ true → digit b < 16
unfolding is_hex
digit_small b h = ltb-true (digit b) 16 h

pub record Plain (q b : ℕ) : Type 0 where
  pub quote : (b == q) ≡ false
  pub slash : (b == 92) ≡ false
  pub feed : (b == 10) ≡ false
  pub return : (b == 13) ≡ false

plain_by : (q b : ℕ) (u v w x : Bool) → (b == q) ≡ u → (b == 92) ≡ v → (b == 10) ≡ w → (b == 13) ≡ x
    → is_plain q b ≡ true → Plain q b
unfolding is_plain
plain_by q b true v w x p r s t e = let g : false ≡ true = rw p at e in cc
plain_by q b false true w x p r s t e = let g : false ≡ true = rw (p, r) at e in cc
plain_by q b false false true x p r s t e = let g : false ≡ true = rw (p, r, s) at e in cc
plain_by q b false false false true p r s t e = let g : false ≡ true = rw (p, r, s, t) at e in cc
plain_by q b false false false false p r s t e = record { quote = p; slash = r; feed = s; return = t }

pub plain_is : (q b : ℕ) → is_plain q b ≡ true → Plain q b
plain_is q b e = plain_by q b (b == q) (b == 92) (b == 10) (b == 13) refl refl refl refl e

record Single (b : ℕ) : Type 0 where
  x : (b == 120) ≡ false
  u : (b == 117) ≡ false
  return : (b == 13) ≡ false

single_by : (b : ℕ) (u v w : Bool) → (b == 120) ≡ u → (b == 117) ≡ v → (b == 13) ≡ w → is_single b ≡ true → Single b
unfolding is_single
single_by b true v w p r s e = let g : false ≡ true = rw p at e in cc
single_by b false true w p r s e = let g : false ≡ true = rw (p, r) at e in cc
single_by b false false true p r s e = let g : false ≡ true = rw (p, r, s) at e in cc
single_by b false false false p r s e = record { x = p; u = r; return = s }

-- ---- a unit has its size
grows : (value d n : ℕ) → value * 16 + d ≤ n → value ≤ n
grows value d n l = omega arith

pub worth_more : (value : ℕ) (digits : List ℕ) → value ≤ worth value digits
worth_more value [] = omega arith
worth_more value (d ∷ digits) =
    let more : value * 16 + digit d ≤ worth (value * 16 + digit d) digits =
    worth_more (value * 16 + digit d) digits in
    grows value (digit d) (worth (value * 16 + digit d) digits) more

point_passes : (size value : ℕ) (digits after : List ℕ) → AllByRecursion (λ b. is_hex b ≡ true) digits
    → worth value digits ≤ 0x10FFFF → point_size size value (digits ++ 125 ∷ after) ≡ size + length digits + 1
unfolding point_size
point_passes size value [] after h l = (let e : size + 1 ≡ size + 0 + 1 = omega arith in e)
point_passes size value (d ∷ digits) after h l =
    let next : ℕ = value * 16 + digit d in
    let more : next ≤ worth next digits = worth_more next digits in
    rw (no_close d h.0, h.0, le-leb next 0x10FFFF (omega arith)) (point_passes (size + 1) next digits after h.1 l
    ∙ (let e : size + 1 + length digits + 1 ≡ size + length (d ∷ digits) + 1 = omega arith in e))

worth_first : (d : ℕ) (digits : List ℕ) → worth 0 (d ∷ digits) ≡ worth (digit d) digits
worth_first d digits = ap (λ v. worth v digits) (let e : 0 * 16 + digit d ≡ digit d = omega arith in e)

braced_passes : (d : ℕ) (digits after : List ℕ) → AllByRecursion (λ b. is_hex b ≡ true) (d ∷ digits)
    → worth 0 (d ∷ digits) ≤ 0x10FFFF
    → braced_size (d ∷ ((digits ++ 125 ∷ []) ++ after)) ≡ length (92 ∷ 117 ∷ 123 ∷ d ∷ (digits ++ 125 ∷ []))
unfolding braced_size
braced_passes d digits after h l =
    rw h.0 (ap (point_size 4 (digit d)) (append_assoc digits (125 ∷ []) after)
    ∙ (point_passes 4 (digit d) digits after h.1 (subst (λ v. v ≤ 0x10FFFF) (worth_first d digits) l)
    ∙ (let e : 4 + length digits + 1 ≡ length (92 ∷ 117 ∷ 123 ∷ d ∷ (digits ++ 125 ∷ [])) =
    omega (arith, length-append digits (125 ∷ [])) in e)))

return_alone : (after : List ℕ) → begins_feed after ≡ false → return_size after ≡ 2
unfolding begins_feed return_size
return_alone [] f = refl
return_alone (b ∷ after) f = rw f refl

abbrev Sized : ℕ → List ℕ → List ℕ → Type 0
Sized q after u = string_unit q (u ++ after) ≡ length u

plain_size : (q b : ℕ) (after : List ℕ) → is_plain q b ≡ true → Sized q after (b ∷ [])
unfolding string_unit
plain_size q b after p = let k : Plain q b = plain_is q b p in rw (k.slash, p) refl

single_size : (q b : ℕ) (after : List ℕ) → is_single b ≡ true → Sized q after (92 ∷ b ∷ [])
unfolding string_unit escape_size
single_size q b after p =
    let k : Single b = single_by b (b == 120) (b == 117) (b == 13) refl refl refl p in
    rw (k.x, k.u, k.return) refl

two_sized : (q c d : ℕ) (after : List ℕ) → is_hex c ≡ true → is_hex d ≡ true → Sized q after (92 ∷ 120 ∷ c ∷ d ∷ [])
unfolding string_unit escape_size two_size
two_sized q c d after h g = rw (h, g) refl

four_sized : (q c d e f : ℕ) (after : List ℕ) → is_hex c ≡ true → is_hex d ≡ true → is_hex e ≡ true
    → is_hex f ≡ true → Sized q after (92 ∷ 117 ∷ c ∷ d ∷ e ∷ f ∷ [])
unfolding string_unit escape_size unicode_size four_size
four_sized q c d e f after h i j k = rw (no_brace c h, h, i, j, k) refl

braced_sized : (q d : ℕ) (digits after : List ℕ) → AllByRecursion (λ b. is_hex b ≡ true) (d ∷ digits)
    → worth 0 (d ∷ digits) ≤ 0x10FFFF → Sized q after (92 ∷ 117 ∷ 123 ∷ d ∷ (digits ++ 125 ∷ []))
unfolding string_unit escape_size unicode_size
braced_sized q d digits after h l = braced_passes d digits after h l

return_sized : (q : ℕ) (after : List ℕ) → begins_feed after ≡ false → Sized q after (92 ∷ 13 ∷ [])
unfolding string_unit escape_size
return_sized q after f = return_alone after f

return_feed_sized : (q : ℕ) (after : List ℕ) → Sized q after (92 ∷ 13 ∷ 10 ∷ [])
unfolding string_unit escape_size return_size
return_feed_sized q after = refl

pub unit_sized : (q : ℕ) (u after : List ℕ) → IsUnit q u after → string_unit q (u ++ after) ≡ length u
unit_sized q u after (plain b p e) = subst (Sized q after) (sym e) (plain_size q b after p)
unit_sized q u after (single b p e) = subst (Sized q after) (sym e) (single_size q b after p)
unit_sized q u after (two c d h i e) = subst (Sized q after) (sym e) (two_sized q c d after h i)
unit_sized q u after (four c d e f h i j k w) = subst (Sized q after) (sym w) (four_sized q c d e f after h i j k)
unit_sized q u after (braced d digits h l e) = subst (Sized q after) (sym e) (braced_sized q d digits after h l)
unit_sized q u after (return f e) = subst (Sized q after) (sym e) (return_sized q after f)
unit_sized q u after (return_feed e) = subst (Sized q after) (sym e) (return_feed_sized q after)

abbrev IsThere : List ℕ → Type 0
IsThere u = 0 < length u

pub unit_some : (q : ℕ) (u after : List ℕ) → IsUnit q u after → 0 < length u
unit_some q u after (plain b p e) = subst IsThere (sym e) (omega arith)
unit_some q u after (single b p e) = subst IsThere (sym e) (omega arith)
unit_some q u after (two c d h i e) = subst IsThere (sym e) (omega arith)
unit_some q u after (four c d e f h i j k w) = subst IsThere (sym w) (omega arith)
unit_some q u after (braced d digits h l e) = subst IsThere (sym e) (omega arith)
unit_some q u after (return f e) = subst IsThere (sym e) (omega arith)
unit_some q u after (return_feed e) = subst IsThere (sym e) (omega arith)

-- ---- and what has a size is a unit
pub record Front (q : ℕ) (text : List ℕ) (size : ℕ) : Type 0 where
  pub unit : List ℕ
  pub after : List ℕ
  pub whole : text ≡ unit ++ after
  pub long : length unit ≡ size
  pub is : IsUnit q unit after

no_size : {A : Type 0} (n : ℕ) → n ≡ 0 → 0 < n → A
no_size n e l = absurd (omega arith)

two_by : (q c d : ℕ) (rest : List ℕ) (u v : Bool) → is_hex c ≡ u → is_hex d ≡ v → 0 < two_size (c ∷ d ∷ rest)
    → Front q (92 ∷ 120 ∷ c ∷ d ∷ rest) (two_size (c ∷ d ∷ rest))
unfolding two_size
two_by q c d rest true true p r l =
    rw (p, r) (record { unit = 92 ∷ 120 ∷ c ∷ d ∷ []; after = rest; whole = refl; long = refl; is = two c d p r refl })
two_by q c d rest true false p r l = no_size (two_size (c ∷ d ∷ rest)) (rw (p, r) refl) l
two_by q c d rest false v p r l = no_size (two_size (c ∷ d ∷ rest)) (rw p refl) l

two_found : (q : ℕ) (text : List ℕ) → 0 < two_size text → Front q (92 ∷ 120 ∷ text) (two_size text)
unfolding two_size
two_found q [] l = absurd (omega arith)
two_found q (c ∷ []) l = absurd (omega arith)
two_found q (c ∷ d ∷ rest) l = two_by q c d rest (is_hex c) (is_hex d) refl refl l

four_by : (q c d e f : ℕ) (rest : List ℕ) (u v w x : Bool) → is_hex c ≡ u → is_hex d ≡ v → is_hex e ≡ w
    → is_hex f ≡ x → 0 < four_size (c ∷ d ∷ e ∷ f ∷ rest)
    → Front q (92 ∷ 117 ∷ c ∷ d ∷ e ∷ f ∷ rest) (four_size (c ∷ d ∷ e ∷ f ∷ rest))
unfolding four_size
four_by q c d e f rest true true true true p r s t l = rw (p, r, s, t) (record {
  unit = 92 ∷ 117 ∷ c ∷ d ∷ e ∷ f ∷ [];
  after = rest;
  whole = refl;
  long = refl;
  is = four c d e f p r s t refl;
})
four_by q c d e f rest true true true false p r s t l =
    no_size (four_size (c ∷ d ∷ e ∷ f ∷ rest)) (rw (p, r, s, t) refl) l
four_by q c d e f rest true true false x p r s t l = no_size (four_size (c ∷ d ∷ e ∷ f ∷ rest)) (rw (p, r, s) refl) l
four_by q c d e f rest true false w x p r s t l = no_size (four_size (c ∷ d ∷ e ∷ f ∷ rest)) (rw (p, r) refl) l
four_by q c d e f rest false v w x p r s t l = no_size (four_size (c ∷ d ∷ e ∷ f ∷ rest)) (rw p refl) l

four_found : (q : ℕ) (text : List ℕ) → 0 < four_size text → Front q (92 ∷ 117 ∷ text) (four_size text)
unfolding four_size
four_found q [] l = absurd (omega arith)
four_found q (c ∷ []) l = absurd (omega arith)
four_found q (c ∷ d ∷ []) l = absurd (omega arith)
four_found q (c ∷ d ∷ e ∷ []) l = absurd (omega arith)
four_found q (c ∷ d ∷ e ∷ f ∷ rest) l =
    four_by q c d e f rest (is_hex c) (is_hex d) (is_hex e) (is_hex f) refl refl refl refl l

-- digits and `}`
record Point (size value : ℕ) (text : List ℕ) : Type 0 where
  digits : List ℕ
  after : List ℕ
  whole : text ≡ digits ++ 125 ∷ after
  each : AllByRecursion (λ b. is_hex b ≡ true) digits
  small : worth value digits ≤ 0x10FFFF
  long : point_size size value text ≡ size + length digits + 1

point_more : (size value b : ℕ) (rest : List ℕ) → (b == 125) ≡ false → is_hex b ≡ true
    → nat_le (value * 16 + digit b) 0x10FFFF ≡ true → Point (size + 1) (value * 16 + digit b) rest
    → Point size value (b ∷ rest)
unfolding point_size
point_more size value b rest p r s m = record {
  digits = b ∷ m.digits;
  after = m.after;
  whole = ap (λ t. b ∷ t) m.whole;
  each = (r, m.each);
  small = m.small;
  long = rw (p, r, s) (m.long
      ∙ (let e : size + 1 + length m.digits + 1 ≡ size + length (b ∷ m.digits) + 1 = omega arith in e));
}

point_step : (size value b : ℕ) (rest : List ℕ) (u v w : Bool) → (b == 125) ≡ u → is_hex b ≡ v
    → nat_le (value * 16 + digit b) 0x10FFFF ≡ w → value ≤ 0x10FFFF → 0 < point_size size value (b ∷ rest)
    → (0 < point_size (size + 1) (value * 16 + digit b) rest → value * 16 + digit b ≤ 0x10FFFF
    → Point (size + 1) (value * 16 + digit b) rest) → Point size value (b ∷ rest)
unfolding point_size
point_step size value b rest true v w p r s k l more = record {
  digits = [];
  after = rest;
  whole = ap (λ c. c ∷ rest) (eqb-true b 125 p);
  each = tt;
  small = k;
  long = rw p (let e : size + 1 ≡ size + 0 + 1 = omega arith in e);
}
point_step size value b rest false true true p r s k l more =
    point_more size value b rest p r s
    (more (rw (p, r, s) at l) (leb-true (value * 16 + digit b) 0x10FFFF s))
point_step size value b rest false true false p r s k l more =
    no_size (point_size size value (b ∷ rest)) (rw (p, r, s) refl) l
point_step size value b rest false false w p r s k l more =
    no_size (point_size size value (b ∷ rest)) (rw (p, r) refl) l

point_found : (size value : ℕ) (text : List ℕ) → value ≤ 0x10FFFF → 0 < point_size size value text
    → Point size value text
unfolding point_size
point_found size value [] k l = absurd (omega arith)
point_found size value (b ∷ rest) k l =
    point_step size value b rest (b == 125) (is_hex b) (nat_le (value * 16 + digit b) 0x10FFFF) refl refl refl k l
    (λ m n. point_found (size + 1) (value * 16 + digit b) rest n m)

braced_is : (q d : ℕ) (rest : List ℕ) → is_hex d ≡ true → (m : Point 4 (digit d) rest)
    → Front q (92 ∷ 117 ∷ 123 ∷ d ∷ rest) (point_size 4 (digit d) rest)
braced_is q d rest h m = record {
  unit = 92 ∷ 117 ∷ 123 ∷ d ∷ (m.digits ++ 125 ∷ []);
  after = m.after;
  whole = ap (λ t. 92 ∷ 117 ∷ 123 ∷ d ∷ t) (m.whole ∙ sym (append_assoc m.digits (125 ∷ []) m.after));
  long = (let e : length (92 ∷ 117 ∷ 123 ∷ d ∷ (m.digits ++ 125 ∷ [])) ≡ 4 + length m.digits + 1 =
      omega (arith, length-append m.digits (125 ∷ [])) in e)
      ∙ sym m.long;
  is = braced d m.digits (h, m.each) (subst (λ v. v ≤ 0x10FFFF) (sym (worth_first d m.digits)) m.small) refl;
}

braced_by : (q d : ℕ) (rest : List ℕ) (u : Bool) → is_hex d ≡ u → 0 < braced_size (d ∷ rest)
    → Front q (92 ∷ 117 ∷ 123 ∷ d ∷ rest) (braced_size (d ∷ rest))
unfolding braced_size
braced_by q d rest true p l =
    let small : digit d < 16 = digit_small d p in
    let there : 0 < point_size 4 (digit d) rest = rw p at l in
    rw p (braced_is q d rest p (point_found 4 (digit d) rest (omega arith) there))
braced_by q d rest false p l = no_size (braced_size (d ∷ rest)) (rw p refl) l

braced_found : (q : ℕ) (text : List ℕ) → 0 < braced_size text → Front q (92 ∷ 117 ∷ 123 ∷ text) (braced_size text)
unfolding braced_size
braced_found q [] l = absurd (omega arith)
braced_found q (d ∷ rest) l = braced_by q d rest (is_hex d) refl l

unicode_by : (q b : ℕ) (rest : List ℕ) (u : Bool) → (b == 123) ≡ u → 0 < unicode_size (b ∷ rest)
    → Front q (92 ∷ 117 ∷ b ∷ rest) (unicode_size (b ∷ rest))
unfolding unicode_size
unicode_by q b rest true p l =
    let there : 0 < braced_size rest = rw p at l in
    rw p (subst (λ (c : ℕ). Front q (92 ∷ 117 ∷ c ∷ rest) (braced_size rest)) (sym (eqb-true b 123 p))
    (braced_found q rest there))
unicode_by q b rest false p l =
    let there : 0 < four_size (b ∷ rest) = rw p at l in rw p (four_found q (b ∷ rest) there)

unicode_found : (q : ℕ) (text : List ℕ) → 0 < unicode_size text → Front q (92 ∷ 117 ∷ text) (unicode_size text)
unfolding unicode_size
unicode_found q [] l = absurd (omega arith)
unicode_found q (b ∷ rest) l = unicode_by q b rest (b == 123) refl l

return_by : (q b : ℕ) (rest : List ℕ) (u : Bool) → (b == 10) ≡ u → Front q (92 ∷ 13 ∷ b ∷ rest) (return_size (b ∷ rest))
unfolding return_size begins_feed
return_by q b rest true p = rw p (record {
  unit = 92 ∷ 13 ∷ 10 ∷ [];
  after = rest;
  whole = ap (λ c. 92 ∷ 13 ∷ c ∷ rest) (eqb-true b 10 p);
  long = refl;
  is = return_feed refl;
})
return_by q b rest false p = rw p (record {
  unit = 92 ∷ 13 ∷ [];
  after = b ∷ rest;
  whole = refl;
  long = refl;
  is = return p refl;
})

return_found : (q : ℕ) (text : List ℕ) → Front q (92 ∷ 13 ∷ text) (return_size text)
unfolding return_size begins_feed
return_found q [] = record { unit = 92 ∷ 13 ∷ []; after = []; whole = refl; long = refl; is = return refl refl }
return_found q (b ∷ rest) = return_by q b rest (b == 10) refl

escape_by : (q b : ℕ) (rest : List ℕ) (u v w : Bool) → (b == 120) ≡ u → (b == 117) ≡ v → (b == 13) ≡ w
    → 0 < escape_size (b ∷ rest) → Front q (92 ∷ b ∷ rest) (escape_size (b ∷ rest))
unfolding escape_size is_single
escape_by q b rest true v w p r s l =
    let there : 0 < two_size rest = rw p at l in
    rw p (subst (λ (c : ℕ). Front q (92 ∷ c ∷ rest) (two_size rest)) (sym (eqb-true b 120 p)) (two_found q rest there))
escape_by q b rest false true w p r s l =
    let there : 0 < unicode_size rest = rw (p, r) at l in
    rw (p, r) (subst (λ (c : ℕ). Front q (92 ∷ c ∷ rest) (unicode_size rest)) (sym (eqb-true b 117 r))
    (unicode_found q rest there))
escape_by q b rest false false true p r s l =
    rw (p, r, s) (subst (λ (c : ℕ). Front q (92 ∷ c ∷ rest) (return_size rest)) (sym (eqb-true b 13 s))
    (return_found q rest))
escape_by q b rest false false false p r s l = rw (p, r, s) (record {
  unit = 92 ∷ b ∷ [];
  after = rest;
  whole = refl;
  long = refl;
  is = single b (rw (p, r, s) refl) refl;
})

escape_found : (q : ℕ) (text : List ℕ) → 0 < escape_size text → Front q (92 ∷ text) (escape_size text)
unfolding escape_size
escape_found q [] l = absurd (omega arith)
escape_found q (b ∷ rest) l = escape_by q b rest (b == 120) (b == 117) (b == 13) refl refl refl l

unit_by : (q b : ℕ) (rest : List ℕ) (u v : Bool) → (b == 92) ≡ u → is_plain q b ≡ v → 0 < string_unit q (b ∷ rest)
    → Front q (b ∷ rest) (string_unit q (b ∷ rest))
unfolding string_unit
unit_by q b rest true v p r l =
    let there : 0 < escape_size rest = rw p at l in
    rw p (subst (λ (c : ℕ). Front q (c ∷ rest) (escape_size rest)) (sym (eqb-true b 92 p)) (escape_found q rest there))
unit_by q b rest false true p r l =
    rw (p, r) (record { unit = b ∷ []; after = rest; whole = refl; long = refl; is = plain b r refl })
unit_by q b rest false false p r l = no_size (string_unit q (b ∷ rest)) (rw (p, r) refl) l

pub unit_found : (q : ℕ) (text : List ℕ) → 0 < string_unit q text → Front q text (string_unit q text)
unfolding string_unit
unit_found q [] l = absurd (omega arith)
unit_found q (b ∷ rest) l = unit_by q b rest (b == 92) (is_plain q b) refl refl l
