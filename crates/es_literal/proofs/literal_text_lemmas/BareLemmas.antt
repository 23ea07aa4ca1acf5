-- A literal of bare bytes stands for what is between its quotes.
use Rattle.std.proofs.Common.{◌≡◌, ℕ, suc, ◌-◌, ◌<◌, Bool, true, false, ◌&&◌, ◌==◌, nat_lt, List, [], ◌∷◌, ◌++◌, length, refl, sym, ◌∙◌, ap, subst, arith, eqb-true, length-append, take_at, flat_map, encode_utf8, encode_utf8_all, chars, IsUtf8, Bor, Some, None, MatchOption, ◌≢◌}
use Rattle.std.specs.Prelude.{Option, IfSome}
use Rattle.std.specs.Char.Utf16.{utf16_lossy_chars}
use Rattle.std.proofs.lemmas.Str.{encode_ascii, encodes-append, chars-encodes, encodes-chars, scalars-chars}
use lib.Utf8.{scalar, scalars, low_scalar}
use Rattle.es_literal.specs.Strings.{is_plain}
use Rattle.es_literal.specs.Quotes.{escaped, quoted}
use Rattle.es_literal.specs.Values.{units_of, inner, value_units, value_of}
use Rattle.es_literal.proofs.QuoteLemmas.{text_value}
use Rattle.es_literal.specs.literal_text.Bare.{AreBare}

-- ---- bare bytes are those of characters without an escape
front_bare : (c k : ℕ) (rest : List ℕ) → c ≡ k → k < 128 → AreBare (encode_utf8 c ++ rest) → is_plain 34 k ≡ true
front_bare c k rest e l h =
    let same : encode_utf8 c ≡ k ∷ [] = ap encode_utf8 e ∙ encode_ascii k l in
    let bare : AreBare (k ∷ rest) = subst (λ (s : List ℕ). AreBare (s ++ rest)) same h in
    bare.0

rest_bare : (s rest : List ℕ) → AreBare (s ++ rest) → AreBare rest
rest_bare [] rest h = h
rest_bare (b ∷ s) rest h = rest_bare s rest h.1

escaped_by : (c : ℕ) (rest : List ℕ) (u v w x : Bool) → (c == 34) ≡ u → (c == 92) ≡ v → (c == 10) ≡ w → (c == 13) ≡ x
    → AreBare (encode_utf8 c ++ rest) → escaped c ≡ c ∷ []
unfolding escaped is_plain
escaped_by c rest true v w x p q r s h =
    let no : false ≡ true = front_bare c 34 rest (eqb-true c 34 p) (omega arith) h in cc
escaped_by c rest false true w x p q r s h =
    let no : false ≡ true = front_bare c 92 rest (eqb-true c 92 q) (omega arith) h in cc
escaped_by c rest false false true x p q r s h =
    let no : false ≡ true = front_bare c 10 rest (eqb-true c 10 r) (omega arith) h in cc
escaped_by c rest false false false true p q r s h =
    let no : false ≡ true = front_bare c 13 rest (eqb-true c 13 s) (omega arith) h in cc
escaped_by c rest false false false false p q r s h = rw (p, q, r, s) refl

none_escaped : (cs : List ℕ) → AreBare (encode_utf8_all cs) → flat_map escaped cs ≡ cs
none_escaped [] h = refl
none_escaped (c ∷ cs) h =
    ap (λ t. t ++ flat_map escaped cs)
    (escaped_by c (encode_utf8_all cs) (c == 34) (c == 92) (c == 10) (c == 13) refl refl refl refl h)
    ∙ ap (λ t. c ∷ t) (none_escaped cs (rest_bare (encode_utf8 c) (encode_utf8_all cs) h))

-- ---- the quotes play no part
abbrev Wrapped : ℕ → List ℕ → List ℕ
Wrapped q cs = q ∷ (cs ++ q ∷ [])

wrapped_bytes : (q : ℕ) (cs : List ℕ) → q < 128
    → encode_utf8_all (Wrapped q cs) ≡ q ∷ (encode_utf8_all cs ++ q ∷ [])
wrapped_bytes q cs l =
    let one : encode_utf8 q ≡ q ∷ [] = encode_ascii q l in
    ap (λ t. t ++ encode_utf8_all (cs ++ q ∷ [])) one
    ∙ ap (λ t. q ∷ t) (encodes-append cs (q ∷ []) ∙ ap (λ t. encode_utf8_all cs ++ (t ++ [])) one)

both_true : (u v : Bool) → u ≡ true → v ≡ true → (u && v) ≡ true
both_true u v e h = rw e h

left_true : (u v : Bool) → (u && v) ≡ true → u ≡ true
left_true true v e = refl
left_true false v e = cc

right_true : (u v : Bool) → (u && v) ≡ true → v ≡ true
right_true true v e = e
right_true false v e = cc

behind_scalars : (cs rest : List ℕ) → scalars cs ≡ true → scalars rest ≡ true → scalars (cs ++ rest) ≡ true
behind_scalars [] rest e h = h
behind_scalars (c ∷ cs) rest e h =
    both_true (scalar c) (scalars (cs ++ rest)) (left_true (scalar c) (scalars cs) e)
    (behind_scalars cs rest (right_true (scalar c) (scalars cs) e) h)

wrapped_inner : (q : ℕ) (cs : List ℕ) → inner (Wrapped q cs) ≡ cs
unfolding inner
wrapped_inner q cs =
    take_at cs (q ∷ []) (length (q ∷ (cs ++ q ∷ [])) - 2) (omega (arith, length-append cs (q ∷ [])))

wrapped_units : (q : ℕ) (cs : List ℕ) → scalar q ≡ true → scalars cs ≡ true
    → value_units (encode_utf8_all (Wrapped q cs)) ≡ units_of 0 cs
unfolding value_units
wrapped_units q cs h e =
    let each : scalars (Wrapped q cs) ≡ true =
    both_true (scalar q) (scalars (cs ++ q ∷ [])) h
    (behind_scalars cs (q ∷ []) e (both_true (scalar q) true h refl)) in
    ap (λ t. units_of 0 (inner t)) (chars-encodes (Wrapped q cs) each) ∙ ap (units_of 0) (wrapped_inner q cs)

same_value : (q : ℕ) (cs : List ℕ) → scalar q ≡ true → scalars cs ≡ true
    → value_of (encode_utf8_all (Wrapped q cs)) ≡ value_of (encode_utf8_all (Wrapped 34 cs))
unfolding value_of
same_value q cs h e =
    ap (λ t. encode_utf8_all (utf16_lossy_chars t)) (wrapped_units q cs h e ∙ sym (wrapped_units 34 cs refl e))

bare_chars : (cs : List ℕ) → AreBare (encode_utf8_all cs) → quoted cs ≡ Wrapped 34 cs
unfolding quoted
bare_chars cs h = ap (λ t. 34 ∷ (t ++ 34 ∷ [])) (none_escaped cs h)

-- ---- what a literal of bare bytes stands for
pub bare_value : (q : ℕ) (text literal : List ℕ) → q < 128 → IsUtf8 text → AreBare text
    → literal ≡ q ∷ (text ++ q ∷ []) → text ≡ value_of literal
bare_value q text literal l u h e =
    let cs : List ℕ = chars text in
    let back : encode_utf8_all cs ≡ text = encodes-chars text u in
    let each : scalars cs ≡ true = scalars-chars text u in
    let bare : AreBare (encode_utf8_all cs) = subst (λ (s : List ℕ). AreBare s) (sym back) h in
    let whole : literal ≡ encode_utf8_all (Wrapped q cs) =
    e ∙ sym (wrapped_bytes q cs l ∙ ap (λ t. q ∷ (t ++ q ∷ [])) back) in
    sym (ap value_of whole
    ∙ (same_value q cs (low_scalar q (omega arith)) each
    ∙ (ap (λ t. value_of (encode_utf8_all t)) (sym (bare_chars cs bare)) ∙ text_value text u)))

-- a text less the quotes at both ends
pub between_quotes : (q : ℕ) (literal rest : List ℕ) (r : Option (Bor (List ℕ))) → literal ≡ q ∷ rest
    → MatchOption r ((front : List ℕ) → rest ≢ front ++ q ∷ []) (λ x. rest ≡ x.now ++ q ∷ [])
    → IfSome r (λ text. literal ≡ q ∷ (text.now ++ q ∷ []))
between_quotes q literal rest None e h = tt
between_quotes q literal rest (Some x) e h = e ∙ ap (λ t. q ∷ t) h
