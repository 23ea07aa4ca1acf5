-- The body of a regular expression is found, and nothing else is.
use Rattle.std.proofs.Common.{◌≡◌, ℕ, zero, suc, ◌+◌, ◌≤◌, ◌<◌, Bool, true, false, ◌&&◌, ◌||◌, ◌==◌, List, [], ◌∷◌, ◌++◌, length, take, drop, Option, Some, None, IfSome, if◌then◌else◌, refl, sym, ◌∙◌, ap, subst, arith, eqb-true, append_assoc, length-append, take_at, drop_at}
use Rattle.es_literal.specs.spelling.Units.{concat, AreUnits, units_end, units_rest}
use Rattle.es_literal.specs.spelling.Lines.{begins_separator, begins_line_end}
use Rattle.es_literal.specs.spelling.RegExps.{pair_size, class_unit, class_stop, class_size, body_unit, body_stop, body_end, IsBody}
use Rattle.es_literal.proofs.spelling_lemmas.UnitLemmas.{Within, Units, units, passes_units, stops, rest_units, rest_stops, ap2}

-- ---- what stands behind a byte that is no part of a line end changes nothing before it
separator_same : (w : List ℕ) (c : ℕ) (t r : List ℕ) → (c == 128) ≡ false
    → begins_separator (w ++ c ∷ t) ≡ begins_separator (w ++ c ∷ r)
unfolding begins_separator
separator_same [] c [] [] q = refl
separator_same [] c [] (d ∷ r) q = rw q refl
separator_same [] c (d ∷ t) [] q = rw q refl
separator_same [] c (d ∷ t) (e ∷ r) q = rw q refl
separator_same (b ∷ []) c t r q = refl
separator_same (b ∷ d ∷ w) c t r q = refl

pub line_same : (b : ℕ) (w : List ℕ) (c : ℕ) (t r : List ℕ) → (c == 128) ≡ false
    → begins_line_end (b ∷ (w ++ c ∷ t)) ≡ begins_line_end (b ∷ (w ++ c ∷ r))
unfolding begins_line_end
line_same b w c t r q = ap (λ v. b == 10 || (b == 13 || b == 226 && v)) (separator_same w c t r q)

-- ---- parts of units
-- a byte behind which nothing changes what a pair is
pair_same : (w : List ℕ) (c : ℕ) (t r : List ℕ) → (c == 128) ≡ false
    → begins_line_end (c ∷ t) ≡ begins_line_end (c ∷ r) → pair_size (w ++ c ∷ t) ≡ pair_size (w ++ c ∷ r)
unfolding pair_size
pair_same [] c t r q e = ap (λ (v : Bool). if v then 0 else 2) e
pair_same (b ∷ w) c t r q e = ap (λ (v : Bool). if v then 0 else 2) (line_same b w c t r q)

bracket_line : (t r : List ℕ) → begins_line_end (93 ∷ t) ≡ begins_line_end (93 ∷ r)
unfolding begins_line_end
bracket_line t r = refl

slash_line : (t r : List ℕ) → begins_line_end (47 ∷ t) ≡ begins_line_end (47 ∷ r)
unfolding begins_line_end
slash_line t r = refl

-- a size that is found in front of some text is found in front of another one that begins with the same byte
abbrev Local : (List ℕ → ℕ) → ℕ → Type 0
Local size c = (b : ℕ) (u w t r : List ℕ) → size (b ∷ (u ++ (w ++ c ∷ t))) ≡ length (b ∷ u)
    → size (b ∷ (u ++ (w ++ c ∷ r))) ≡ length (b ∷ u)

unit_same : (size : List ℕ → ℕ) (c : ℕ) → Local size c → (u w t r : List ℕ) → 0 < length u
    → size (u ++ (w ++ c ∷ t)) ≡ length u → size (u ++ (w ++ c ∷ r)) ≡ length u
unit_same size c local [] w t r l e = absurd (omega arith)
unit_same size c local (b ∷ u) w t r l e = local b u w t r e

units_same : (size : List ℕ → ℕ) (c : ℕ) → Local size c → (us : List (List ℕ)) (t r : List ℕ)
    → AreUnits size us (c ∷ t) → AreUnits size us (c ∷ r)
units_same size c local [] t r h = tt
units_same size c local (u ∷ us) t r h =
    (unit_same size c local u (concat us) t r h.1 h.0, h.1, units_same size c local us t r h.2)

joined : (u w : List ℕ) (c : ℕ) (t : List ℕ) → u ++ (w ++ c ∷ t) ≡ (u ++ w) ++ c ∷ t
joined u w c t = sym (append_assoc u w (c ∷ t))

line_joined : (b c : ℕ) (u w t r : List ℕ) → (c == 128) ≡ false
    → begins_line_end (b ∷ (u ++ (w ++ c ∷ t))) ≡ begins_line_end (b ∷ (u ++ (w ++ c ∷ r)))
line_joined b c u w t r q =
    ap (λ v. begins_line_end (b ∷ v)) (joined u w c t) ∙ (line_same b (u ++ w) c t r q
    ∙ ap (λ v. begins_line_end (b ∷ v)) (sym (joined u w c r)))

pair_joined : (c : ℕ) (u w t r : List ℕ) → (c == 128) ≡ false → begins_line_end (c ∷ t) ≡ begins_line_end (c ∷ r)
    → pair_size (u ++ (w ++ c ∷ t)) ≡ pair_size (u ++ (w ++ c ∷ r))
pair_joined c u w t r q e =
    ap pair_size (joined u w c t) ∙ (pair_same (u ++ w) c t r q e ∙ ap pair_size (sym (joined u w c r)))

-- ---- classes
class_local : Local class_unit 93
unfolding class_unit
class_local b u w t r e =
    ap2 (λ (v : Bool) (n : ℕ). if b == 93 || v then 0 else (if b == 92 then n else 1)) (line_joined b 93 u w r t refl)
    (pair_joined 93 u w r t refl (bracket_line r t)) ∙ e

bracket_stops : (after : List ℕ) → class_unit (93 ∷ after) ≡ 0
unfolding class_unit
bracket_stops after = refl

bracket_ends : (n : ℕ) (after : List ℕ) → class_stop n (93 ∷ after) ≡ n + 1
unfolding class_stop
bracket_ends n after = refl

class_found : (cs : List (List ℕ)) (after : List ℕ) → AreUnits class_unit cs (93 ∷ after)
    → class_size (concat cs ++ 93 ∷ after) ≡ length (concat cs) + 2
unfolding class_size
class_found cs after h =
    ap2 class_stop
    (passes_units class_unit 1 cs (93 ∷ after) h
    ∙ stops class_unit (1 + length (concat cs)) (93 ∷ after) (bracket_stops after))
    (rest_units class_unit cs (93 ∷ after) h ∙ rest_stops class_unit (93 ∷ after) (bracket_stops after))
    ∙ (bracket_ends (1 + length (concat cs)) after ∙ omega arith)

-- a class with its `]`
record Class (text : List ℕ) (size : ℕ) : Type 0 where
  units : List (List ℕ)
  after : List ℕ
  whole : text ≡ concat units ++ 93 ∷ after
  each : AreUnits class_unit units (93 ∷ after)
  long : size ≡ length (concat units) + 2

class_at : (n : ℕ) (us : List (List ℕ)) (b : ℕ) (rest : List ℕ) (v : Bool) → (b == 93) ≡ v
    → AreUnits class_unit us (b ∷ rest) → class_stop (1 + length (concat us)) (b ∷ rest) ≡ suc n
    → Class (concat us ++ b ∷ rest) (suc n)
unfolding class_stop
class_at n us b rest true p h e =
    let same : b ≡ 93 = eqb-true b 93 p in
    let size : 1 + length (concat us) + 1 ≡ suc n = rw p at e in
    record {
      units = us;
      after = rest;
      whole = ap (λ c. concat us ++ c ∷ rest) same;
      each = subst (λ (c : ℕ). AreUnits class_unit us (c ∷ rest)) same h;
      long = omega arith;
    }
class_at n us b rest false p h e = let bad : 0 ≡ suc n = rw p at e in absurd (omega arith)

class_back : (n : ℕ) (us : List (List ℕ)) (back : List ℕ) → AreUnits class_unit us back
    → class_stop (1 + length (concat us)) back ≡ suc n → Class (concat us ++ back) (suc n)
unfolding class_stop
class_back n us [] h e = absurd (omega arith)
class_back n us (b ∷ rest) h e = class_at n us b rest (b == 93) refl h e

class_within_by : (b : ℕ) (rest : List ℕ) (u v : Bool) → (b == 93 || begins_line_end (b ∷ rest)) ≡ u → (b == 92) ≡ v
    → pair_size rest ≤ length rest + 1 → class_unit (b ∷ rest) ≤ length (b ∷ rest)
unfolding class_unit
class_within_by b rest true v p q l = rw p (omega arith)
class_within_by b rest false true p q l = rw (p, q) (omega arith)
class_within_by b rest false false p q l = rw (p, q) (omega arith)

pair_within_by : (b : ℕ) (rest : List ℕ) (u : Bool) → begins_line_end (b ∷ rest) ≡ u
    → pair_size (b ∷ rest) ≤ length (b ∷ rest) + 1
unfolding pair_size
pair_within_by b rest true p = rw p (omega arith)
pair_within_by b rest false p = rw p (omega arith)

pair_within : (rest : List ℕ) → pair_size rest ≤ length rest + 1
unfolding pair_size
pair_within [] = omega arith
pair_within (b ∷ rest) = pair_within_by b rest (begins_line_end (b ∷ rest)) refl

class_within : Within class_unit
unfolding class_unit
class_within [] = omega arith
class_within (b ∷ rest) =
    class_within_by b rest (b == 93 || begins_line_end (b ∷ rest)) (b == 92) refl refl (pair_within rest)

class_by : (n : ℕ) (text : List ℕ) → Units class_unit 1 text → class_size text ≡ suc n → Class text (suc n)
unfolding class_size
class_by n text r e =
    let same : class_stop (1 + length (concat r.units)) r.back ≡ suc n = sym (ap2 class_stop r.end r.rest) ∙ e in
    subst (λ (t : List ℕ). Class t (suc n)) (sym r.whole) (class_back n r.units r.back r.each same)

class_is : (n : ℕ) (text : List ℕ) → class_size text ≡ suc n → Class text (suc n)
class_is n text e = class_by n text (units class_unit class_within 1 text) e

-- where the loop over a class ends
pub class_ends : (at : ℕ) (s text : List ℕ) → class_unit s ≡ 0
    → units_end class_unit at 0 s ≡ units_end class_unit 1 0 text
    → units_rest class_unit 0 s ≡ units_rest class_unit 0 text → class_stop at s ≡ class_size text
unfolding class_size
class_ends at s text e p q =
    ap2 class_stop (sym (stops class_unit at s e) ∙ p) (sym (rest_stops class_unit s e) ∙ q)

-- ---- bodies
same_front : (u v x y : List ℕ) → u ++ x ≡ v ++ y → length u ≡ length v → (u ≡ v) × (x ≡ y)
same_front u v x y e l = (
  sym (take_at u x (length u) refl) ∙ (ap (take (length u)) e ∙ take_at v y (length u) (sym l)),
  sym (drop_at u x (length u) refl) ∙ (ap (drop (length u)) e ∙ drop_at v y (length u) (sym l)),
)

-- a class ends before what stands behind it
class_same : (u x y : List ℕ) → Class (u ++ x) (suc (length u)) → class_size (u ++ y) ≡ suc (length u)
class_same u x y c =
    let long : suc (length u) ≡ length (concat c.units) + 2 = c.long in
    let cut : (u ≡ concat c.units ++ 93 ∷ []) × (x ≡ c.after) =
    same_front u (concat c.units ++ 93 ∷ []) x c.after (c.whole ∙ sym (append_assoc (concat c.units) (93 ∷ []) c.after))
    (omega (arith, length-append (concat c.units) (93 ∷ []))) in
    ap (λ v. class_size (v ++ y)) cut.0
    ∙ (ap class_size (append_assoc (concat c.units) (93 ∷ []) y)
    ∙ (class_found c.units y (units_same class_unit 93 class_local c.units c.after y c.each) ∙ sym long))

body_by : (b : ℕ) (u w t r : List ℕ) (x y z : Bool) → (b == 47 || begins_line_end (b ∷ (u ++ (w ++ 47 ∷ t)))) ≡ x
    → (b == 92) ≡ y → (b == 91) ≡ z → body_unit (b ∷ (u ++ (w ++ 47 ∷ t))) ≡ length (b ∷ u)
    → body_unit (b ∷ (u ++ (w ++ 47 ∷ r))) ≡ length (b ∷ u)
unfolding body_unit
body_by b u w t r true y z p q s e = let bad : 0 ≡ length (b ∷ u) = rw p at e in absurd (omega arith)
body_by b u w t r false true z p q s e =
    let here : pair_size (u ++ (w ++ 47 ∷ t)) ≡ length (b ∷ u) = rw (p, q) at e in
    rw (ap (λ v. b == 47 || v) (line_joined b 47 u w r t refl) ∙ p, q)
    (pair_joined 47 u w r t refl (slash_line r t) ∙ here)
body_by b u w t r false false true p q s e =
    let here : class_size (u ++ (w ++ 47 ∷ t)) ≡ suc (length u) = rw (p, q, s) at e in
    rw (ap (λ v. b == 47 || v) (line_joined b 47 u w r t refl) ∙ p, q, s)
    (class_same u (w ++ 47 ∷ t) (w ++ 47 ∷ r) (class_is (length u) (u ++ (w ++ 47 ∷ t)) here))
body_by b u w t r false false false p q s e =
    let here : 1 ≡ length (b ∷ u) = rw (p, q, s) at e in
    rw (ap (λ v. b == 47 || v) (line_joined b 47 u w r t refl) ∙ p, q, s) here

body_local : Local body_unit 47
body_local b u w t r e =
    body_by b u w t r (b == 47 || begins_line_end (b ∷ (u ++ (w ++ 47 ∷ t)))) (b == 92) (b == 91) refl refl refl e

class_inside : (text : List ℕ) (n : ℕ) → class_size text ≡ n → class_size text ≤ length text + 1
class_inside text zero e = omega arith
class_inside text (suc n) e =
    let c : Class text (suc n) = class_is n text e in
    let long : suc n ≡ length (concat c.units) + 2 = c.long in
    let whole : length text ≡ length (concat c.units ++ 93 ∷ c.after) = ap length c.whole in
    omega (arith, length-append (concat c.units) (93 ∷ c.after))

body_within_by : (b : ℕ) (rest : List ℕ) (x y z : Bool) → (b == 47 || begins_line_end (b ∷ rest)) ≡ x → (b == 92) ≡ y
    → (b == 91) ≡ z → pair_size rest ≤ length rest + 1 → class_size rest ≤ length rest + 1
    → body_unit (b ∷ rest) ≤ length (b ∷ rest)
unfolding body_unit
body_within_by b rest true y z p q s k l = rw p (omega arith)
body_within_by b rest false true z p q s k l = rw (p, q) (omega arith)
body_within_by b rest false false true p q s k l = rw (p, q, s) (omega arith)
body_within_by b rest false false false p q s k l = rw (p, q, s) (omega arith)

body_within : Within body_unit
unfolding body_unit
body_within [] = omega arith
body_within (b ∷ rest) =
    body_within_by b rest (b == 47 || begins_line_end (b ∷ rest)) (b == 92) (b == 91) refl refl refl (pair_within rest)
    (class_inside rest (class_size rest) refl)

-- where the loop over a body ends
pub body_ends : (at first : ℕ) (s text : List ℕ) → body_unit s ≡ 0
    → units_end body_unit at 0 s ≡ units_end body_unit first 0 text
    → units_rest body_unit 0 s ≡ units_rest body_unit 0 text → body_stop at s ≡ body_end first text
unfolding body_end
body_ends at first s text e p q =
    ap2 body_stop (sym (stops body_unit at s e) ∙ p) (sym (rest_stops body_unit s e) ∙ q)

-- an end within what is left is within the text
pub end_moves : (found : Option ℕ) (at first n m : ℕ) → IfSome found (λ end. (at ≤ end) × (end ≤ at + n)) → first ≤ at
    → at + n ≡ first + m → IfSome found (λ end. (first ≤ end) × (end ≤ first + m))
end_moves None at first n m h l e = tt
end_moves (Some end) at first n m h l e =
    let low : at ≤ end = h.0 in let high : end ≤ at + n = h.1 in (omega arith, omega arith)

-- ---- laws
slash_stops : (after : List ℕ) → body_unit (47 ∷ after) ≡ 0
unfolding body_unit
slash_stops after = refl

slash_ends : (at : ℕ) (after : List ℕ) → body_stop at (47 ∷ after) ≡ Some (at + 1)
unfolding body_stop
slash_ends at after = refl

units_found : (at : ℕ) (us : List (List ℕ)) (after : List ℕ) → AreUnits body_unit us (47 ∷ after)
    → body_end at (concat us ++ 47 ∷ after) ≡ Some (at + length (concat us) + 1)
unfolding body_end
units_found at us after h =
    ap2 body_stop
    (passes_units body_unit at us (47 ∷ after) h
    ∙ stops body_unit (at + length (concat us)) (47 ∷ after) (slash_stops after))
    (rest_units body_unit us (47 ∷ after) h ∙ rest_stops body_unit (47 ∷ after) (slash_stops after))
    ∙ slash_ends (at + length (concat us)) after

-- a body is found
pub body_found : (at : ℕ) (s after : List ℕ) → IsBody s → body_end at (s ++ after) ≡ Some (at + length s)
body_found at s after i =
    let size : at + length (concat i.units) + 1 ≡ at + length s =
    omega (arith, ap length i.whole, length-append (concat i.units) (47 ∷ [])) in
    ap (λ v. body_end at (v ++ after)) i.whole
    ∙ (ap (body_end at) (append_assoc (concat i.units) (47 ∷ []) after)
    ∙ (units_found at i.units after (units_same body_unit 47 body_local i.units [] after i.each) ∙ ap Some size))

-- and nothing else is
pub data BodyFound (at : ℕ) (text : List ℕ) (found : Option ℕ) : Type 0 where
  closes : (s after : List ℕ) → text ≡ s ++ after → IsBody s → found ≡ Some (at + length s) → BodyFound at text found
  none : ((s after : List ℕ) → text ≡ s ++ after → IsBody s → ⊥) → found ≡ None → BodyFound at text found

none_found : (at : ℕ) (text : List ℕ) → body_end at text ≡ None → (s after : List ℕ) → text ≡ s ++ after → IsBody s → ⊥
none_found at text e s after w i =
    let f : Some (at + length s) ≡ None = sym (body_found at s after i) ∙ (ap (body_end at) (sym w) ∙ e) in cc

stop_found : (at : ℕ) (us : List (List ℕ)) (b : ℕ) (rest : List ℕ) (v : Bool) → (b == 47) ≡ v
    → AreUnits body_unit us (b ∷ rest)
    → body_end at (concat us ++ b ∷ rest) ≡ body_stop (at + length (concat us)) (b ∷ rest)
    → BodyFound at (concat us ++ b ∷ rest) (body_stop (at + length (concat us)) (b ∷ rest))
unfolding body_stop
stop_found at us b rest true p h e =
    let same : b ≡ 47 = eqb-true b 47 p in
    let each : AreUnits body_unit us (47 ∷ []) =
    units_same body_unit 47 body_local us rest [] (subst (λ (c : ℕ). AreUnits body_unit us (c ∷ rest)) same h) in
    rw p (closes (concat us ++ 47 ∷ []) rest
    (ap (λ c. concat us ++ c ∷ rest) same ∙ sym (append_assoc (concat us) (47 ∷ []) rest))
    (record { units = us; each = each; whole = refl })
    (ap Some (let q : at + length (concat us) + 1 ≡ at + length (concat us ++ 47 ∷ []) =
    omega (arith, length-append (concat us) (47 ∷ [])) in q)))
stop_found at us b rest false p h e =
    rw p (none (none_found at (concat us ++ b ∷ rest) (rw p at e)) refl)

back_found : (at : ℕ) (us : List (List ℕ)) (back : List ℕ) → AreUnits body_unit us back
    → body_end at (concat us ++ back) ≡ body_stop (at + length (concat us)) back
    → BodyFound at (concat us ++ back) (body_stop (at + length (concat us)) back)
unfolding body_stop
back_found at us [] h e = none (none_found at (concat us ++ []) e) refl
back_found at us (b ∷ rest) h e = stop_found at us b rest (b == 47) refl h e

found_by : (at : ℕ) (text : List ℕ) → Units body_unit at text → BodyFound at text (body_end at text)
unfolding body_end
found_by at text r =
    let same : body_end at text ≡ body_stop (at + length (concat r.units)) r.back = ap2 body_stop r.end r.rest in
    subst (BodyFound at text) (sym same)
    (subst (λ (t : List ℕ). BodyFound at t (body_stop (at + length (concat r.units)) r.back)) (sym r.whole)
    (back_found at r.units r.back r.each (ap (body_end at) (sym r.whole) ∙ same)))

pub body_finds : (at : ℕ) (text : List ℕ) → BodyFound at text (body_end at text)
body_finds at text = found_by at text (units body_unit body_within at text)
