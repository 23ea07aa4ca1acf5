-- The end of a template's text is found.
use Rattle.std.proofs.Common.{◌≡◌, ℕ, ◌+◌, ◌≤◌, ◌<◌, Bool, true, false, ◌&&◌, ◌==◌, List, [], ◌∷◌, ◌++◌, length, refl, sym, ◌∙◌, ap, subst, arith, eqb-true, append_assoc, length-append, true≢false, ◌⊎◌, inl, inr}
use Rattle.es_literal.specs.declared.spelling.template.TemplateEnd.{TemplateEnd}
use Rattle.es_literal.specs.declared.spelling.template.TemplateEnd.TheVariants.{Closes, Substitutes, Unclosed}
use Rattle.es_literal.specs.spelling.Units.{concat, AreUnits, units_end, units_rest}
use Rattle.es_literal.specs.spelling.Templates.{begins_brace, pair_size, template_unit, template_stop, template_end, IsTemplateText, IsUnclosed}
use Rattle.es_literal.proofs.spelling_lemmas.UnitLemmas.{Within, Units, units, passes_units, stops, rest_units, rest_stops, ap2}

and_left : (u v : Bool) → (u && v) ≡ true → u ≡ true
and_left true v e = refl
and_left false v e = cc

and_right : (u v : Bool) → (u && v) ≡ true → v ≡ true
and_right true v e = e
and_right false v e = cc

and_false : (u : Bool) → (u && false) ≡ false
and_false true = refl
and_false false = refl

-- ---- units
unit_within_by : (b : ℕ) (rest : List ℕ) (u v w : Bool) → (b == 96) ≡ u → (b == 92) ≡ v
    → (b == 36 && begins_brace rest) ≡ w → template_unit (b ∷ rest) ≤ length (b ∷ rest)
unfolding template_unit pair_size
unit_within_by b rest true v w p q r = rw p (omega arith)
unit_within_by b [] false true w p q r = rw (p, q) (omega arith)
unit_within_by b (c ∷ rest) false true w p q r = rw (p, q) (omega arith)
unit_within_by b rest false false true p q r = rw (p, q, r) (omega arith)
unit_within_by b rest false false false p q r = rw (p, q, r) (omega arith)

pub unit_within : Within template_unit
unfolding template_unit
unit_within [] = omega arith
unit_within (b ∷ rest) = unit_within_by b rest (b == 96) (b == 92) (b == 36 && begins_brace rest) refl refl refl

-- ---- a text that ends is found
end_by : (at : ℕ) (us : List (List ℕ)) (after : List ℕ) → AreUnits template_unit us after → template_unit after ≡ 0
    → template_end at (concat us ++ after) ≡ template_stop (at + length (concat us)) after
unfolding template_end
end_by at us after h e =
    ap2 template_stop (passes_units template_unit at us after h ∙ stops template_unit (at + length (concat us)) after e)
    (rest_units template_unit us after h ∙ rest_stops template_unit after e)

tick_stops : (after : List ℕ) → template_unit (96 ∷ after) ≡ 0
unfolding template_unit
tick_stops after = refl

brace_stops : (after : List ℕ) → template_unit (36 ∷ 123 ∷ after) ≡ 0
unfolding template_unit begins_brace
brace_stops after = refl

-- what stands behind a unit, past its first byte, changes nothing
pub unit_same : (u : List ℕ) (c : ℕ) (t r : List ℕ) → 0 < length u → template_unit (u ++ c ∷ t) ≡ length u
    → template_unit (u ++ c ∷ r) ≡ length u
unfolding template_unit pair_size begins_brace
unit_same [] c t r l e = absurd (omega arith)
unit_same (b ∷ []) c t r l e = e
unit_same (b ∷ d ∷ u) c t r l e = e

same_by : (u w : List ℕ) (c : ℕ) (t r : List ℕ) → 0 < length u → template_unit (u ++ (w ++ c ∷ t)) ≡ length u
    → template_unit (u ++ (w ++ c ∷ r)) ≡ length u
same_by u [] c t r l e = unit_same u c t r l e
same_by u (d ∷ w) c t r l e = unit_same u d (w ++ c ∷ t) (w ++ c ∷ r) l e

same_units : (us : List (List ℕ)) (c : ℕ) (t r : List ℕ) → AreUnits template_unit us (c ∷ t)
    → AreUnits template_unit us (c ∷ r)
same_units [] c t r h = tt
same_units (u ∷ us) c t r h = (same_by u (concat us) c t r h.1 h.0, h.1, same_units us c t r h.2)

-- ---- laws
pub closes_found : (at : ℕ) (s after : List ℕ) → IsTemplateText (96 ∷ []) s
    → template_end at (s ++ after) ≡ Closes (at + length s)
unfolding template_stop
closes_found at s after t =
    let each : AreUnits template_unit t.units (96 ∷ after) = same_units t.units 96 [] after t.each in
    let size : at + length (concat t.units) + 1 ≡ at + length s =
    omega (arith, ap length t.whole, length-append (concat t.units) (96 ∷ [])) in
    ap (λ v. template_end at (v ++ after)) t.whole
    ∙ (ap (template_end at) (append_assoc (concat t.units) (96 ∷ []) after)
    ∙ (end_by at t.units (96 ∷ after) each (tick_stops after) ∙ ap Closes size))

pub substitutes_found : (at : ℕ) (s after : List ℕ) → IsTemplateText (36 ∷ 123 ∷ []) s
    → template_end at (s ++ after) ≡ Substitutes (at + length s)
unfolding template_stop begins_brace
substitutes_found at s after t =
    let each : AreUnits template_unit t.units (36 ∷ 123 ∷ after) =
    same_units t.units 36 (123 ∷ []) (123 ∷ after) t.each in
    let size : at + length (concat t.units) + 2 ≡ at + length s =
    omega (arith, ap length t.whole, length-append (concat t.units) (36 ∷ 123 ∷ [])) in
    ap (λ v. template_end at (v ++ after)) t.whole
    ∙ (ap (template_end at) (append_assoc (concat t.units) (36 ∷ 123 ∷ []) after)
    ∙ (end_by at t.units (36 ∷ 123 ∷ after) each (brace_stops after) ∙ ap Substitutes size))

-- where a loop ends
pub end_from : (at first : ℕ) (s bytes : List ℕ) → template_unit s ≡ 0
    → units_end template_unit at 0 s ≡ units_end template_unit first 0 bytes
    → units_rest template_unit 0 s ≡ units_rest template_unit 0 bytes → template_stop at s ≡ template_end first bytes
unfolding template_end
end_from at first s bytes e p q =
    ap2 template_stop (sym (stops template_unit at s e) ∙ p) (sym (rest_stops template_unit s e) ∙ q)

-- ---- and nothing else is found
pub data TextFound (at : ℕ) (text : List ℕ) (found : TemplateEnd) : Type 0 where
  closes : (s after : List ℕ) → text ≡ s ++ after → IsTemplateText (96 ∷ []) s → found ≡ Closes (at + length s)
      → TextFound at text found
  substitutes : (s after : List ℕ) → text ≡ s ++ after → IsTemplateText (36 ∷ 123 ∷ []) s
      → found ≡ Substitutes (at + length s) → TextFound at text found
  unclosed : IsUnclosed text → found ≡ Unclosed → TextFound at text found

close_found : (at : ℕ) (us : List (List ℕ)) (b : ℕ) (rest : List ℕ) → AreUnits template_unit us (b ∷ rest) → b ≡ 96
    → TextFound at (concat us ++ b ∷ rest) (Closes (at + length (concat us) + 1))
close_found at us b rest h e =
    let each : AreUnits template_unit us (96 ∷ []) =
    same_units us 96 rest [] (subst (λ (c : ℕ). AreUnits template_unit us (c ∷ rest)) e h) in
    closes (concat us ++ 96 ∷ []) rest
    (ap (λ c. concat us ++ c ∷ rest) e ∙ sym (append_assoc (concat us) (96 ∷ []) rest))
    (record { units = us; each = each; whole = refl })
    (ap Closes (let q : at + length (concat us) + 1 ≡ at + length (concat us ++ 96 ∷ []) =
    omega (arith, length-append (concat us) (96 ∷ [])) in q))

brace_is : (b : ℕ) (rest : List ℕ) → (b == 36 && begins_brace rest) ≡ true
    → (b ≡ 36) × ((after : List ℕ) × (rest ≡ 123 ∷ after))
unfolding begins_brace
brace_is b [] e = absurd (true≢false (sym e ∙ and_false (b == 36)))
brace_is b (c ∷ after) e = (
  eqb-true b 36 (and_left (b == 36) (c == 123) e),
  (after, ap (λ d. d ∷ after) (eqb-true c 123 (and_right (b == 36) (c == 123) e))),
)

substitute_found : (at : ℕ) (us : List (List ℕ)) (b : ℕ) (rest after : List ℕ)
    → AreUnits template_unit us (b ∷ rest) → b ≡ 36 → rest ≡ 123 ∷ after
    → TextFound at (concat us ++ b ∷ rest) (Substitutes (at + length (concat us) + 2))
substitute_found at us b rest after h e f =
    let there : AreUnits template_unit us (36 ∷ 123 ∷ after) =
    subst (λ (c : ℕ). AreUnits template_unit us (c ∷ 123 ∷ after)) e
    (subst (λ (t : List ℕ). AreUnits template_unit us (b ∷ t)) f h) in
    let each : AreUnits template_unit us (36 ∷ 123 ∷ []) = same_units us 36 (123 ∷ after) (123 ∷ []) there in
    substitutes (concat us ++ 36 ∷ 123 ∷ []) after
    (ap (λ c. concat us ++ c ∷ rest) e ∙ (ap (λ t. concat us ++ 36 ∷ t) f
    ∙ sym (append_assoc (concat us) (36 ∷ 123 ∷ []) after)))
    (record { units = us; each = each; whole = refl })
    (ap Substitutes (let q : at + length (concat us) + 2 ≡ at + length (concat us ++ 36 ∷ 123 ∷ []) =
    omega (arith, length-append (concat us) (36 ∷ 123 ∷ [])) in q))

pair_none : (rest : List ℕ) → pair_size rest ≡ 0 → rest ≡ []
unfolding pair_size
pair_none [] e = refl
pair_none (c ∷ rest) e = absurd (omega arith)

apart : (b m n : ℕ) → (b == m) ≡ true → (m == n) ≡ false → (b == n) ≡ false
apart b m n e f = rw (eqb-true b m e) f

one_unit : (b : ℕ) (rest : List ℕ) → (b == 96) ≡ false → (b == 92) ≡ false → (b == 36 && begins_brace rest) ≡ false
    → template_unit (b ∷ rest) ≡ 1
unfolding template_unit
one_unit b rest p q r = rw (p, q, r) refl

stop_found : (at : ℕ) (us : List (List ℕ)) (b : ℕ) (rest : List ℕ) (u v w : Bool) → (b == 96) ≡ u → (b == 92) ≡ v
    → (b == 36 && begins_brace rest) ≡ w → AreUnits template_unit us (b ∷ rest) → template_unit (b ∷ rest) ≡ 0
    → TextFound at (concat us ++ b ∷ rest) (template_stop (at + length (concat us)) (b ∷ rest))
unfolding template_stop template_unit
stop_found at us b rest true v w p q r h e = rw p (close_found at us b rest h (eqb-true b 96 p))
stop_found at us b rest false true w p q r h e =
    let none : rest ≡ [] = pair_none rest (rw (p, q) at e) in
    let byte : b ≡ 92 = eqb-true b 92 q in
    rw (p, apart b 92 36 q refl) (unclosed (record {
      units = us;
      back = b ∷ rest;
      each = h;
      whole = refl;
      ends = inr (ap2 (λ c t. c ∷ t) byte none);
    }) refl)
stop_found at us b rest false false true p q r h e =
    let s : (b ≡ 36) × ((after : List ℕ) × (rest ≡ 123 ∷ after)) = brace_is b rest r in
    rw (p, r) (substitute_found at us b rest s.1.0 h s.0 s.1.1)
stop_found at us b rest false false false p q r h e =
    let one : template_unit (b ∷ rest) ≡ 1 = one_unit b rest p q r in
    absurd (omega arith)

rest_found : (at : ℕ) (us : List (List ℕ)) (back : List ℕ) → AreUnits template_unit us back
    → template_unit back ≡ 0 → TextFound at (concat us ++ back) (template_stop (at + length (concat us)) back)
unfolding template_stop
rest_found at us [] h e =
    unclosed (record { units = us; back = []; each = h; whole = refl; ends = inl refl }) refl
rest_found at us (b ∷ rest) h e =
    stop_found at us b rest (b == 96) (b == 92) (b == 36 && begins_brace rest) refl refl refl h e

found_by : (at : ℕ) (text : List ℕ) → Units template_unit at text → TextFound at text (template_end at text)
unfolding template_end
found_by at text r =
    let same : template_stop (units_end template_unit at 0 text) (units_rest template_unit 0 text)
    ≡ template_stop (at + length (concat r.units)) r.back = ap2 template_stop r.end r.rest in
    subst (TextFound at text) (sym same)
    (subst (λ (t : List ℕ). TextFound at t (template_stop (at + length (concat r.units)) r.back)) (sym r.whole)
    (rest_found at r.units r.back r.each r.ends))

pub text_finds : (at : ℕ) (text : List ℕ) → TextFound at text (template_end at text)
text_finds at text = found_by at text (units template_unit unit_within at text)

-- a text that doesn't end is found so
back_stops : (back : List ℕ) → back ≡ [] ⊎ back ≡ 92 ∷ [] → template_unit back ≡ 0
unfolding template_unit pair_size
back_stops back (inl e) = rw e refl
back_stops back (inr e) = rw e refl

back_unclosed : (at : ℕ) (back : List ℕ) → back ≡ [] ⊎ back ≡ 92 ∷ [] → template_stop at back ≡ Unclosed
unfolding template_stop
back_unclosed at back (inl e) = rw e refl
back_unclosed at back (inr e) = rw e refl

pub unclosed_found : (at : ℕ) (text : List ℕ) → IsUnclosed text → template_end at text ≡ Unclosed
unclosed_found at text u =
    ap (template_end at) u.whole
    ∙ (end_by at u.units u.back u.each (back_stops u.back u.ends)
    ∙ back_unclosed (at + length (concat u.units)) u.back u.ends)
