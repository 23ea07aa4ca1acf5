-- Which bytes are a part of a name by themselves, and which begin none.
use Rattle.std.proofs.Common.{◌≡◌, ℕ, zero, suc, ◌≤◌, ◌<◌, Bool, true, false, ◌==◌, List, [], ◌∷◌, length, get_or, refl, sym, ◌∙◌, ap, subst, arith, eqb-true, true≢false}
use Rattle.es_unicode.specs.Wide.{wide_size}
use Rattle.es_unicode.proofs.WideLemmas.{wide_begins}
use Rattle.es_lexer.specs.Bytes.{is_part, part_unit, word_unit}

narrow_by : (b : ℕ) (rest : List ℕ) (n : ℕ) → wide_size (b ∷ rest) ≡ n → b < 128 → wide_size (b ∷ rest) ≡ 0
narrow_by b rest zero e l = e
narrow_by b rest (suc n) e l =
    let high : 194 ≤ b = wide_begins b rest (subst (λ m. 0 < m) (sym e) (omega arith)) in absurd (omega arith)

-- no character past ASCII begins with a byte of ASCII
narrow : (b : ℕ) (rest : List ℕ) → b < 128 → wide_size (b ∷ rest) ≡ 0
narrow b rest l = narrow_by b rest (wide_size (b ∷ rest)) refl l

unlike_by : (b n : ℕ) (v : Bool) → (b == n) ≡ v → (b ≡ n → ⊥) → (b == n) ≡ false
unlike_by b n true e f = absurd (f (eqb-true b n e))
unlike_by b n false e f = e

unlike : (b n : ℕ) → (b ≡ n → ⊥) → (b == n) ≡ false
unlike b n f = unlike_by b n (b == n) refl f

-- a part of a name is no `\`
part_plain : (b : ℕ) → is_part b ≡ true → (b == 92) ≡ false
part_plain b e = unlike b 92 (λ same. true≢false (sym e ∙ ap is_part same))

-- a part of one byte
pub unit_of_part : (text : List ℕ) (v : Bool) → 1 ≤ length text → v ≡ is_part (get_or text 0 0) → v ≡ true
    → 1 ≡ word_unit text
unfolding word_unit part_unit
unit_of_part [] v l e p = absurd (omega arith)
unit_of_part (b ∷ rest) v l e p = rw (part_plain b (sym e ∙ p)) (rw (sym e ∙ p) refl)

-- another byte of ASCII
pub no_part : (text : List ℕ) (v : Bool) → 1 ≤ length text → v ≡ is_part (get_or text 0 0) → v ≡ false
    → get_or text 0 0 < 128 → 0 ≡ part_unit text
unfolding part_unit
no_part [] v l e p h = absurd (omega arith)
no_part (b ∷ rest) v l e p h = rw (sym e ∙ p) (sym (narrow b rest h))

pub no_unit : (text : List ℕ) (v : Bool) → 1 ≤ length text → v ≡ is_part (get_or text 0 0) → v ≡ false
    → (get_or text 0 0 ≡ 92 → ⊥) → get_or text 0 0 < 128 → 0 ≡ word_unit text
unfolding word_unit part_unit
no_unit [] v l e p n h = absurd (omega arith)
no_unit (b ∷ rest) v l e p n h = rw (unlike b 92 n) (rw (sym e ∙ p) (sym (narrow b rest h)))

-- a byte past ASCII
pub wide_unit : (text : List ℕ) (v : Bool) (size : ℕ) → 1 ≤ length text → v ≡ is_part (get_or text 0 0) → v ≡ false
    → (get_or text 0 0 ≡ 92 → ⊥) → size ≡ wide_size text → size ≡ word_unit text
unfolding word_unit part_unit
wide_unit [] v size l e p n w = absurd (omega arith)
wide_unit (b ∷ rest) v size l e p n w = w ∙ rw (unlike b 92 n) (rw (sym e ∙ p) refl)
