-- The units of characters, one after another, and the number of an escape in braces.
use Rattle.std.proofs.Common.{◌≡◌, ℕ, zero, suc, ◌+◌, ◌*◌, ◌≤◌, true, List, [], ◌∷◌, ◌++◌, length, take, drop, get_or, ◌-◌, refl, sym, ◌∙◌, ap, arith, append_assoc, Option}
use Rattle.std.proofs.lemmas.Bool.{le-ltb}
use Rattle.std.proofs.lemmas.List.{take_rest}
use Rattle.std.specs.List.{AllByRecursion}
use Rattle.es_literal.proofs.spelling_lemmas.UnitLemmas.{ap2}
use Rattle.es_literal.specs.Strings.{digit, is_hex, worth}
use Rattle.es_literal.specs.Values.{hex, bounded, braced_number, unit_of, code_units, units_of}
use Rattle.es_literal.proofs.UnitLemmas.{no_close, worth_more}

units_skip : (n : ℕ) (cs : List ℕ) → units_of n cs ≡ units_of 0 (drop n cs)
unfolding units_of
units_skip zero [] = refl
units_skip (suc n) [] = refl
units_skip zero (c ∷ cs) = refl
units_skip (suc n) (c ∷ cs) = units_skip n cs

-- one turn of a loop
pub units_turn : (c : ℕ) (after us vs ws all : List ℕ) (code : Option ℕ) (n : ℕ)
    → us ++ units_of 0 (c ∷ after) ≡ all → code ≡ (unit_of c after).0 → n ≡ (unit_of c after).1
    → vs ≡ us ++ code_units code → ws ≡ drop n after → vs ++ units_of 0 ws ≡ all
unfolding units_of
units_turn c after us vs ws all code n h p q v w =
    ap2 (λ s t. s ++ units_of 0 t) (v ∙ ap (λ o. us ++ code_units o) p) (w ∙ ap (λ m. drop m after) q)
    ∙ (append_assoc us (code_units (unit_of c after).0) (units_of 0 (drop (unit_of c after).1 after))
    ∙ (ap (λ t. us ++ (code_units (unit_of c after).0 ++ t)) (sym (units_skip (unit_of c after).1 after)) ∙ h))

-- the same with the character and those behind it cut from what is left
pub units_next : (c : ℕ) (rest us vs ws all : List ℕ) (code : Option ℕ) (n : ℕ) → 1 ≤ length rest → c ≡ get_or rest 0 c
    → us ++ units_of 0 rest ≡ all → code ≡ (unit_of c (take (length rest - 1) (drop 1 rest))).0
    → n ≡ (unit_of c (take (length rest - 1) (drop 1 rest))).1 → vs ≡ us ++ code_units code
    → ws ≡ drop n (take (length rest - 1) (drop 1 rest)) → vs ++ units_of 0 ws ≡ all
units_next c [] us vs ws all code n l e h p q v w = absurd (omega arith)
units_next c (d ∷ rest) us vs ws all code n l e h p q v w =
    let back : take (length (d ∷ rest) - 1) (drop 1 (d ∷ rest)) ≡ rest = take_rest (d ∷ rest) 1 in
    units_turn d rest us vs ws all code n h
    (p ∙ ap2 (λ x t. (unit_of x t).0) e back) (q ∙ ap2 (λ x t. (unit_of x t).1) e back) v (w ∙ ap (drop n) back)

-- the number of an escape in braces is what its digits are worth
braced_step : (size value d : ℕ) (rest : List ℕ) → is_hex d ≡ true → value * 16 + digit d ≤ 0x10FFFF
    → braced_number size value (d ∷ rest) ≡ braced_number (size + 1) (value * 16 + digit d) rest
unfolding braced_number hex bounded
braced_step size value d rest h l = rw (no_close d h, h, le-ltb 0x10FFFF (value * 16 + digit d) l) refl

pub braced_worth : (size value : ℕ) (digits after : List ℕ) → AllByRecursion (λ b. is_hex b ≡ true) digits
    → worth value digits ≤ 0x10FFFF
    → braced_number size value (digits ++ 125 ∷ after) ≡ (worth value digits, size + length digits + 1)
unfolding braced_number
braced_worth size value [] after h l = ap (λ n. (value, n)) (let e : size + 1 ≡ size + 0 + 1 = omega arith in e)
braced_worth size value (d ∷ digits) after h l =
    let next : ℕ = value * 16 + digit d in
    let more : next ≤ worth next digits = worth_more next digits in
    braced_step size value d (digits ++ 125 ∷ after) h.0 (omega arith)
    ∙ (braced_worth (size + 1) next digits after h.1 l
    ∙ ap (λ n. (worth next digits, n))
    (let e : size + 1 + length digits + 1 ≡ size + length (d ∷ digits) + 1 = omega arith in e))
