-- The digits of a number.
use Rattle.std.proofs.Common.{◌≡◌, ◌∙◌, refl, ap, ℕ, zero, suc, ◌+◌, ◌<◌, ◌%◌, ◌^◌, List, [], ◌∷◌, ◌++◌, decimal, arith}
use Rattle.std.specs.Prelude.{flat_map}
use Rattle.std.proofs.lemmas.List.Concat.{flat_map-append}
use Rattle.std.proofs.lemmas.Fmt.{decimal_by_steps}
use Rattle.json.specs.Print.{escape_byte, escape}

-- what holds of each digit
pub each_digit : (Q : ℕ → Type 0) → Q 48 → Q 49 → Q 50 → Q 51 → Q 52 → Q 53 → Q 54 → Q 55 → Q 56 → Q 57
    → (m : ℕ) → m < 10 → Q (48 + m)
each_digit Q a b c d e f g h i j zero l = a
each_digit Q a b c d e f g h i j (suc zero) l = b
each_digit Q a b c d e f g h i j (suc (suc zero)) l = c
each_digit Q a b c d e f g h i j (suc (suc (suc zero))) l = d
each_digit Q a b c d e f g h i j (suc (suc (suc (suc zero)))) l = e
each_digit Q a b c d e f g h i j (suc (suc (suc (suc (suc zero))))) l = f
each_digit Q a b c d e f g h i j (suc (suc (suc (suc (suc (suc zero)))))) l = g
each_digit Q a b c d e f g h i j (suc (suc (suc (suc (suc (suc (suc zero))))))) l = h
each_digit Q a b c d e f g h i j (suc (suc (suc (suc (suc (suc (suc (suc zero)))))))) l = i
each_digit Q a b c d e f g h i j (suc (suc (suc (suc (suc (suc (suc (suc (suc zero))))))))) l = j
each_digit Q a b c d e f g h i j (suc (suc (suc (suc (suc (suc (suc (suc (suc (suc m)))))))))) l =
    absurd (let bad : ⊥ = omega (arith, l) in bad)

escape_digit : (m : ℕ) → m < 10 → escape_byte (48 + m) ≡ (48 + m) ∷ []
unfolding escape_byte
escape_digit m l = each_digit (λ x. escape_byte x ≡ x ∷ []) refl refl refl refl refl refl refl refl refl refl m l

pub escape_decimal : (n : ℕ) → n < 2 ^ 64 → escape (decimal n) ≡ decimal n
escape_decimal =
    decimal_by_steps (λ n ds. escape ds ≡ ds)
    (λ m l. ap (λ (x : List ℕ). x ++ []) (escape_digit m l))
    (λ m ds l h. flat_map-append escape_byte ds ((48 + m % 10) ∷ [])
    ∙ ap (λ (x : List ℕ). x ++ flat_map escape_byte ((48 + m % 10) ∷ [])) h
    ∙ ap (λ (x : List ℕ). ds ++ (x ++ [])) (escape_digit (m % 10) (omega arith)))
