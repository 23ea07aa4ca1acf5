-- Two words.
use Rattle.std.proofs.Common.{◌≡◌, sym, ap₂, ℕ, List, [], ◌∷◌, map, length, get_or, arith}
use Rattle.std.specs.Prelude.{String, string_bytes}

pub two_words : {A : Type 0} (ws : List (String A)) (a b : String A) → length ws ≡ 2 → a ≡ get_or ws 0 a
    → b ≡ get_or ws 1 b → map string_bytes ws ≡ string_bytes a ∷ string_bytes b ∷ []
two_words [] a b two first second = absurd (omega (arith, two))
two_words (x ∷ []) a b two first second = absurd (omega (arith, two))
two_words (x ∷ y ∷ []) a b two first second =
    ap₂ (λ s t. string_bytes s ∷ string_bytes t ∷ []) (sym first) (sym second)
two_words (x ∷ y ∷ z ∷ ws) a b two first second = absurd (omega (arith, two))
