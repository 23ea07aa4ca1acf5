-- Modules made by number have different specifiers.
use Rattle.std.proofs.Common.{◌≡◌, ◌∙◌, sym, ap, ℕ, ◌<◌, ◌^◌, List, ◌++◌, length, take, drop, decimal, arith, length-append}
use Rattle.std.specs.Prelude.{codes}
use Rattle.std.proofs.lemmas.Fmt.{decimal_injective, decimal_digit}
use lib.Seq.{take-append_seam}
use Rattle.made_laws.specs.Value.{specifier_text}

-- one end behind two texts
cancel_end : (a b c : List ℕ) → a ++ c ≡ b ++ c → a ≡ b
cancel_end a b c e =
    let whole : length (a ++ c) ≡ length (b ++ c) = ap length e in
    let same : length a ≡ length b = omega (arith, whole, length-append a c, length-append b c) in
    sym (take-append_seam a c) ∙ ap (take (length a)) e ∙ ap (λ (n : ℕ). take n (b ++ c)) same ∙ take-append_seam b c

pub specifier_injective : (i j : ℕ) → i < 2 ^ 64 → j < 2 ^ 64 → specifier_text i ≡ specifier_text j → i ≡ j
specifier_injective i j li lj e =
    decimal_injective i j li lj (cancel_end (decimal i) (decimal j) (codes ".ts") (ap (drop 10) e))

pub first_specifier : specifier_text 0 ≡ codes "file:///m/0.ts"
first_specifier = ap (λ (x : List ℕ). codes "file:///m/" ++ x ++ codes ".ts") (decimal_digit 0 (omega arith))
