-- The tables of bytes say what the classes do, byte by byte.
use Rattle.std.proofs.Common.{◌≡◌, ℕ, zero, suc, ◌<◌, Bool, true, false, not, ◌&&◌, ◌==◌, get_or, refl, sym, ⊎_elim, arith}
use Rattle.std.proofs.lemmas.Bool.{and_parts, cases_eq}
use Rattle.es_lexer.specs.declared.bytes.TheConstants.{PARTS, LETTERS}
use Rattle.es_lexer.specs.Bytes.{is_part, is_letter, first_of}

abbrev all_below : (ℕ → Bool) → ℕ → Bool
all_below test zero = true
all_below test (suc n) = test n && all_below test n

checked : (test : ℕ → Bool) (n : ℕ) → all_below test n ≡ true → (k : ℕ) → k < n → test k ≡ true
checked test zero all k below = absurd (omega arith)
checked test (suc n) all k below =
    ⊎_elim (λ last. rw last (and_parts _ _ all).0) (λ other. checked test n (and_parts _ _ all).1 k (omega arith))
    (cases_eq k n)

-- two tests answer the same
abbrev same : Bool → Bool → Bool
same true b = b
same false b = not b

same_is : (a b : Bool) → same a b ≡ true → a ≡ b
same_is true b is = sym is
same_is false true is = is
same_is false false is = refl

pub part_told : (b : ℕ) → b < 256 → (get_or PARTS b 0 == 1) ≡ is_part b
part_told b small = same_is _ _ (checked (λ x. same (get_or PARTS x 0 == 1) (is_part x)) 256 refl b small)

pub letter_told : (b : ℕ) → b < 256 → (get_or LETTERS b 0 == 1) ≡ is_letter (first_of b)
unfolding is_letter first_of
letter_told b small =
    same_is _ _ (checked (λ x. same (get_or LETTERS x 0 == 1) (is_letter (first_of x))) 256 refl b small)
