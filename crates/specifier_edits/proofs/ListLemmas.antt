-- Elements behind a place of a list, and of a list behind another.
use Rattle.std.proofs.Common.{◌≡◌, ℕ, zero, suc, ◌+◌, List, [], ◌∷◌, drop, slice_get, refl, sym, ◌∙◌, ap, arith}

pub get_drop : {X : Type 0} (f : ℕ) (xs : List X) (n m : ℕ) → m ≡ f + n → slice_get (drop f xs) n ≡ slice_get xs m
get_drop zero xs n m e = let same : n ≡ m = omega (arith, e) in ap (slice_get xs) same
get_drop (suc f) [] n m e = refl
get_drop (suc f) (x ∷ xs) n zero e = absurd (omega (arith, e))
get_drop (suc f) (x ∷ xs) n (suc m) e = get_drop f xs n m (omega (arith, e))

drop_none : {X : Type 0} (n : ℕ) → drop {A = X} n [] ≡ []
drop_none zero = refl
drop_none (suc n) = refl

pub drop_drop : {X : Type 0} (f : ℕ) (xs : List X) (n m : ℕ) → m ≡ f + n → drop n (drop f xs) ≡ drop m xs
drop_drop zero xs n m e = let same : n ≡ m = omega (arith, e) in ap (λ k. drop k xs) same
drop_drop (suc f) [] n m e = drop_none n ∙ sym (drop_none m)
drop_drop (suc f) (x ∷ xs) n zero e = absurd (omega (arith, e))
drop_drop (suc f) (x ∷ xs) n (suc m) e = drop_drop f xs n m (omega (arith, e))
