-- A part of what stands between two places of a text.
use Rattle.std.proofs.Common.{◌≡◌, ℕ, zero, suc, ◌+◌, ◌-◌, ◌≤◌, List, [], ◌∷◌, take, drop, slice_range, refl, sym, ◌∙◌, ap, arith}
use Rattle.std.proofs.Math.Seq.{drop-nil}

take_take : (s : List ℕ) (q p : ℕ) → p ≤ q → take p (take q s) ≡ take p s
take_take s q zero h = refl
take_take s zero (suc p) h = absurd (let bad : ⊥ = omega arith in bad)
take_take [] (suc q) (suc p) h = refl
take_take (b ∷ s) (suc q) (suc p) h = ap (λ t. b ∷ t) (take_take s q p (omega arith))

take_part : (s : List ℕ) (i q p : ℕ) → p ≤ q - i → take p (drop i (take q s)) ≡ take p (drop i s)
take_part s zero q p h = take_take s q p (omega arith)
take_part s (suc i) zero zero h = refl
take_part s (suc i) zero (suc p) h = absurd (let bad : ⊥ = omega arith in bad)
take_part [] (suc i) (suc q) p h = refl
take_part (b ∷ s) (suc i) (suc q) p h = take_part s i q p (omega arith)

drop_more : (s : List ℕ) (a i : ℕ) → drop (a + i) s ≡ drop i (drop a s)
drop_more s zero i = let same : zero + i ≡ i = omega arith in ap (λ k. drop k s) same
drop_more [] (suc a) i = drop-nil (suc a + i) ∙ sym (drop-nil i)
drop_more (b ∷ s) (suc a) i =
    let same : suc a + i ≡ suc (a + i) = omega arith in ap (λ k. drop k (b ∷ s)) same ∙ drop_more s a i

inner : (x : List ℕ) (a b i j : ℕ)
    → slice_range x (a + i) (b - j) ≡ take (b - j - (a + i)) (drop i (slice_range x a b))
inner x a b i j =
    ap (take (b - j - (a + i))) (drop_more x a i)
    ∙ sym (take_part (drop a x) i (b - a) (b - j - (a + i)) (omega arith))

-- where two texts have the same between two places each, they have the same between places inside
pub same_inner : (x y : List ℕ) (a b c d i j p q : ℕ) → slice_range y c d ≡ slice_range x a b → p ≡ d - j → q ≡ b - j
    → d - j - (c + i) ≡ b - j - (a + i) → slice_range y (c + i) p ≡ slice_range x (a + i) q
same_inner x y a b c d i j p q e f g size =
    ap (slice_range y (c + i)) f
    ∙ (inner y c d i j
    ∙ (ap (λ n. take n (drop i (slice_range y c d))) size
    ∙ (ap (λ s. take (b - j - (a + i)) (drop i s)) e
    ∙ (sym (inner x a b i j) ∙ sym (ap (slice_range x (a + i)) g)))))
