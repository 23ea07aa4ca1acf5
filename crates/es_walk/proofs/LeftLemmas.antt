-- What is left while a walk is on its way, and the steps that it takes.
use Rattle.std.specs.Prelude.{ℕ, zero, suc, ◌+◌, ◌-◌, ◌*◌, ◌≤◌, ◌<◌, List, [], ◌∷◌, ◌++◌, Some, None, Result, Ok, Err, OnOk, drop, slice_get}
use Rattle.std.proofs.Common.{◌≡◌, refl, sym, ap, ◌∙◌, arith}
use Rattle.std.proofs.lemmas.List.{append-nil, append_assoc}
use Rattle.es_walk.specs.declared.levels.Frame.{Frame}
use Rattle.es_walk.specs.Walk.{Analysis}
use Rattle.es_walk.specs.Left.{frame_marks, ahead, cost, frame_weight, weight}

module _ {H W A T M : Type 0} (r : Analysis H W A T M) where
  pub ahead_none : ahead r [] ≡ []
  unfolding ahead
  ahead_none = refl

  pub ahead_more : (fs : List (Frame H T)) (f : Frame H T)
      → ahead r (fs ++ f ∷ []) ≡ frame_marks r f ++ ahead r fs
  unfolding ahead
  ahead_more [] f = sym (append-nil (frame_marks r f))
  ahead_more (k ∷ fs) f =
      ap (λ s. s ++ frame_marks r k) (ahead_more fs f)
      ∙ append_assoc (frame_marks r f) (ahead r fs) (frame_marks r k)

pub weight_more : {H T : Type 0} (fs : List (Frame H T)) (f : Frame H T)
    → weight (fs ++ f ∷ []) ≡ weight fs + frame_weight f
unfolding weight
weight_more [] f = omega arith
weight_more (k ∷ fs) f = let more = weight_more fs f in omega (arith, more)

-- what follows where it is well
pub on_ok : {A E : Type 0} {P Q : Type 0} (r : Result A E) → (P → Q) → OnOk r P → OnOk r Q
on_ok (Ok a) f p = f p
on_ok (Err e) f p = p

-- two frames, one after the other
pub both : {M : Type 0} (s0 s1 s2 a b : List M) → s1 ≡ b ++ s0 → s2 ≡ a ++ s1 → s2 ≡ (a ++ b) ++ s0
both s0 s1 s2 a b first second = second ∙ ap (λ s. a ++ s) first ∙ sym (append_assoc a b s0)

-- ---- steps
pub cost_pos : (n : ℕ) → 1 ≤ cost n
unfolding cost
cost_pos zero = omega arith
cost_pos (suc n) = let a = cost_pos n in omega (arith, a)

pub cost_up : (n k : ℕ) → k ≤ n → cost k ≤ cost n
unfolding cost
cost_up zero zero p = omega arith
cost_up zero (suc k) p = absurd (omega (arith, p))
cost_up (suc n) zero p = let a = cost_pos n in omega (arith, a)
cost_up (suc n) (suc k) p = let a = cost_up n k (omega (arith, p)) in omega (arith, a)

-- fewer entries by one
pub cost_more : (k n : ℕ) → k < n → 400 * cost k ≤ cost n
unfolding cost
cost_more k zero p = absurd (omega (arith, p))
cost_more k (suc n) p = let a = cost_up n k (omega (arith, p)) in omega (arith, a)

pub times_up : (a b c : ℕ) → a ≤ b → a * c ≤ b * c
times_up zero b c p = omega arith
times_up (suc a) zero c p = absurd (omega (arith, p))
times_up (suc a) (suc b) c p = let q = times_up a b c (omega (arith, p)) in omega (arith, q)

-- ---- the steps that are left
pub drop_more : {A : Type 0} (xs : List A) (n : ℕ) (x : A) → slice_get xs n ≡ Some x
    → drop n xs ≡ x ∷ drop (suc n) xs
drop_more [] n x e = absurd (let bad : ⊥ = cc in bad)
drop_more (y ∷ ys) zero x e = ap (λ z. z ∷ ys) (let so : y ≡ x = cc in so)
drop_more (y ∷ ys) (suc n) x e = drop_more ys n x e

pub drop_next : {A : Type 0} (xs : List A) (n : ℕ) (x : A) → slice_get xs n ≡ Some x
    → drop n xs ≡ x ∷ drop (n + 1) xs
drop_next xs n x e =
    drop_more xs n x e ∙ ap (λ k. x ∷ drop k xs) (let so : suc n ≡ n + 1 = omega arith in so)

pub drop_none : {A : Type 0} (xs : List A) (n : ℕ) → slice_get xs n ≡ None → drop n xs ≡ []
drop_none [] zero e = refl
drop_none [] (suc n) e = refl
drop_none (y ∷ ys) zero e = absurd (let bad : ⊥ = cc in bad)
drop_none (y ∷ ys) (suc n) e = drop_none ys n e

-- one step fewer
pub step_less : (at x : ℕ) → at < 32 → (32 - at) * x ≡ x + (32 - (at + 1)) * x
step_less at x p =
    let k = 32 - (at + 1) in
    let e : 32 - at ≡ suc (32 - (at + 1)) = omega (arith, p) in
    let so : suc k * x ≡ x + k * x = omega arith in
    ap (λ j. j * x) e ∙ so
