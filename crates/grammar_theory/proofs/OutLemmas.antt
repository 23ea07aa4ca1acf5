-- What an answer of a reader tells of the answers that it was made from, and the other way round.
use Rattle.std.specs.Prelude.{Bool, true, false, ◌⊎◌}
use Rattle.std.proofs.Common.{◌≡◌, ℕ, refl, sym, ap, inl, inr}
use Rattle.grammar_theory.specs.Reader.{Out, nothing, gives, and_then, changed, only_if, either}

-- a test isn't both
pub clash : {A : Type 0} → false ≡ true → A
clash e = absurd (let bad : ⊥ = cc in bad)

pub nothing_gives : {A X : Type 0} (a : A) (to : ℕ) → nothing ≡ gives a to → X
nothing_gives a to e = absurd (let bad : ⊥ = cc in bad)

pub gives_same : {A : Type 0} (a b : A) (at to : ℕ) → gives a at ≡ gives b to → (a ≡ b) × (at ≡ to)
gives_same a b at to e = ((let same : a ≡ b = cc in same), (let same : at ≡ to = cc in same))

module _ {A B : Type 0} where
  pub and_then-gives : (o : Out A) (f : A → ℕ → Out B) (b : B) (to : ℕ) → and_then o f ≡ gives b to
      → (a : A) × (mid : ℕ) × (o ≡ gives a mid) × (f a mid ≡ gives b to)
  and_then-gives nothing f b to e = nothing_gives b to e
  and_then-gives (gives a mid) f b to e = (a, mid, refl, e)

  pub changed-gives : (f : A → B) (o : Out A) (b : B) (to : ℕ) → changed f o ≡ gives b to
      → (a : A) × (o ≡ gives a to) × (f a ≡ b)
  changed-gives f nothing b to e = nothing_gives b to e
  changed-gives f (gives a at) b to e =
      let same = gives_same (f a) b at to e in (a, ap (gives a) same.1, same.0)

  pub then_gives : (o : Out A) (f : A → ℕ → Out B) (a : A) (mid : ℕ) (out : Out B)
      → o ≡ gives a mid → f a mid ≡ out → and_then o f ≡ out
  then_gives o f a mid out e s = rw e s

  pub change_gives : (f : A → B) (o : Out A) (a : A) (b : B) (to : ℕ) → o ≡ gives a to → f a ≡ b
      → changed f o ≡ gives b to
  change_gives f o a b to e s = rw e (ap (λ x. gives x to) s)

module _ {A : Type 0} where
  pub only_if-gives : (t : Bool) (o : Out A) (a : A) (to : ℕ) → only_if t o ≡ gives a to → (t ≡ true) × (o ≡ gives a to)
  only_if-gives true o a to e = (refl, e)
  only_if-gives false o a to e = nothing_gives a to e

  pub either-gives : (t : Bool) (x y : Out A) (a : A) (to : ℕ) → either t x y ≡ gives a to
      → ((t ≡ true) × (x ≡ gives a to)) ⊎ ((t ≡ false) × (y ≡ gives a to))
  either-gives true x y a to e = inl (refl, e)
  either-gives false x y a to e = inr (refl, e)

  pub only_if_true : (t : Bool) (o out : Out A) → t ≡ true → o ≡ out → only_if t o ≡ out
  only_if_true true o out e s = s
  only_if_true false o out e s = clash e

  pub either_true : (t : Bool) (x y out : Out A) → t ≡ true → x ≡ out → either t x y ≡ out
  either_true true x y out e s = s
  either_true false x y out e s = clash e

  pub either_false : (t : Bool) (x y out : Out A) → t ≡ false → y ≡ out → either t x y ≡ out
  either_false true x y out e s = clash (sym e)
  either_false false x y out e s = s
