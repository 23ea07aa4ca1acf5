-- What holds between a part of the old tree and the same part of the new one: parts that may be absent, lists, pairs,
-- functions.
use Rattle.std.specs.Prelude.{List, [], ◌∷◌, Option, Some, None, option_map, map}
use Rattle.std.proofs.Common.{◌≡◌, refl, ap, ◌∙◌}

-- the new one is the old one
abbrev pub Same : {A : Type 0} → A → A → Type 0
Same a b = b ≡ a

-- the new one is what a function makes of the old one
pub record By {A B : Type 0} (f : A → B) (a : A) (b : B) : Type 0 where
  pub is : b ≡ f a

-- both are absent, or both are there
pub data Opt {A B : Type 0} (R : A → B → Type 0) : Option A → Option B → Type 0 where
  none : Opt R None None
  some : {a : A} {b : B} → R a b → Opt R (Some a) (Some b)

-- they are as many, each with the one at its place
pub data Each {A B : Type 0} (R : A → B → Type 0) : List A → List B → Type 0 where
  end : Each R [] []
  next : {a : A} {b : B} {rest : List A} {others : List B} → R a b → Each R rest others
      → Each R (a ∷ rest) (b ∷ others)

abbrev pub Both : {A B C D : Type 0} → (A → C → Type 0) → (B → D → Type 0) → A × B → C × D → Type 0
Both R S a b = R a.0 b.0 × S a.1 b.1

-- functions that make of such parts such results
abbrev pub Fun : {A B C D : Type 0} → (A → C → Type 0) → (B → D → Type 0) → (A → B) → (C → D) → Type 0
Fun {A = A} {C = C} R S f g = (a : A) (c : C) → R a c → S (f a) (g c)

pub opt_is : {A B : Type 0} {f : A → B} {o : Option A} {p : Option B} → Opt (By f) o p → p ≡ option_map f o
opt_is none = refl
opt_is (some h) = ap Some h.is

pub each_is : {A B : Type 0} {f : A → B} {xs : List A} {ys : List B} → Each (By f) xs ys → ys ≡ map f xs
each_is end = refl
each_is {f = f} (next {a = a} {others = others} e h) =
    ap (λ z. z ∷ others) e.is ∙ ap (λ zs. f a ∷ zs) (each_is h)
