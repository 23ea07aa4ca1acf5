-- No module of a plan's bundle has the specifier of one before it.
use Rattle.std.proofs.Common.{◌≡◌, ◌∙◌, refl, sym, ap, subst, Bool, false, List, [], ◌∷◌, ◌++◌, append_assoc}
use Rattle.std.specs.Prelude.{bytes_eq, ◌||◌}
use Rattle.std.specs.List.{AllByRecursion, IsDistinct}
use Rattle.std.specs.Cmp.Lexicographic.{nat_list_eq_equiv}
use Rattle.graph_builder.specs.Reach.{Specifier, has}

-- no one of these is among those, or among the ones before it
abbrev pub AreFresh : List Specifier → List Specifier → Type 0
AreFresh earlier [] = Unit {0}
AreFresh earlier (t ∷ ts) = (has earlier t ≡ false) × AreFresh (earlier ++ t ∷ []) ts

-- what stands in front differs from what stands behind it
front_apart : (s t : Specifier) (xs ys : List Specifier)
    → AllByRecursion (λ y. bytes_eq s y ≡ false) (xs ++ t ∷ ys) → bytes_eq s t ≡ false
front_apart s t [] ys all = all.0
front_apart s t (x ∷ xs) ys all = front_apart s t xs ys all.1

lacks : (t : Specifier) (xs ys : List Specifier) → IsDistinct bytes_eq (xs ++ t ∷ ys) → has xs t ≡ false
unfolding IsDistinct
lacks t [] ys apart = refl
lacks t (x ∷ xs) ys apart =
    ap (λ (b : Bool). b || has xs t) (nat_list_eq_equiv.symm t x ∙ front_apart x t xs ys apart.0)
    ∙ lacks t xs ys apart.1

pub fresh : (earlier ts : List Specifier) → IsDistinct bytes_eq (earlier ++ ts) → AreFresh earlier ts
fresh earlier [] apart = tt
fresh earlier (t ∷ ts) apart = (
  lacks t earlier ts apart,
  fresh (earlier ++ t ∷ []) ts (subst (IsDistinct bytes_eq) (sym (append_assoc earlier (t ∷ []) ts)) apart),
)
