-- Counts over entries.
use Rattle.std.proofs.Common.{◌≡◌, ℕ, ◌+◌, List, [], ◌∷◌, ◌++◌, map, ◌∙◌, ap}
use Rattle.std.specs.List.{sum_by}
use Rattle.std.proofs.lemmas.List.{map-append}
use Rattle.std.proofs.lemmas.List.Sums.{sum_by_push}

-- one more is counted
pub counted_more : {A B : Type 0} (f : B → ℕ) (g : A → B) (xs : List A) (y : A)
    → sum_by f (map g (xs ++ y ∷ [])) ≡ sum_by f (map g xs) + f (g y)
counted_more f g xs y = ap (sum_by f) (map-append g xs (y ∷ [])) ∙ sum_by_push f (map g xs) (g y)
