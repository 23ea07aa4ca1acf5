-- A test of exports, as contracts see them and as they stand in memory.
use Rattle.std.proofs.Common.{◌≡◌, Bool, ◌||◌, List, [], ◌∷◌, map, refl, ap}
use Rattle.std.specs.List.{list_any}

pub any_listed : {X Y : Type 0} (view : X → Y) (test : Y → Bool) (xs : List X)
    → list_any test (map view xs) ≡ list_any (λ x. test (view x)) xs
any_listed view test [] = refl
any_listed view test (x ∷ xs) = ap (λ b. test (view x) || b) (any_listed view test xs)
