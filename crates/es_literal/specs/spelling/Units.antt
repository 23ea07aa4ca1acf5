-- Runs of units: a unit is what a size function finds at the front of a text.
use Rattle.std.specs.Prelude.{◌≡◌, ℕ, zero, suc, ◌+◌, ◌-◌, ◌<◌, ◌==◌, List, [], ◌∷◌, ◌++◌, length, if◌then◌else◌}

-- the bytes of units in a row
abbrev pub concat : List (List ℕ) → List ℕ
concat [] = []
concat (unit ∷ units) = unit ++ concat units

-- the units stand in a row before the text `after`, each of the size that is found where it stands
abbrev pub AreUnits : (List ℕ → ℕ) → List (List ℕ) → List ℕ → Type 0
AreUnits size [] after = Unit {0}
AreUnits size (unit ∷ units) after =
    (size (unit ++ (concat units ++ after)) ≡ length unit) × (0 < length unit) × AreUnits size units after

-- where the units end, from `at` on, with so many bytes of the unit left
unfoldable pub units_end : (List ℕ → ℕ) → ℕ → ℕ → List ℕ → ℕ
units_end size at left [] = at
units_end size at zero (b ∷ rest) =
    if size (b ∷ rest) == 0 then at else units_end size (at + 1) (size (b ∷ rest) - 1) rest
units_end size at (suc left) (b ∷ rest) = units_end size (at + 1) left rest

-- what stands behind the units, with so many bytes of the unit left
unfoldable pub units_rest : (List ℕ → ℕ) → ℕ → List ℕ → List ℕ
units_rest size left [] = []
units_rest size zero (b ∷ rest) =
    if size (b ∷ rest) == 0 then b ∷ rest else units_rest size (size (b ∷ rest) - 1) rest
units_rest size (suc left) (b ∷ rest) = units_rest size left rest
