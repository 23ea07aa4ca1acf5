-- A text in the making that has parts of a source.
use Rattle.std.specs.Prelude.{ℕ, Bool, true, false, List, [], ◌∷◌, ◌++◌}

pub record Inked : Type 0 where
  pub source : List ℕ
  pub text : List ℕ

-- with more behind it
abbrev pub inked : List ℕ → Inked → Inked
inked more p = record { source = p.source; text = p.text ++ more }

-- what stands between two parts
abbrev pub between : Bool → List ℕ
between true = 32 ∷ []
between false = []
