-- Tokens that cut their text between characters.
use Rattle.std.specs.Prelude.{◌≡◌, ℕ, ◌≤◌, List, Some, slice_get, IsCharBoundary}
use Rattle.es_token.specs.declared.token.Token.{Token}

pub record Cuts (x : List ℕ) (t : Token) : Type 0 where
  pub ordered : t.range.start ≤ t.range.end
  pub starts : IsCharBoundary x t.range.start
  pub ends : IsCharBoundary x t.range.end

abbrev pub IsCut : List ℕ → List Token → Type 0
IsCut x ts = (n : ℕ) (t : Token) → slice_get ts n ≡ Some t → Cuts x t
