-- Places where a text is cut.
use Rattle.std.specs.Prelude.{ℕ, ◌≤◌, List, IsCharBoundary}

-- two places cut the text between characters
pub record Cuts (x : List ℕ) (start end : ℕ) : Type 0 where
  pub ordered : start ≤ end
  pub starts : IsCharBoundary x start
  pub ends : IsCharBoundary x end
