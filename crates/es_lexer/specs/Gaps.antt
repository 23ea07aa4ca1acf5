-- What stands between tokens and comments (ECMA-262, "White Space", "Line Terminators").
use Rattle.std.specs.Prelude.{ℕ, ◌<◌, ◌≤◌, List, slice_range, ◌⊎◌}
use Rattle.base.specs.declared.range.Range.{Range}
use Rattle.es_lexer.specs.declared.bytes.First.TheVariants.{Blank, LineEnd}
use Rattle.es_lexer.specs.Readable.{IsByte, IsWideBlank, IsWideLine}

-- one blank or one line end
abbrev pub IsGap : List ℕ → Type 0
IsGap s = (IsByte Blank s ⊎ IsWideBlank s) ⊎ (IsByte LineEnd s ⊎ IsWideLine s)

-- the byte at this place belongs to a blank or to a line end
pub record GapAt (x : List ℕ) (place : ℕ) : Type 0 where
  pub start : ℕ
  pub end : ℕ
  pub from : start ≤ place
  pub to : place < end
  pub is : IsGap (slice_range x start end)

-- the place is outside the range
abbrev pub IsOutside : ℕ → Range → Type 0
IsOutside place range = (place < range.start) ⊎ (range.end ≤ place)
