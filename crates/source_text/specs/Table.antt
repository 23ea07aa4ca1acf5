-- The table of line starts.
use Rattle.std.specs.Prelude.{◌≡◌, ℕ, ◌+◌, ◌<◌, List, length, slice_index}
use Rattle.source_text.specs.Lines.{line_index, IsStart}

-- where the lines start that start up to the place
pub record HasStarts (text : List ℕ) (place : ℕ) (starts : List ℕ) : Type 0 where
  pub count : length starts ≡ line_index text place + 1
  pub each : (line : ℕ) → line < length starts → IsStart text line (slice_index starts line)

-- where all lines of the text start
abbrev pub IsTable : List ℕ → List ℕ → Type 0
IsTable text starts = HasStarts text (length text) starts
