-- Lines of a text. Places are bytes, from 0; lines count from 0. A line ends with U+000A, which belongs to it.
use Rattle.std.specs.Prelude.{◌≡◌, ℕ, ◌+◌, ◌-◌, ◌<◌, ◌≤◌, ◌&&◌, ◌==◌, nat_lt, List, length, take, slice_index, slice_range, if◌then◌else◌}
use Rattle.std.specs.List.{count_by}
use Rattle.std.specs.Str.{chars}
use Rattle.source_text.specs.declared.display.LineAndColumnDisplay.{LineAndColumnDisplay}

-- the line of a place: the number of line ends before it
abbrev pub line_index : List ℕ → ℕ → ℕ
line_index text place = count_by (λ b. b == 10) (take place text)

-- the last line: the number of all line ends
abbrev pub last_line : List ℕ → ℕ
last_line text = line_index text (length text)

-- the line starts at the place: at the start of the text, or right behind a line end
pub record IsStart (text : List ℕ) (line place : ℕ) : Type 0 where
  pub within : place ≤ length text
  pub here : line_index text place ≡ line
  pub first : 0 < place → slice_index text (place - 1) ≡ 10

-- the line stops at the place: its line end stands there, or the text ends
pub record IsStop (text : List ℕ) (line place : ℕ) : Type 0 where
  pub within : place ≤ length text
  pub here : line_index text place ≡ line
  pub last : place < length text → slice_index text place ≡ 10

-- the place, but before a U+000D that stands right before a line end there
abbrev pub before_return : List ℕ → ℕ → ℕ
before_return text stop =
    if nat_lt 0 stop && nat_lt stop (length text) && slice_index text (stop - 1) == 13 then stop - 1 else stop

-- the text of the line ends at the place: where the line stops, and before a U+000D of its line end
pub record IsEnd (text : List ℕ) (line place : ℕ) : Type 0 where
  pub stop : ℕ
  pub stops : IsStop text line stop
  pub value : place ≡ before_return text stop

-- the text of the line, without its line end
pub record IsLineText (text : List ℕ) (line : ℕ) (part : List ℕ) : Type 0 where
  pub start : ℕ
  pub end : ℕ
  pub starts : IsStart text line start
  pub ends : IsEnd text line end
  pub value : part ≡ slice_range text start end

-- line and column of a place, from 1: the column counts the characters of the line before the place
pub record IsDisplay (text : List ℕ) (place : ℕ) (shown : LineAndColumnDisplay) : Type 0 where
  pub start : ℕ
  pub starts : IsStart text (line_index text place) start
  pub line : shown.line_number ≡ line_index text place + 1
  pub column : shown.column_number ≡ length (chars (slice_range text start place)) + 1
