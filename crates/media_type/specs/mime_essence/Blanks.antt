-- Blanks are ASCII whitespace (Infra Standard, "ASCII whitespace"): tab, line feed, form feed, carriage return, space.
use Rattle.std.specs.Prelude.{ℕ, ◌-◌, List, length, take, drop}
use Rattle.std.specs.List.{prefix_len, suffix_len}
use Rattle.std.specs.Char.{is_ascii_whitespace}

-- the text less the blanks at its start
abbrev pub trim_blanks_start : List ℕ → List ℕ
trim_blanks_start text = drop (prefix_len is_ascii_whitespace text) text

-- the text less the blanks at its end
abbrev pub trim_blanks_end : List ℕ → List ℕ
trim_blanks_end text = take (length text - suffix_len is_ascii_whitespace text) text

-- the text less the blanks at both ends
unfoldable pub trim_blanks : List ℕ → List ℕ
trim_blanks text = trim_blanks_end (trim_blanks_start text)
