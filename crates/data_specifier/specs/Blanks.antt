-- Text without blanks, which are ASCII whitespace (Infra Standard, "ASCII whitespace"): tab, line feed, form feed,
-- carriage return, space.
use Rattle.std.specs.Prelude.{ℕ, List, not, filter}
use Rattle.std.specs.Char.{is_ascii_whitespace}

-- the text less all its blanks
unfoldable pub without_blanks : List ℕ → List ℕ
without_blanks text = filter (λ b. not (is_ascii_whitespace b)) text
