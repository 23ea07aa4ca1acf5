-- Escapes of characters in words (ECMA-262, "Names and Keywords", UnicodeEscapeSequence), and the characters that may
-- stand in words by their numbers.
use Rattle.std.specs.Prelude.{ℕ, ◌+◌, ◌*◌, Bool, not, ◌&&◌, ◌||◌, ◌==◌, nat_lt, nat_le, List, [], ◌∷◌, Option, Some, None, if◌then◌else◌}
use Rattle.std.specs.Char.{digit_value, is_ascii_alphabetic, is_ascii_digit}
use Rattle.es_unicode.specs.declared.escape.Escape.{Escape}

-- ---- escapes
-- a hexadecimal digit
unfoldable pub is_hex : ℕ → Bool
is_hex b = nat_lt (digit_value b) 16

-- what it is worth
unfoldable pub hex : ℕ → ℕ
hex b = if is_hex b then digit_value b else 0

-- the number of four digits
unfoldable pub four_code : ℕ → ℕ → ℕ → ℕ → ℕ
four_code c d e f = ((hex c * 16 + hex d) * 16 + hex e) * 16 + hex f

-- `\uHHHH`, whose digits stand here
unfoldable pub four_escape : List ℕ → Option Escape
four_escape [] = None
four_escape (c ∷ []) = None
four_escape (c ∷ d ∷ []) = None
four_escape (c ∷ d ∷ e ∷ []) = None
four_escape (c ∷ d ∷ e ∷ f ∷ rest) =
    if is_hex c && is_hex d && (is_hex e && is_hex f) then Some (record { code = four_code c d e f; size = 6 })
    else None

-- `\u{H..}` up to 10FFFF, so much of it before this text and its digits worth so much
unfoldable pub point_escape : ℕ → ℕ → List ℕ → Option Escape
point_escape size value [] = None
point_escape size value (b ∷ rest) =
    if b == 125 then Some (record { code = value; size = size + 1 })
    else (if is_hex b && nat_le (value * 16 + hex b) 0x10FFFF then point_escape (size + 1) (value * 16 + hex b) rest
    else None)

unfoldable pub braced_escape : List ℕ → Option Escape
braced_escape [] = None
braced_escape (b ∷ rest) = if is_hex b then point_escape 4 (hex b) rest else None

-- the escape whose `\u` stands before this text
unfoldable pub unicode_escape : List ℕ → Option Escape
unicode_escape [] = None
unicode_escape (b ∷ rest) = if b == 123 then braced_escape rest else four_escape (b ∷ rest)

-- the escape that stands here
unfoldable pub escape_at : List ℕ → Option Escape
escape_at [] = None
escape_at (a ∷ []) = None
escape_at (a ∷ b ∷ rest) = if a == 92 && b == 117 then unicode_escape rest else None

-- ---- characters
-- a blank or a line end past ASCII
unfoldable pub is_gap : ℕ → Bool
is_gap c =
    c == 0xA0 || (c == 0x1680 || (nat_le 0x2000 c && nat_le c 0x200A || (c == 0x2028 || (c == 0x2029
    || (c == 0x202F || (c == 0x205F || (c == 0x3000 || c == 0xFEFF)))))))

-- half of a character, which is none
unfoldable pub is_surrogate : ℕ → Bool
is_surrogate c = nat_le 0xD800 c && nat_le c 0xDFFF

-- a letter, `$`, `_`, or a character past ASCII that is neither a blank nor a line end (IdentifierStartChar)
unfoldable pub is_name_start : ℕ → Bool
is_name_start c =
    is_ascii_alphabetic c || (c == 36 || (c == 95 || nat_le 128 c && not (is_gap c || is_surrogate c)))

-- such a character, or a digit (IdentifierPartChar)
unfoldable pub is_name_part : ℕ → Bool
is_name_part c = is_name_start c || is_ascii_digit c

-- the size of an escape whose character passes, or 0
unfoldable pub size_if : (ℕ → Bool) → Option Escape → ℕ
size_if p None = 0
size_if p (Some escape) = if p escape.code then escape.size else 0

-- the size of the escape that stands here of a character that may begin a word, or 0
unfoldable pub escaped_start : List ℕ → ℕ
escaped_start text = size_if is_name_start (escape_at text)

-- or go on in one
unfoldable pub escaped_part : List ℕ → ℕ
escaped_part text = size_if is_name_part (escape_at text)
