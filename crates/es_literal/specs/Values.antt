-- What string literals stand for (ECMA-262, "String Literals", Static Semantics: SV).
use Rattle.std.specs.Prelude.{ℕ, zero, suc, ◌+◌, ◌-◌, ◌*◌, Bool, ◌&&◌, ◌||◌, ◌==◌, nat_lt, nat_le, List, [], ◌∷◌, ◌++◌, length, take, drop, Option, Some, None, if◌then◌else◌}
use Rattle.std.specs.Char.Escape.{encode_utf16}
use Rattle.std.specs.Char.Utf16.{utf16_lossy_chars, has_unpaired_surrogate}
use Rattle.std.specs.Str.{chars, encode_utf8_all}
use Rattle.es_literal.specs.Strings.{digit, is_hex}

-- what a hexadecimal digit is worth; other characters, which no literal has here, are worth nothing
unfoldable pub hex : ℕ → ℕ
hex c = if is_hex c then digit c else 0

-- the number of `\xHH`, whose digits stand here
unfoldable pub two_number : List ℕ → ℕ
two_number [] = 0
two_number (c ∷ []) = 0
two_number (c ∷ d ∷ rest) = hex c * 16 + hex d

-- the number of `\uHHHH`
unfoldable pub four_number : List ℕ → ℕ
four_number [] = 0
four_number (c ∷ []) = 0
four_number (c ∷ d ∷ []) = 0
four_number (c ∷ d ∷ e ∷ []) = 0
four_number (c ∷ d ∷ e ∷ f ∷ rest) = ((hex c * 16 + hex d) * 16 + hex e) * 16 + hex f

-- a number, at most 10FFFF, which no escape of a literal passes
unfoldable pub bounded : ℕ → ℕ
bounded n = if nat_lt 0x10FFFF n then 0x10FFFF else n

-- the number of `\u{H..}` and how many characters it has, where so many stand before this text, and digits of this value
unfoldable pub braced_number : ℕ → ℕ → List ℕ → ℕ × ℕ
braced_number size value [] = (value, size)
braced_number size value (c ∷ rest) =
    if c == 125 then (value, size + 1) else braced_number (size + 1) (bounded (value * 16 + hex c)) rest

-- the same of an escape that begins with `\u`
unfoldable pub unicode_number : List ℕ → ℕ × ℕ
unicode_number [] = (0, 5)
unicode_number (c ∷ rest) = if c == 123 then braced_number 2 0 rest else (four_number (c ∷ rest), 5)

unfoldable pub is_octal : ℕ → Bool
is_octal c = nat_le 48 c && nat_le c 55

-- the number of two octal digits and of a third one, which counts up to 377, and how many they are
unfoldable pub octal_pair : ℕ → List ℕ → ℕ × ℕ
octal_pair value [] = (value, 2)
octal_pair value (c ∷ rest) = if nat_lt value 32 && is_octal c then (value * 8 + (c - 48), 3) else (value, 2)

-- the same of one octal digit and those behind it
unfoldable pub octal_number : ℕ → List ℕ → ℕ × ℕ
octal_number value [] = (value, 1)
octal_number value (c ∷ rest) = if is_octal c then octal_pair (value * 8 + (c - 48)) rest else (value, 1)

-- how many characters end a line that a carriage return ends
unfoldable pub return_len : List ℕ → ℕ
return_len [] = 1
return_len (c ∷ rest) = if c == 10 then 2 else 1

-- a line end but a carriage return
unfoldable pub is_line_end : ℕ → Bool
is_line_end c = c == 10 || c == 0x2028 || c == 0x2029

-- what a character behind `\` stands for that begins no longer escape
unfoldable pub single_code : ℕ → ℕ
single_code c =
    if c == 98 then 8
    else (if c == 116 then 9
    else (if c == 110 then 10
    else (if c == 118 then 11
    else (if c == 102 then 12
    else (if c == 114 then 13
    else c)))))

-- a code point, and how many characters of an escape it takes
abbrev pub with_code : ℕ × ℕ → Option ℕ × ℕ
with_code found = (Some found.0, found.1)

-- what an escape stands for, if anything, and how many characters it has behind its `\`, which stands before this text
unfoldable pub escape_of : List ℕ → Option ℕ × ℕ
escape_of [] = (None, 0)
escape_of (c ∷ rest) =
    if c == 120 then (Some (two_number rest), 3)
    else (if c == 117 then with_code (unicode_number rest)
    else (if c == 13 then (None, return_len rest)
    else (if is_octal c then with_code (octal_number (c - 48) rest)
    else (if is_line_end c then (None, 1)
    else (Some (single_code c), 1)))))

-- the same of any character, with how many behind it belong to it
unfoldable pub unit_of : ℕ → List ℕ → Option ℕ × ℕ
unit_of c rest = if c == 92 then escape_of rest else (Some c, 0)

-- the code units of a code point, if there is one
abbrev pub code_units : Option ℕ → List ℕ
code_units (Some code) = encode_utf16 code
code_units None = []

-- the code units that characters stand for, with so many of an escape left
unfoldable pub units_of : ℕ → List ℕ → List ℕ
units_of left [] = []
units_of zero (c ∷ rest) = code_units (unit_of c rest).0 ++ units_of (unit_of c rest).1 rest
units_of (suc left) (c ∷ rest) = units_of left rest

-- the characters between the first and the last
unfoldable pub inner : List ℕ → List ℕ
inner cs = take (length cs - 2) (drop 1 cs)

-- the code units of a literal
unfoldable pub value_units : List ℕ → List ℕ
value_units literal = units_of 0 (inner (chars literal))

-- they are read as text, with U+FFFD for each surrogate without its partner
unfoldable pub value_of : List ℕ → List ℕ
value_of literal = encode_utf8_all (utf16_lossy_chars (value_units literal))

-- whether there is such a surrogate
unfoldable pub is_lone : List ℕ → Bool
is_lone literal = has_unpaired_surrogate (value_units literal)
