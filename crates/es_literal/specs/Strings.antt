-- Where string literals end (ECMA-262, "String Literals").
use Rattle.std.specs.Prelude.{◌≡◌, ℕ, ◌+◌, ◌*◌, ◌≤◌, Bool, true, false, not, ◌&&◌, ◌||◌, ◌==◌, nat_lt, nat_le, List, [], ◌∷◌, ◌++◌, length, if◌then◌else◌, ◌⊎◌}
use Rattle.std.specs.List.{AllByRecursion}
use Rattle.std.specs.Char.{digit_value}
use Rattle.es_literal.specs.spelling.Units.{concat, units_end, units_rest}
use Rattle.es_literal.specs.declared.string.StringEnd.{StringEnd}
use Rattle.es_literal.specs.declared.string.StringEnd.TheVariants.{Closes, InvalidEscape, Unclosed}

-- what a digit is worth
unfoldable pub digit : ℕ → ℕ
digit b = digit_value b

-- a hexadecimal digit
unfoldable pub is_hex : ℕ → Bool
is_hex b = nat_lt (digit b) 16

-- what the digits are worth behind others that are worth `value`
abbrev pub worth : ℕ → List ℕ → ℕ
worth value [] = value
worth value (d ∷ digits) = worth (value * 16 + digit d) digits

-- a byte that stands for itself
unfoldable pub is_plain : ℕ → ℕ → Bool
is_plain quote b = not (b == quote || b == 92 || b == 10 || b == 13)

-- a byte behind `\` that makes an escape with it: neither `x`, `u` nor a carriage return. The further digits of an
-- octal escape, and the further bytes of a character past ASCII, stand for themselves here
unfoldable pub is_single : ℕ → Bool
is_single b = not (b == 120 || b == 117 || b == 13)

-- a line feed stands here
unfoldable pub begins_feed : List ℕ → Bool
begins_feed [] = false
begins_feed (b ∷ rest) = b == 10

-- what a literal is made of between its quotes, in front of the text `after`
pub data IsUnit (quote : ℕ) (s after : List ℕ) : Type 0 where
  plain : (b : ℕ) → is_plain quote b ≡ true → s ≡ b ∷ [] → IsUnit quote s after
  -- `\` and a byte
  single : (b : ℕ) → is_single b ≡ true → s ≡ 92 ∷ b ∷ [] → IsUnit quote s after
  -- `\x` and two digits
  two : (c d : ℕ) → is_hex c ≡ true → is_hex d ≡ true → s ≡ 92 ∷ 120 ∷ c ∷ d ∷ [] → IsUnit quote s after
  -- `\u` and four digits
  four : (c d e f : ℕ) → is_hex c ≡ true → is_hex d ≡ true → is_hex e ≡ true → is_hex f ≡ true
      → s ≡ 92 ∷ 117 ∷ c ∷ d ∷ e ∷ f ∷ [] → IsUnit quote s after
  -- `\u{`, digits of a code point, `}`
  braced : (d : ℕ) (digits : List ℕ) → AllByRecursion (λ b. is_hex b ≡ true) (d ∷ digits)
      → worth 0 (d ∷ digits) ≤ 0x10FFFF → s ≡ 92 ∷ 117 ∷ 123 ∷ d ∷ (digits ++ 125 ∷ []) → IsUnit quote s after
  -- `\` and a carriage return, or one with a line feed
  return : begins_feed after ≡ false → s ≡ 92 ∷ 13 ∷ [] → IsUnit quote s after
  return_feed : s ≡ 92 ∷ 13 ∷ 10 ∷ [] → IsUnit quote s after

-- units in a row before the text `after`
abbrev pub AreUnits : ℕ → List (List ℕ) → List ℕ → Type 0
AreUnits quote [] after = Unit {0}
AreUnits quote (unit ∷ units) after = IsUnit quote unit (concat units ++ after) × AreUnits quote units after

-- a quote of either kind
unfoldable pub is_quote : ℕ → Bool
is_quote b = b == 34 || b == 39

unfoldable pub begins_quote : List ℕ → Bool
begins_quote [] = false
begins_quote (b ∷ rest) = is_quote b

-- a quote, units, the same quote (StringLiteral)
pub record IsString (s : List ℕ) : Type 0 where
  pub quote : ℕ
  pub units : List (List ℕ)
  pub quotes : is_quote quote ≡ true
  pub each : AreUnits quote units (quote ∷ [])
  pub whole : s ≡ quote ∷ (concat units ++ quote ∷ [])

-- `\` stands here with something behind it, and no unit does
pub record IsBad (quote : ℕ) (s : List ℕ) : Type 0 where
  pub next : ℕ
  pub more : List ℕ
  pub whole : s ≡ 92 ∷ next ∷ more
  pub none : (u after : List ℕ) → IsUnit quote u after → ¬ (s ≡ u ++ after)

-- units may not go on: the text or the line ends, or `\` is the text's last byte
abbrev pub IsCut : List ℕ → Type 0
IsCut [] = Unit {0}
IsCut (b ∷ rest) = (b ≡ 10) ⊎ ((b ≡ 13) ⊎ ((b ≡ 92) × (rest ≡ [])))

-- a quote and units, behind which such a text stands
pub record Begins (Back : ℕ → List ℕ → Type 0) (text : List ℕ) : Type 0 where
  pub quote : ℕ
  pub units : List (List ℕ)
  pub back : List ℕ
  pub quotes : is_quote quote ≡ true
  pub each : AreUnits quote units back
  pub whole : text ≡ quote ∷ (concat units ++ back)
  pub ends : Back quote back

-- the literal at the front of a text that stands at `start` ends here, or this is its first fault
pub data IsStringEnd (start : ℕ) (text : List ℕ) (end : StringEnd) : Type 0 where
  closes : (s after : List ℕ) → text ≡ s ++ after → IsString s → end ≡ Closes (start + length s)
      → IsStringEnd start text end
  invalid : (b : Begins IsBad text) → end ≡ InvalidEscape (start + 1 + length (concat b.units)) → IsStringEnd start text end
  unclosed : Begins (λ quote back. IsCut back) text → end ≡ Unclosed → IsStringEnd start text end

-- ---- what the code finds
-- the size of `\xHH`, whose digits stand here, or 0
unfoldable pub two_size : List ℕ → ℕ
two_size [] = 0
two_size (c ∷ []) = 0
two_size (c ∷ d ∷ rest) = if is_hex c && is_hex d then 4 else 0

-- the size of `\uHHHH`
unfoldable pub four_size : List ℕ → ℕ
four_size [] = 0
four_size (c ∷ []) = 0
four_size (c ∷ d ∷ []) = 0
four_size (c ∷ d ∷ e ∷ []) = 0
four_size (c ∷ d ∷ e ∷ f ∷ rest) = if is_hex c && is_hex d && (is_hex e && is_hex f) then 6 else 0

-- the size of `\u{H..}`, so much of it before this text and its digits worth so much
unfoldable pub point_size : ℕ → ℕ → List ℕ → ℕ
point_size size value [] = 0
point_size size value (b ∷ rest) =
    if b == 125 then size + 1
    else (if is_hex b && nat_le (value * 16 + digit b) 0x10FFFF then point_size (size + 1) (value * 16 + digit b) rest
    else 0)

unfoldable pub braced_size : List ℕ → ℕ
braced_size [] = 0
braced_size (b ∷ rest) = if is_hex b then point_size 4 (digit b) rest else 0

-- the size of an escape that begins with `\u`
unfoldable pub unicode_size : List ℕ → ℕ
unicode_size [] = 0
unicode_size (b ∷ rest) = if b == 123 then braced_size rest else four_size (b ∷ rest)

-- the size of `\` and a carriage return
unfoldable pub return_size : List ℕ → ℕ
return_size [] = 2
return_size (b ∷ rest) = if b == 10 then 3 else 2

-- the size of an escape, whose `\` stands before this text
unfoldable pub escape_size : List ℕ → ℕ
escape_size [] = 0
escape_size (b ∷ rest) =
    if b == 120 then two_size rest
    else (if b == 117 then unicode_size rest
    else (if b == 13 then return_size rest
    else 2))

unfoldable pub string_unit : ℕ → List ℕ → ℕ
string_unit quote [] = 0
string_unit quote (b ∷ rest) = if b == 92 then escape_size rest else (if is_plain quote b then 1 else 0)

-- what a `\` at `at` is, which begins no unit
unfoldable pub escape_stop : ℕ → List ℕ → StringEnd
escape_stop at [] = Unclosed
escape_stop at (b ∷ rest) = InvalidEscape at

-- what stops the units at `at`
unfoldable pub string_stop : ℕ → ℕ → List ℕ → StringEnd
string_stop quote at [] = Unclosed
string_stop quote at (b ∷ rest) =
    if b == quote then Closes (at + 1) else (if b == 92 then escape_stop at rest else Unclosed)

-- the end of a literal whose units stand at `at`
unfoldable pub body_end : ℕ → ℕ → List ℕ → StringEnd
body_end quote at text =
    string_stop quote (units_end (string_unit quote) at 0 text) (units_rest (string_unit quote) 0 text)

-- the end of the literal that stands at `start`
unfoldable pub string_end : ℕ → List ℕ → StringEnd
string_end start [] = Unclosed
string_end start (quote ∷ rest) = body_end quote (start + 1) rest
