-- Characters past ASCII by their bytes: blanks (ECMA-262, "White Space"), line ends ("Line Terminators"), and those
-- that stand in words ("Names and Keywords"), which are all others.
use Rattle.std.specs.Prelude.{ℕ, zero, suc, Bool, not, ◌&&◌, ◌||◌, ◌==◌, nat_le, List, [], ◌∷◌, if◌then◌else◌}

-- U+00A0
unfoldable pub is_blank_of_two : ℕ → ℕ → Bool
is_blank_of_two a b = a == 194 && b == 160

-- the further bytes of U+2000 to U+200A, U+202F and U+205F
unfoldable pub is_space : ℕ → ℕ → Bool
is_space b c = b == 128 && (nat_le 128 c && nat_le c 138 || c == 175) || b == 129 && c == 159

-- those, U+1680, U+3000 and U+FEFF
unfoldable pub is_blank_of_three : ℕ → ℕ → ℕ → Bool
is_blank_of_three a b c =
    a == 226 && is_space b c
    || (a == 225 && (b == 154 && c == 128)
    || (a == 227 && (b == 128 && c == 128) || a == 239 && (b == 187 && c == 191)))

-- U+2028 and U+2029
unfoldable pub is_separator : ℕ → ℕ → ℕ → Bool
is_separator a b c = a == 226 && (b == 128 && (c == 168 || c == 169))

unfoldable pub blank_of_two : ℕ → ℕ → ℕ
blank_of_two a b = if is_blank_of_two a b then 2 else 0

unfoldable pub blank_of_three : ℕ → ℕ → ℕ → ℕ
blank_of_three a b c = if is_blank_of_two a b then 2 else (if is_blank_of_three a b c then 3 else 0)

-- the size of the blank past ASCII that stands here, or 0
unfoldable pub wide_blank : List ℕ → ℕ
wide_blank [] = 0
wide_blank (a ∷ []) = 0
wide_blank (a ∷ b ∷ []) = blank_of_two a b
wide_blank (a ∷ b ∷ c ∷ rest) = blank_of_three a b c

-- the size of the line end past ASCII that stands here, U+2028 or U+2029, or 0
unfoldable pub wide_line : List ℕ → ℕ
wide_line [] = 0
wide_line (a ∷ []) = 0
wide_line (a ∷ b ∷ []) = 0
wide_line (a ∷ b ∷ c ∷ rest) = if is_separator a b c then 3 else 0

-- ---- characters of words
-- a further byte of a character
unfoldable pub is_tail : ℕ → Bool
is_tail b = nat_le 128 b && nat_le b 191

-- how many further bytes a character has that begins so, 0 where none past ASCII does
unfoldable pub tail_of : ℕ → ℕ
tail_of a =
    if nat_le 194 a && nat_le a 223 then 1
    else (if nat_le 224 a && nat_le a 239 then 2
    else (if nat_le 240 a && nat_le a 244 then 3
    else 0))

unfoldable pub two_size : ℕ → List ℕ → ℕ
two_size a [] = 0
two_size a (b ∷ rest) = if is_tail b && not (is_blank_of_two a b) then 2 else 0

unfoldable pub three_size : ℕ → List ℕ → ℕ
three_size a [] = 0
three_size a (b ∷ []) = 0
three_size a (b ∷ c ∷ rest) =
    if is_tail b && (is_tail c && not (is_blank_of_three a b c || is_separator a b c)) then 3 else 0

unfoldable pub four_size : List ℕ → ℕ
four_size [] = 0
four_size (b ∷ []) = 0
four_size (b ∷ c ∷ []) = 0
four_size (b ∷ c ∷ d ∷ rest) = if is_tail b && (is_tail c && is_tail d) then 4 else 0

-- the size of a character that begins so, by how many further bytes it has
unfoldable pub wide_by : ℕ → ℕ → List ℕ → ℕ
wide_by zero a rest = 0
wide_by (suc zero) a rest = two_size a rest
wide_by (suc (suc zero)) a rest = three_size a rest
wide_by (suc (suc (suc n))) a rest = four_size rest

-- the size of the character past ASCII that stands here and may stand in a word, or 0
unfoldable pub wide_size : List ℕ → ℕ
wide_size [] = 0
wide_size (a ∷ rest) = wide_by (tail_of a) a rest
