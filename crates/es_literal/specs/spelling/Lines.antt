-- Line ends (ECMA-262, "Line Terminators"): U+000A, U+000D, U+2028, U+2029.
use Rattle.std.specs.Prelude.{ℕ, Bool, false, ◌&&◌, ◌||◌, ◌==◌, List, [], ◌∷◌}

-- the further bytes of U+2028 or U+2029 stand here
unfoldable pub begins_separator : List ℕ → Bool
begins_separator [] = false
begins_separator (b ∷ []) = false
begins_separator (b ∷ c ∷ rest) = b == 128 && (c == 168 || c == 169)

-- a line end stands here
unfoldable pub begins_line_end : List ℕ → Bool
begins_line_end [] = false
begins_line_end (a ∷ rest) = a == 10 || (a == 13 || a == 226 && begins_separator rest)
