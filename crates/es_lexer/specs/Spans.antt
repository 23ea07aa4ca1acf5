-- What the functions of the crate promise each other: a number that is told by its decimal digits alone.
use Rattle.std.specs.Prelude.{ℕ, ◌+◌, ◌||◌, ◌==◌, List, [], ◌∷◌, Option, Some, None, if◌then◌else◌}
use Rattle.std.specs.Char.{is_ascii_digit}
use Rattle.es_lexer.specs.Bytes.{is_part}

-- the place behind decimal digits, where nothing stands there with which a number may go on
unfoldable pub plain_stop : ℕ → List ℕ → Option ℕ
plain_stop at [] = Some at
plain_stop at (b ∷ rest) =
    if is_ascii_digit b then plain_stop (at + 1) rest
    else (if b == 46 || is_part b then None else Some at)
