-- Regular expressions (ECMA-262, "Regular Expression Literals"): the body behind their first `/`, and the `/` that ends it.
use Rattle.std.specs.Prelude.{◌≡◌, ℕ, ◌+◌, ◌||◌, ◌==◌, List, [], ◌∷◌, ◌++◌, Option, Some, None, if◌then◌else◌}
use Rattle.es_literal.specs.spelling.Units.{concat, AreUnits, units_end, units_rest}
use Rattle.es_literal.specs.spelling.Lines.{begins_line_end}

-- a `\`, before this text, and the byte behind it: a character, but no line end, whose further bytes stand for themselves
unfoldable pub pair_size : List ℕ → ℕ
pair_size [] = 0
pair_size (b ∷ rest) = if begins_line_end (b ∷ rest) then 0 else 2

-- what goes on in a class, up to its `]` (RegularExpressionClassChar)
unfoldable pub class_unit : List ℕ → ℕ
class_unit [] = 0
class_unit (b ∷ rest) =
    if b == 93 || begins_line_end (b ∷ rest) then 0
    else (if b == 92 then pair_size rest
    else 1)

-- the size of a class, so much of it before this text
unfoldable pub class_stop : ℕ → List ℕ → ℕ
class_stop size [] = 0
class_stop size (b ∷ rest) = if b == 93 then size + 1 else 0

-- the size of the class whose `[` stands before this text; 0 where no `]` ends it (RegularExpressionClass)
unfoldable pub class_size : List ℕ → ℕ
class_size text = class_stop (units_end class_unit 1 0 text) (units_rest class_unit 0 text)

-- what goes on in a body: a byte that is no `/`, a pair, or a class, in which `/` may stand (RegularExpressionChar)
unfoldable pub body_unit : List ℕ → ℕ
body_unit [] = 0
body_unit (b ∷ rest) =
    if b == 47 || begins_line_end (b ∷ rest) then 0
    else (if b == 92 then pair_size rest
    else (if b == 91 then class_size rest
    else 1))

-- a body and its `/`
pub record IsBody (s : List ℕ) : Type 0 where
  pub units : List (List ℕ)
  pub each : AreUnits body_unit units (47 ∷ [])
  pub whole : s ≡ concat units ++ 47 ∷ []

-- ---- what the code finds
unfoldable pub body_stop : ℕ → List ℕ → Option ℕ
body_stop at [] = None
body_stop at (b ∷ rest) = if b == 47 then Some (at + 1) else None

-- the place behind the body that stands at `at`, and behind its `/`
unfoldable pub body_end : ℕ → List ℕ → Option ℕ
body_end at text = body_stop (units_end body_unit at 0 text) (units_rest body_unit 0 text)
