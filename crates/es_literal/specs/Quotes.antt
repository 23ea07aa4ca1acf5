-- Text as a string literal in double quotes.
use Rattle.std.specs.Prelude.{ℕ, ◌==◌, List, [], ◌∷◌, ◌++◌, flat_map, if◌then◌else◌}

-- a character between the quotes: a quote, a `\` and the line ends that may not stand there as escapes
unfoldable pub escaped : ℕ → List ℕ
escaped c =
    if c == 34 then 92 ∷ 34 ∷ []
    else (if c == 92 then 92 ∷ 92 ∷ []
    else (if c == 10 then 92 ∷ 110 ∷ []
    else (if c == 13 then 92 ∷ 114 ∷ []
    else c ∷ [])))

-- the literal's characters for those of a text
unfoldable pub quoted : List ℕ → List ℕ
quoted cs = 34 ∷ (flat_map escaped cs ++ 34 ∷ [])
