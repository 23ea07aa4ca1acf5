-- The text of templates (ECMA-262, "Template Literal Lexical Components"). Escapes aren't read.
use Rattle.std.specs.Prelude.{◌≡◌, ℕ, ◌+◌, Bool, false, ◌&&◌, ◌==◌, List, [], ◌∷◌, ◌++◌, if◌then◌else◌, ◌⊎◌}
use Rattle.es_literal.specs.declared.spelling.template.TemplateEnd.{TemplateEnd}
use Rattle.es_literal.specs.declared.spelling.template.TemplateEnd.TheVariants.{Closes, Substitutes, Unclosed}
use Rattle.es_literal.specs.spelling.Units.{concat, AreUnits, units_end, units_rest}

-- `{` stands here
unfoldable pub begins_brace : List ℕ → Bool
begins_brace [] = false
begins_brace (b ∷ rest) = b == 123

-- a `\` and the byte behind it
unfoldable pub pair_size : List ℕ → ℕ
pair_size [] = 0
pair_size (b ∷ rest) = 2

-- a `\` takes the next byte along; outside such pairs neither `` ` `` nor `${` stands
unfoldable pub template_unit : List ℕ → ℕ
template_unit [] = 0
template_unit (b ∷ rest) =
    if b == 96 then 0
    else (if b == 92 then pair_size rest
    else (if b == 36 && begins_brace rest then 0
    else 1))

-- a body, and what ends it: `` ` ``, or `${`
pub record IsTemplateText (end s : List ℕ) : Type 0 where
  pub units : List (List ℕ)
  pub each : AreUnits template_unit units end
  pub whole : s ≡ concat units ++ end

-- a text that no `` ` `` and no `${` ends: a `\` may be its last byte
pub record IsUnclosed (s : List ℕ) : Type 0 where
  pub units : List (List ℕ)
  pub back : List ℕ
  pub each : AreUnits template_unit units back
  pub whole : s ≡ concat units ++ back
  pub ends : back ≡ [] ⊎ back ≡ 92 ∷ []

-- ---- what the code finds
-- what ends the text at `at`
unfoldable pub template_stop : ℕ → List ℕ → TemplateEnd
template_stop at [] = Unclosed
template_stop at (b ∷ rest) =
    if b == 96 then Closes (at + 1) else (if b == 36 && begins_brace rest then Substitutes (at + 2) else Unclosed)

-- the end of the text that stands at `at`
unfoldable pub template_end : ℕ → List ℕ → TemplateEnd
template_end at text = template_stop (units_end template_unit at 0 text) (units_rest template_unit 0 text)
