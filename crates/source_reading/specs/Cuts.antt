-- What the range of a site cuts from the text.
use Rattle.std.specs.Prelude.{◌≡◌, ℕ, ◌≤◌, List, [], ◌∷◌, ◌++◌, length, slice_range, ◌⊎◌}
use Rattle.base.specs.declared.range.Range.{Range}
use Rattle.es_site.specs.Sites.{CutsLiteral}

-- the range cuts a quote, the value and the same quote
pub record CutsReference (text : List ℕ) (range : Range) (value : List ℕ) : Type 0 where
  pub quote : ℕ
  pub is_quote : (quote ≡ 34) ⊎ (quote ≡ 39)
  pub order : range.start ≤ range.end
  pub within : range.end ≤ length text
  pub cut : slice_range text range.start range.end ≡ quote ∷ value ++ quote ∷ []

-- it cuts a string literal with this value, or the value of a reference comment
abbrev pub Cuts : List ℕ → Range → List ℕ → Type 0
Cuts text range value = CutsLiteral text range value ⊎ CutsReference text range value
