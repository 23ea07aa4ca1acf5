-- When parts of a text stand in order: by their ranges, or on tokens.
use Rattle.std.specs.Prelude.{◌≡◌, ℕ, ◌+◌, ◌≤◌, ◌<◌, List, [], ◌∷◌, Some, slice_get}
use Rattle.base.specs.declared.range.Range.{Range}
use Rattle.es_token.specs.declared.token.Token.{Token}
use Rattle.es_site.specs.declared.site.Site.{Site}

-- no range is empty, and each ends where any later one starts, or before
pub record Ascend {X : Type 0} (range_of : X → Range) (xs : List X) : Type 0 where
  pub filled : (n : ℕ) (x : X) → slice_get xs n ≡ Some x → (range_of x).start < (range_of x).end
  pub apart : (m n : ℕ) (x y : X) → m < n → slice_get xs m ≡ Some x → slice_get xs n ≡ Some y
      → (range_of x).end ≤ (range_of y).start

abbrev pub token_range : Token → Range
token_range t = t.range

abbrev pub site_range : Site → Range
site_range site = site.range

-- each site has the range of a token of its own, in the order of the tokens, from one number up to another
abbrev pub StandOn : List Token → ℕ → ℕ → List Site → Type 0
StandOn ts from to [] = from ≤ to
StandOn ts from to (site ∷ sites) =
    (n : ℕ) × (t : Token) × (from ≤ n) × (slice_get ts n ≡ Some t) × (site.range ≡ t.range) × StandOn ts (n + 1) to sites
