-- Where the sites of a text stand after other string literals were put in the places of some of its own, and what they
-- name.
use Rattle.std.specs.Prelude.{◌≡◌, ℕ, List, [], ◌∷◌, map, ◌⊎◌, if◌then◌else◌}
use Rattle.base.specs.declared.range.Range.{Range}
use Rattle.es_literal.specs.Values.{value_of}
use Rattle.es_site.specs.declared.site.Attribute.{Attribute}
use Rattle.es_site.specs.declared.site.Site.{Site}
use Rattle.source_text.specs.declared.text_changes.change.TextChange.{TextChange}
use Rattle.es_law_edits.specs.tokens.Moved.{is_range, moved, range_to}

-- the value of the literal that the change of this range puts there, else the old one
unfoldable pub value_to : List TextChange → Range → List ℕ → List ℕ
value_to [] r value = value
value_to (c ∷ cs) r value = if is_range c.range r then value_of c.new_text else value_to cs r value

pub record SiteMoves (changes : List TextChange) (old new : Site) : Type 0 where
  pub kind : new.kind ≡ old.kind
  pub type_only : new.type_only ≡ old.type_only
  pub range : new.range ≡ range_to (moved changes) old.range
  pub value : new.value ≡ value_to changes old.range old.value

-- they are as many, and each has moved
pub data SitesMove (changes : List TextChange) : List Site → List Site → Type 0 where
  none : SitesMove changes [] []
  one : (old new : Site) (olds news : List Site) → SiteMoves changes old new → SitesMove changes olds news
      → SitesMove changes (old ∷ olds) (new ∷ news)

-- ---- attributes, where the changes are those of sites

-- one of the sites has this range
abbrev pub HasRange : List Site → Range → Type 0
HasRange [] r = ⊥
HasRange (site ∷ sites) r = (site.range ≡ r) ⊎ HasRange sites r

-- each change has the range of a site
abbrev pub AtSites : List Site → List TextChange → Type 0
AtSites sites [] = Unit {0}
AtSites sites (c ∷ cs) = HasRange sites c.range × AtSites sites cs

abbrev pub attributes_of : List Site → List Attribute
attributes_of sites = map (λ (site : Site). site.attribute) sites
