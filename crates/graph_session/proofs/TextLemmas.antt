-- The text of a URL has a byte at least.
use Rattle.std.proofs.Common.{◌≡◌, ℕ, Bool, true, false, List, [], ◌∷◌, ◌++◌}
use Rattle.std.specs.Prelude.{codes, if◌then◌else◌}
use Rattle.url.specs.Parts.{Parts, has_authority}
use Rattle.graph_entry.specs.Specifier.{text_of}

-- what has a colon in its middle isn't empty
with_colon : (front : List ℕ) (b : Bool) (rest : List ℕ)
    → front ++ ((if b then codes "://" else codes ":") ++ rest) ≡ [] → ⊥
with_colon [] true rest e = absurd cc
with_colon [] false rest e = absurd cc
with_colon (c ∷ front) b rest e = absurd cc

pub has_text : (url : Parts) → text_of url ≡ [] → ⊥
unfolding text_of
has_text url e = with_colon url.scheme (has_authority url) _ e
