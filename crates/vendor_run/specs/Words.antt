-- The words that name a folder (this project's profile).
use Rattle.std.specs.Prelude.{◌≡◌, ℕ, nat_eq, List, [], ◌∷◌, codes, None, Ok, true}
use Rattle.std.specs.List.{ends_with}
use Rattle.url.specs.Parts.{Parts}
use Rattle.url.specs.Parser.{parse_url}

-- the URL is that of a folder: a `file:` URL without query and fragment, whose path ends with `/`
pub record IsFolder (url : Parts) : Type 0 where
  pub file : url.scheme ≡ codes "file"
  pub query : url.query ≡ None
  pub fragment : url.fragment ≡ None
  pub ends : ends_with nat_eq url.path (codes "/") ≡ true

-- the words are `vendor` and this one
abbrev pub NamesFolder : List ℕ → List (List ℕ) → Type 0
NamesFolder word words = words ≡ codes "vendor" ∷ word ∷ []

-- the words are `vendor` and the URL of this folder (URL Standard, "URL parsing")
abbrev pub IsVendor : Parts → List (List ℕ) → Type 0
IsVendor base words =
    (word : List ℕ) × NamesFolder word words × (parse_url None word ≡ Ok base) × IsFolder base
