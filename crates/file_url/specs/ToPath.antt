-- The parent of a URL, and the path of a file URL.
use Rattle.std.specs.Prelude.{◌≡◌, ◌≢◌, ◌⊎◌, ℕ, ◌-◌, nat_lt, Bool, true, false, ◌&&◌, ◌||◌, ◌==◌, List, [], ◌++◌, length, slice_get, slice_index, codes, string_bytes, String, Result, MatchResult, IsUtf8, if◌then◌else◌}
use Rattle.std.specs.List.{list_all}
use Rattle.std.specs.Option.{option_map_or}
use Rattle.std.specs.Char.{is_ascii_alphabetic}
use Rattle.percent_encoding.specs.Percent.{percent_decode}
use Rattle.url.specs.Parts.{Parts, has_host}
pub use Rattle.url.specs.Setters.{set_path}
use Rattle.lexical_path.specs.Paths.{parts, path_of, without_last}
use Rattle.file_url.specs.declared.errors.UrlToFilePathError.{UrlToFilePathError}
use Rattle.file_url.specs.declared.errors.UrlToFilePathError.TheVariants.{Url, OutOfMemory}
use Rattle.file_url.specs.WindowsPaths.{is_empty_part}

-- ---- the parent

-- the last segment is empty
abbrev pub ends_empty : List (List ℕ) → Bool
ends_empty segments = option_map_or is_empty_part (slice_get segments (length segments - 1)) false

-- the segments without an empty last one
abbrev pub without_empty_last : List (List ℕ) → List (List ℕ)
without_empty_last segments = if ends_empty segments then without_last segments else segments

-- the segments without an empty last one and without one more, joined by `/` and with one behind them
abbrev pub parent_path : List (List ℕ) → List ℕ
parent_path segments = path_of false (without_last (without_empty_last segments)) ++ codes "/"

-- all segments are empty
abbrev pub all_empty : List (List ℕ) → Bool
all_empty segments = list_all is_empty_part segments

-- the URL with its parent's path, unless all its segments are empty
unfoldable pub url_parent : Parts → Parts
url_parent url =
    if all_empty (parts url.path) then url else set_path url (parent_path (parts url.path))

-- ---- the path

-- the path that the URL's path decodes to
abbrev pub decoded_path : Parts → List ℕ
decoded_path url = percent_decode url.path

-- the bytes end with a letter and `:` or `|`
abbrev pub ends_with_drive : List ℕ → Bool
ends_with_drive path =
    nat_lt 1 (length path) && is_ascii_alphabetic (slice_index path (length path - 2))
    && (slice_index path (length path - 1) == 58 || slice_index path (length path - 1) == 124)

-- a drive letter at the end has a `/` behind it
abbrev pub with_drive_slash : List ℕ → List ℕ
with_drive_slash path = path ++ (if ends_with_drive path then codes "/" else [])

-- the URL is a file's, has no host, and its path is UTF-8
pub record HasPath (url : Parts) : Type 0 where
  pub file : url.scheme ≡ codes "file"
  pub local : has_host url ≡ false
  pub utf8 : IsUtf8 (decoded_path url)

-- why a URL has no path: one of these fails
abbrev pub LacksPath : Parts → Type 0
LacksPath url = (url.scheme ≢ codes "file") ⊎ ((has_host url ≡ true) ⊎ (¬ IsUtf8 (decoded_path url)))

-- the refusal keeps the URL, where it is none of memory
abbrev pub IsNoPath : Parts → UrlToFilePathError → Type 0
IsNoPath url (Url kept) = (kept ≡ url) × LacksPath url
IsNoPath url OutOfMemory = Unit {0}

-- the URL is kept, unless memory runs out
abbrev pub KeepsUrl : Parts → UrlToFilePathError → Type 0
KeepsUrl url (Url kept) = kept ≡ url
KeepsUrl url OutOfMemory = Unit {0}

-- the path of a URL that has one, or why it has none
abbrev pub IsPathOf : {A : Type 0} → Parts → Result (String A) UrlToFilePathError → Type 0
IsPathOf url answer =
    MatchResult answer (λ path. HasPath url × (string_bytes path ≡ with_drive_slash (decoded_path url)))
    (IsNoPath url)
