-- Where the files of a plan go (this project's profile).
use Rattle.std.specs.Prelude.{◌≡◌, ℕ, nat_eq, Bool, true, false, not, ◌&&◌, List, [], ◌∷◌, ◌++◌, codes, bytes_eq, map, Option, Some, None, option_and_then, if◌then◌else◌}
use Rattle.std.specs.List.{ends_with, list_any, IsDistinct}
use Rattle.std.specs.Str.{is_utf8}
use Rattle.url.specs.Parts.{Parts, has_host}
use Rattle.lexical_path.specs.Paths.{file_name, is_absolute, normal_path}
use Rattle.file_url.specs.ToPath.{decoded_path, with_drive_slash}
use Rattle.sys_traits.specs.Paths.{Path}
use Rattle.vendor_files.specs.declared.file.VendorFile.{VendorFile}
use Rattle.vendor_files.specs.declared.places.Placed.{Placed}
use Rattle.vendor_files.specs.declared.places.Placed.TheVariants.{At, Unfit}

-- the path of a `file:` URL without a host, normalized
abbrev pub path_at : Parts → Option Path
path_at url =
    if bytes_eq url.scheme (codes "file") && not (has_host url) && is_utf8 (decoded_path url)
    then Some (normal_path (with_drive_slash (decoded_path url))) else None

-- a file name, which no temporary file has
abbrev pub is_lasting_name : Option Path → Bool
is_lasting_name (Some name) = not (ends_with nat_eq name (codes ".tmp"))
is_lasting_name None = false

-- the path begins at the root and has a file name, which no temporary file has
unfoldable pub is_lasting : Path → Bool
is_lasting path = is_absolute path && is_lasting_name (file_name path)

-- the path that a file with this new name may go to
unfoldable pub fit_path : Parts → Option Path
fit_path url = option_and_then (λ path. if is_lasting path then Some path else None) (path_at url)

-- the path is one of these
abbrev pub is_one : List Path → Path → Bool
is_one paths path = list_any (bytes_eq path) paths

-- the files go to these paths, of which no two are one
pub record ArePathsOf (files : List VendorFile) (paths : List Path) : Type 0 where
  pub each : map (λ (file : VendorFile). fit_path file.target) files ≡ map Some paths
  pub apart : IsDistinct bytes_eq paths

-- the new name of the first file that can't go where its name says: it has no path to go to, or a file before it goes there
pub record IsFirstUnfit (files : List VendorFile) (target : Parts) : Type 0 where
  pub done : List VendorFile
  pub file : VendorFile
  pub rest : List VendorFile
  pub all : files ≡ done ++ file ∷ rest
  pub is : file.target ≡ target
  pub paths : List Path
  pub placed : ArePathsOf done paths
  pub unfit : (path : Path) → fit_path file.target ≡ Some path → is_one paths path ≡ true

-- where files go, or the first that can't
abbrev pub ArePlaced : List VendorFile → Placed → Type 0
ArePlaced files (At paths) = ArePathsOf files paths.keys
ArePlaced files (Unfit target) = IsFirstUnfit files target

-- a file can go to one path more, or can't
abbrev pub IsNext : List Path → Parts → Bool → List Path → Type 0
IsNext old url true new =
    (path : Path) × (fit_path url ≡ Some path) × (is_one old path ≡ false) × (new ≡ old ++ path ∷ [])
IsNext old url false new = (path : Path) → fit_path url ≡ Some path → is_one old path ≡ true
