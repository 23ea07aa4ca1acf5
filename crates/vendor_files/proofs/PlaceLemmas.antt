-- Where files go, one after the other.
use Rattle.std.proofs.Common.{inl, inr, ◌≡◌, ◌∙◌, refl, sym, ap, ap₂, subst, ℕ, zero, suc, ◌+◌, ◌<◌, Bool, true, false, List, [], ◌∷◌, ◌++◌, map, length, take, drop, get_or, take-append-drop, arith, Option, Some, None, IsSome}
use Rattle.std.specs.Prelude.{◌&&◌, not, nat_eq, codes, bytes_eq, is_some, option_and_then, if◌then◌else◌, IsUtf8}
use Rattle.std.specs.List.{ends_with, list_any, IsDistinct}
use Rattle.std.specs.Str.{is_utf8}
use Rattle.std.specs.Cmp.Lexicographic.{nat_list_eq_equiv}
use Rattle.std.proofs.lemmas.List.{take_more, drop_more, map-append}
use Rattle.std.proofs.lemmas.Map.Keys.{IsDistinct-push}
use Rattle.std.proofs.lemmas.Slice.Eq.{bytes_eq-Decides}
use Rattle.std.proofs.lemmas.Str.{is_utf8-from_IsUtf8, IsUtf8-from_is_utf8}
use Rattle.url.specs.Parts.{Parts, has_host}
use Rattle.lexical_path.specs.Paths.{file_name, is_absolute, normal_path}
use Rattle.file_url.specs.ToPath.{decoded_path, with_drive_slash, HasPath, LacksPath}
use Rattle.sys_traits.specs.Paths.{Path}
use Rattle.vendor_files.specs.declared.file.VendorFile.{VendorFile}
use Rattle.vendor_files.specs.Places.{path_at, is_lasting, is_lasting_name, fit_path, is_one, ArePathsOf, IsFirstUnfit}

-- ---- the path of a URL

all_three : (a b c : Bool) → a ≡ true → b ≡ false → c ≡ true → (a && not b && c) ≡ true
all_three true false true e f g = refl
all_three false b c e f g = absurd (let bad : ⊥ = cc in bad)
all_three true true c e f g = absurd (let bad : ⊥ = cc in bad)
all_three true false false e f g = absurd (let bad : ⊥ = cc in bad)

pub path_is : (url : Parts) → HasPath url → path_at url ≡ Some (normal_path (with_drive_slash (decoded_path url)))
path_is url h =
    ap (λ (b : Bool). if b then Some (normal_path (with_drive_slash (decoded_path url))) else None)
    (all_three (bytes_eq url.scheme (codes "file")) (has_host url) (is_utf8 (decoded_path url))
    ((bytes_eq-Decides url.scheme (codes "file")).1 h.file) h.local (is_utf8-from_IsUtf8 (decoded_path url) h.utf8))

-- where one of the three fails there is none
no_first : (a b c : Bool) → a ≡ false → (a && not b && c) ≡ false
no_first false b c e = refl
no_first true b c e = absurd (let bad : ⊥ = cc in bad)

no_second : (a b c : Bool) → b ≡ true → (a && not b && c) ≡ false
no_second false b c e = refl
no_second true true c e = refl
no_second true false c e = absurd (let bad : ⊥ = cc in bad)

no_third : (a b c : Bool) → c ≡ false → (a && not b && c) ≡ false
no_third false b c e = refl
no_third true true c e = refl
no_third true false false e = refl
no_third true false true e = absurd (let bad : ⊥ = cc in bad)

not_yes : (b : Bool) → (b ≡ true → ⊥) → b ≡ false
not_yes true h = absurd (h refl)
not_yes false h = refl

path_none_by : (url : Parts)
    → (bytes_eq url.scheme (codes "file") && not (has_host url) && is_utf8 (decoded_path url)) ≡ false
    → path_at url ≡ None
path_none_by url e =
    ap (λ (b : Bool). if b then Some (normal_path (with_drive_slash (decoded_path url))) else None) e

pub path_none : (url : Parts) → LacksPath url → path_at url ≡ None
path_none url (inl other) =
    path_none_by url (no_first (bytes_eq url.scheme (codes "file")) (has_host url) (is_utf8 (decoded_path url))
    (not_yes _ (λ yes. other ((bytes_eq-Decides url.scheme (codes "file")).0 yes))))
path_none url (inr (inl host)) =
    path_none_by url (no_second (bytes_eq url.scheme (codes "file")) (has_host url) (is_utf8 (decoded_path url)) host)
path_none url (inr (inr broken)) =
    path_none_by url (no_third (bytes_eq url.scheme (codes "file")) (has_host url) (is_utf8 (decoded_path url))
    (not_yes _ (λ yes. broken (IsUtf8-from_is_utf8 (decoded_path url) yes))))

-- ---- a path that a file may go to

fit_by : (o : Option Path) (path : Path)
    → option_and_then (λ (p : Path). if is_lasting p then Some p else None) o ≡ Some path → is_lasting path ≡ true
fit_by None path e = absurd (let bad : ⊥ = cc in bad)
fit_by (Some p) path e = by (is_lasting p) refl e
  where
    by : (b : Bool) → is_lasting p ≡ b → (if b then Some p else None) ≡ Some path → is_lasting path ≡ true
    by true is same = let one : p ≡ path = cc in ap is_lasting (sym one) ∙ is
    by false is same = absurd (let bad : ⊥ = cc in bad)

pub fit_lasting : (url : Parts) (path : Path) → fit_path url ≡ Some path → is_lasting path ≡ true
unfolding fit_path
fit_lasting url path e = fit_by (path_at url) path e

pub both : (a b : Bool) → (a && b) ≡ true → (a ≡ true) × (b ≡ true)
both true true e = (refl, refl)
both true false e = absurd (let bad : ⊥ = cc in bad)
both false b e = absurd (let bad : ⊥ = cc in bad)

named : (o : Option Path) → is_lasting_name o ≡ true → IsSome o
named None e = absurd (let bad : ⊥ = cc in bad)
named (Some name) e = refl

lasting_named : (path : Path) → is_lasting path ≡ true → IsSome (file_name path)
unfolding is_lasting
lasting_named path e = named (file_name path) (both (is_absolute path) (is_lasting_name (file_name path)) e).1

pub fit_named : (url : Parts) (path : Path) → fit_path url ≡ Some path → IsSome (file_name path)
fit_named url path e = lasting_named path (fit_lasting url path e)

-- ---- one file more

pub placed_none : ArePathsOf [] []
unfolding IsDistinct
placed_none = record { each = refl; apart = tt }

pub placed_more : (files : List VendorFile) (n : ℕ) (file other : VendorFile) (old new : List Path) (path : Path)
    → n < length files → file ≡ get_or files n other → ArePathsOf (take n files) old
    → fit_path file.target ≡ Some path → is_one old path ≡ false → new ≡ old ++ path ∷ []
    → ArePathsOf (take (n + 1) files) new
placed_more files n file other old new path inside here so at fresh grown =
    let front : take (n + 1) files ≡ take n files ++ file ∷ [] =
    take_more files n other inside ∙ ap (λ (x : VendorFile). take n files ++ x ∷ []) (sym here) in
    let mapped : map (λ (f : VendorFile). fit_path f.target) (take n files ++ file ∷ []) ≡ map Some (old ++ path ∷ []) =
    map-append (λ (f : VendorFile). fit_path f.target) (take n files) (file ∷ [])
    ∙ ap₂ (λ (xs ys : List (Option Path)). xs ++ ys) so.each (ap (λ (o : Option Path). o ∷ []) at)
    ∙ sym (map-append Some old (path ∷ [])) in
    let all : ArePathsOf (take n files ++ file ∷ []) (old ++ path ∷ []) = record {
      each = mapped;
      apart = IsDistinct-push nat_list_eq_equiv old path so.apart fresh;
    } in
    subst (λ (ps : List Path). ArePathsOf (take (n + 1) files) ps) (sym grown)
    (subst (λ (fs : List VendorFile). ArePathsOf fs (old ++ path ∷ [])) (sym front) all)

pub unfit_here : (files : List VendorFile) (n : ℕ) (file other : VendorFile) (paths : List Path) (target : Parts)
    → n < length files → file ≡ get_or files n other → ArePathsOf (take n files) paths
    → ((path : Path) → fit_path file.target ≡ Some path → is_one paths path ≡ true) → target ≡ file.target
    → IsFirstUnfit files target
unfit_here files n file other paths target inside here so never is = record {
  done = take n files;
  file = file;
  rest = drop (n + 1) files;
  all = sym (take-append-drop n files)
      ∙ ap (λ (fs : List VendorFile). take n files ++ fs) (drop_more files n other inside
      ∙ ap (λ (f : VendorFile). f ∷ drop (n + 1) files) (sym here));
  is = sym is;
  paths = paths;
  placed = so;
  unfit = never;
}

-- ---- the path of a file

pub path_of_file : (files : List VendorFile) (paths : List Path) (n : ℕ) (file : VendorFile) (path : Path)
    → map (λ (f : VendorFile). fit_path f.target) files ≡ map Some paths → n < length files
    → fit_path (get_or files n file).target ≡ Some (get_or paths n path)
path_of_file [] paths n file path e inside = absurd (omega (arith, inside))
path_of_file (f ∷ files) [] n file path e inside = absurd (let bad : ⊥ = cc in bad)
path_of_file (f ∷ files) (p ∷ paths) zero file path e inside = let head : fit_path f.target ≡ Some p = cc in head
path_of_file (f ∷ files) (p ∷ paths) (suc n) file path e inside =
    let tail : map (λ (f : VendorFile). fit_path f.target) files ≡ map Some paths = cc in
    path_of_file files paths n file path tail (omega (arith, inside))

-- and it has a file name
pub fits_at : (files : List VendorFile) (paths : List Path) (n : ℕ) (file : VendorFile) (path now : Path)
    → map (λ (f : VendorFile). fit_path f.target) files ≡ map Some paths → n < length files
    → file ≡ get_or files n file → now ≡ path → path ≡ get_or paths n path → fit_path file.target ≡ Some now
fits_at files paths n file path now e inside here same there =
    ap (λ (f : VendorFile). fit_path f.target) here ∙ path_of_file files paths n file path e inside
    ∙ ap Some (sym there ∙ sym same)

pub named_at : (files : List VendorFile) (paths : List Path) (n : ℕ) (file : VendorFile) (path now : Path)
    → map (λ (f : VendorFile). fit_path f.target) files ≡ map Some paths → n < length files
    → now ≡ path → path ≡ get_or paths n path → IsSome (file_name now)
named_at files paths n file path now e inside same there =
    fit_named (get_or files n file).target now
    (path_of_file files paths n file path e inside ∙ ap Some (sym there ∙ sym same))
