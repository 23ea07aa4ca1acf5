-- What the paths of files read behind writes of others.
use Rattle.std.proofs.Common.{◌≡◌, ◌≢◌, ◌∙◌, refl, sym, ap, ap₂, subst, inl, inr, ℕ, Bool, true, false, not, List, [], ◌∷◌, ◌++◌, map, codes, Option, Some, None, IsSome, Result, Ok, Err}
use Rattle.std.specs.Prelude.{nat_eq, bytes_eq, slice_index, option_and_then, ◌&&◌, if◌then◌else◌}
use Rattle.std.specs.List.{ends_with, AllByRecursion, IsDistinct}
use Rattle.std.specs.Path.{slash, path_join, with_separator}
use Rattle.std.specs.Str.{is_utf8}
use Rattle.std.proofs.lemmas.Bool.{cond-true}
use Rattle.std.proofs.lemmas.Slice.Eq.{bytes_eq-Decides, ends_is}
use Rattle.std.proofs.lemmas.Bool.Decides.{Decides-eqb}
use Rattle.std.proofs.lemmas.Map.Keys.{IsDistinct-head, IsDistinct-tail}
use Rattle.url.specs.Parts.{Parts, has_host}
use Rattle.lexical_path.specs.Paths.{file_name, is_absolute, normal_path, path_in}
use Rattle.lexical_path.proofs.Theorems.{normal_path_again}
use Rattle.file_url.specs.ToPath.{decoded_path, with_drive_slash}
use Rattle.sys_traits.specs.declared.error.SysError.{SysError}
use Rattle.sys_traits.specs.Paths.{Path, spot}
use Rattle.sys_traits.specs.State.{Files, file_at, Told}
use Rattle.deno_path_util.specs.Atomic.{IsTemporaryPath}
use Rattle.deno_path_util.specs.WriteLaw.{WriteLaw, HasCalls, IsNone, temporaries, gained}
use Rattle.deno_path_util.specs.Tries.{IsTried}
use Rattle.deno_path_util.proofs.PathLemmas.{elsewhere}
use Rattle.vendor_files.specs.declared.file.VendorFile.{VendorFile}
use Rattle.vendor_files.specs.declared.file.VendorWriteError.{VendorWriteError}
use Rattle.vendor_files.specs.declared.file.VendorWriteError.TheVariants as fault
use Rattle.vendor_files.specs.Places.{path_at, is_lasting, is_lasting_name, fit_path, ArePathsOf}
use Rattle.vendor_files.specs.Written.{Outcome, Writes, WritesAll, IsRefusedAt, IsWritten, HasFile, HaveFiles, KeepsFile, KeepFiles, StandsUpTo, Stands}
use Rattle.vendor_files.proofs.PlaceLemmas.{fit_lasting, fit_named, both}
use Rattle.vendor_files.proofs.OpenLemmas.{opens_tried, none_opened}

-- ---- where a path stands

path_by : (b : Bool) (p path : Path) → (if b then Some p else None) ≡ Some path → path ≡ p
path_by true p path e = let same : p ≡ path = cc in sym same
path_by false p path e = absurd (let bad : ⊥ = cc in bad)

at_by : (o : Option Path) (path : Path)
    → option_and_then (λ (p : Path). if is_lasting p then Some p else None) o ≡ Some path → o ≡ Some path
at_by None path e = absurd (let bad : ⊥ = cc in bad)
at_by (Some p) path e = ap Some (sym (path_by (is_lasting p) p path e))

fit_at : (url : Parts) (path : Path) → fit_path url ≡ Some path → path_at url ≡ Some path
unfolding fit_path
fit_at url path e = at_by (path_at url) path e

fit_normal : (url : Parts) (path : Path) → fit_path url ≡ Some path → normal_path path ≡ path
fit_normal url path e =
    let is : path ≡ normal_path (with_drive_slash (decoded_path url)) =
    path_by (bytes_eq url.scheme (codes "file") && not (has_host url) && is_utf8 (decoded_path url))
    (normal_path (with_drive_slash (decoded_path url))) path (fit_at url path e) in
    ap normal_path is ∙ normal_path_again (with_drive_slash (decoded_path url)) ∙ sym is

lasting_absolute : (path : Path) → is_lasting path ≡ true → is_absolute path ≡ true
unfolding is_lasting
lasting_absolute path e = (both (is_absolute path) (is_lasting_name (file_name path)) e).0

joined_absolute : (folder path : Path) → is_absolute path ≡ true → path_join folder path ≡ path
unfolding path_join
joined_absolute folder path e = cond-true (is_absolute path) path (with_separator folder ++ path) e

spot_fixed : (folder path : Path) → is_absolute path ≡ true → normal_path path ≡ path → spot folder path ≡ path
unfolding spot
spot_fixed folder path e same = ap normal_path (joined_absolute folder path e) ∙ same

fit_spot : (url : Parts) (path : Path) (folder : Path) → fit_path url ≡ Some path → spot folder path ≡ path
fit_spot url path folder e =
    spot_fixed folder path (lasting_absolute path (fit_lasting url path e)) (fit_normal url path e)

-- ---- no temporary file stands there

lasting_name : (name : Path) → is_lasting_name (Some name) ≡ true → (front : List ℕ) → name ≢ front ++ codes ".tmp"
lasting_name name e front same =
    let yes : ends_with nat_eq name (codes ".tmp") ≡ true =
    (ends_is Decides-eqb name (codes ".tmp") (ends_with nat_eq name (codes ".tmp")) refl).1 front same in
    let no : not (ends_with nat_eq name (codes ".tmp")) ≡ true = e in
    absurd (let bad : ⊥ = cc in bad)

name_of : (o : Option Path) → is_lasting_name o ≡ true
    → (name : Path) × (o ≡ Some name) × ((front : List ℕ) → name ≢ front ++ codes ".tmp")
name_of None e = absurd (let bad : ⊥ = cc in bad)
name_of (Some name) e = (name, refl, lasting_name name e)

lasting_named : (path : Path) → is_lasting path ≡ true
    → (name : Path) × (file_name path ≡ Some name) × ((front : List ℕ) → name ≢ front ++ codes ".tmp")
unfolding is_lasting
lasting_named path e = name_of (file_name path) (both (is_absolute path) (is_lasting_name (file_name path)) e).1

apart_temporary : (own other : Parts) (path q : Path) (folder temporary : Path) → fit_path own ≡ Some path
    → fit_path other ≡ Some q → IsTemporaryPath path temporary → spot folder q ≢ spot folder temporary
apart_temporary own other path q folder temporary at fit is same =
    let named = lasting_named q (fit_lasting other q fit) in
    elsewhere path temporary q named.0 (fit_named own path at) is named.1 named.2 folder (sym same)

-- ---- one write keeps the places of other files

place_kept : (mode : ℕ) (file : VendorFile) (result : Outcome) (a b : Told) → Writes mode file result a b
    → (other : Parts) (q : Path) → fit_path other ≡ Some q → (fit_path file.target ≡ Some q → ⊥)
    → file_at b.files (spot a.folder q) ≡ file_at a.files (spot a.folder q)
place_kept mode file result a b w other q fit apart =
    w.law.safe_at_last.others (spot a.folder q)
    (λ same. apart (w.at ∙ ap Some (sym (fit_spot file.target w.path a.folder w.at) ∙ sym same
    ∙ fit_spot other q a.folder fit)))
    (none_opened a.folder w.path (spot a.folder q) (gained a b)
    (opens_tried w.path mode 5 result _ w.calls.are)
    (λ temporary is. apart_temporary file.target other w.path q a.folder temporary w.at fit is))

-- ---- many writes

-- the files go to other paths than this one
abbrev Avoid : Path → List VendorFile → Type 0
Avoid q [] = Unit {0}
Avoid q (file ∷ files) = (fit_path file.target ≡ Some q → ⊥) × Avoid q files

all_folder : (mode : ℕ) (files : List VendorFile) (a b : Told) → WritesAll mode files a b → b.folder ≡ a.folder
all_folder mode [] a b h = ap (λ (t : Told). t.folder) h
all_folder mode (file ∷ files) a b h = all_folder mode files h.0 b h.2 ∙ h.1.calls.folder

all_kept : (mode : ℕ) (files : List VendorFile) (a b : Told) → WritesAll mode files a b → (other : Parts) (q : Path)
    → fit_path other ≡ Some q → Avoid q files
    → file_at b.files (spot a.folder q) ≡ file_at a.files (spot a.folder q)
all_kept mode [] a b h other q fit avoid = ap (λ (t : Told). file_at t.files (spot a.folder q)) h
all_kept mode (file ∷ files) a b h other q fit avoid =
    let rest : file_at b.files (spot a.folder q) ≡ file_at (h.0).files (spot a.folder q) =
    subst (λ (f : Path). file_at b.files (spot f q) ≡ file_at (h.0).files (spot f q)) h.1.calls.folder
    (all_kept mode files h.0 b h.2 other q fit avoid.1) in
    rest ∙ place_kept mode file (Ok tt) a h.0 h.1 other q fit avoid.0

-- each file avoids the paths of those behind it
abbrev pub AllAvoid : List VendorFile → Type 0
AllAvoid [] = Unit {0}
AllAvoid (file ∷ files) = ((q : Path) → fit_path file.target ≡ Some q → Avoid q files) × AllAvoid files

all_have : (mode : ℕ) (files : List VendorFile) (a b : Told) → AllAvoid files → WritesAll mode files a b
    → HaveFiles a.folder b.files files
all_have mode [] a b avoid h = tt
all_have mode (file ∷ files) a b avoid h =
    let w = h.1 in
    let here : file_at (h.0).files (spot a.folder w.path) ≡ Some file.bytes = w.law.at_last in
    let later : file_at b.files (spot a.folder w.path) ≡ file_at (h.0).files (spot a.folder w.path) =
    subst (λ (f : Path). file_at b.files (spot f w.path) ≡ file_at (h.0).files (spot f w.path)) w.calls.folder
    (all_kept mode files h.0 b h.2 file.target w.path w.at (avoid.0 w.path w.at)) in (
      (w.path, w.at, later ∙ here),
      subst (λ (f : Path). HaveFiles f b.files files) w.calls.folder (all_have mode files h.0 b avoid.1 h.2),
    )

-- ---- files that go to different paths

avoid_by : (q : Path) (files : List VendorFile) (paths : List Path)
    → map (λ (f : VendorFile). fit_path f.target) files ≡ map Some paths
    → AllByRecursion (λ (y : Path). bytes_eq q y ≡ false) paths → Avoid q files
avoid_by q [] paths e fresh = tt
avoid_by q (file ∷ files) [] e fresh = absurd (let bad : ⊥ = cc in bad)
avoid_by q (file ∷ files) (p ∷ paths) e fresh =
    let head : fit_path file.target ≡ Some p = cc in
    let tail : map (λ (f : VendorFile). fit_path f.target) files ≡ map Some paths = cc in
    (unlike q p (fit_path file.target) head fresh.0, avoid_by q files paths tail fresh.1)
  where
    unlike : (q p : Path) (o : Option Path) → o ≡ Some p → bytes_eq q p ≡ false → o ≡ Some q → ⊥
    unlike q p o at differ is =
        let both : Some p ≡ Some q = sym at ∙ is in
        let one : q ≡ p = cc in
        let yes : bytes_eq q p ≡ true = (bytes_eq-Decides q p).1 one in
        let bad : true ≡ false = sym yes ∙ differ in cc

all_avoid : (files : List VendorFile) (paths : List Path)
    → map (λ (f : VendorFile). fit_path f.target) files ≡ map Some paths → IsDistinct bytes_eq paths → AllAvoid files
all_avoid [] paths e distinct = tt
all_avoid (file ∷ files) [] e distinct = absurd (let bad : ⊥ = cc in bad)
all_avoid (file ∷ files) (p ∷ paths) e distinct =
    let head : fit_path file.target ≡ Some p = cc in
    let tail : map (λ (f : VendorFile). fit_path f.target) files ≡ map Some paths = cc in (
      one p (fit_path file.target) head (avoid_by p files paths tail (IsDistinct-head bytes_eq p paths distinct)),
      all_avoid files paths tail (IsDistinct-tail bytes_eq p paths distinct),
    )
  where
    one : (p : Path) (o : Option Path) → o ≡ Some p → Avoid p files → (q : Path) → o ≡ Some q → Avoid q files
    one p o at avoid q is =
        let both : Some p ≡ Some q = sym at ∙ is in
        let same : p ≡ q = cc in
        subst (λ (r : Path). Avoid r files) same avoid

avoid_first : (q : Path) (xs ys : List VendorFile) → Avoid q (xs ++ ys) → Avoid q xs
avoid_first q [] ys h = tt
avoid_first q (x ∷ xs) ys h = (h.0, avoid_first q xs ys h.1)

avoid_second : (q : Path) (xs ys : List VendorFile) → Avoid q (xs ++ ys) → Avoid q ys
avoid_second q [] ys h = h
avoid_second q (x ∷ xs) ys h = avoid_second q xs ys h.1

all_front : (done later : List VendorFile) → AllAvoid (done ++ later) → AllAvoid done
all_front [] later h = tt
all_front (d ∷ ds) later h = (λ q f. avoid_first q ds later (h.0 q f), all_front ds later h.1)

all_back : (done later : List VendorFile) → AllAvoid (done ++ later) → AllAvoid later
all_back [] later h = h
all_back (d ∷ ds) later h = all_back ds later h.1

-- the paths of these are avoided by those
abbrev EachAvoided : List VendorFile → List VendorFile → Type 0
EachAvoided done [] = Unit {0}
EachAvoided done (g ∷ gs) = ((q : Path) → fit_path g.target ≡ Some q → Avoid q done) × EachAvoided done gs

each_none : (later : List VendorFile) → EachAvoided [] later
each_none [] = tt
each_none (g ∷ gs) = (λ q e. tt, each_none gs)

each_more : (d : VendorFile) (ds later : List VendorFile) → ((q : Path) → fit_path d.target ≡ Some q → Avoid q later)
    → EachAvoided ds later → EachAvoided (d ∷ ds) later
each_more d ds [] avoid each = tt
each_more d ds (g ∷ gs) avoid each =
    (λ q e. (λ f. (avoid q f).0 e, each.0 q e), each_more d ds gs (λ q f. (avoid q f).1) each.1)

each_of : (done later : List VendorFile) → AllAvoid (done ++ later) → EachAvoided done later
each_of [] later h = each_none later
each_of (d ∷ ds) later h =
    each_more d ds later (λ q f. avoid_second q ds later (h.0 q f)) (each_of ds later h.1)

-- a file whose path those avoid avoids theirs
each_swap : (done : List VendorFile) (g : VendorFile) → ((q : Path) → fit_path g.target ≡ Some q → Avoid q done)
    → EachAvoided (g ∷ []) done
each_swap [] g avoid = tt
each_swap (d ∷ ds) g avoid =
    (λ q e. (λ f. (avoid q f).0 e, tt), each_swap ds g (λ q f. (avoid q f).1))

-- ---- a write that was refused

module _ (mode : ℕ) (done : List VendorFile) (file : VendorFile) (error : SysError) (a m b : Told)
    (written : WritesAll mode done a m) (refused : Writes mode file (Err error) m b) where
  before : (other : Parts) (q : Path) → fit_path other ≡ Some q → Avoid q done
      → file_at b.files (spot a.folder q) ≡ file_at m.files (spot a.folder q)
      → file_at b.files (spot a.folder q) ≡ file_at a.files (spot a.folder q)
  before other q fit avoid last = last ∙ all_kept mode done a m written other q fit avoid

  in_folder : (q : Path) → file_at b.files (spot m.folder q) ≡ file_at m.files (spot m.folder q)
      → file_at b.files (spot a.folder q) ≡ file_at m.files (spot a.folder q)
  in_folder q h =
      subst (λ (f : Path). file_at b.files (spot f q) ≡ file_at m.files (spot f q)) (all_folder mode done a m written) h

  own_kept : ((q : Path) → fit_path file.target ≡ Some q → Avoid q done) → KeepsFile a.folder a.files b.files file
  own_kept avoid q fit =
      let both : Some refused.path ≡ Some q = sym refused.at ∙ fit in
      let same : refused.path ≡ q = cc in
      before file.target q fit (avoid q fit) (in_folder q
      (subst (λ (p : Path). file_at b.files (spot m.folder p) ≡ file_at m.files (spot m.folder p)) same
      refused.law.at_last))

  rest_kept : (rest : List VendorFile) → EachAvoided done rest → EachAvoided (file ∷ []) rest
      → KeepFiles a.folder a.files b.files rest
  rest_kept [] avoid apart = tt
  rest_kept (g ∷ gs) avoid apart = (
    λ q fit. before g.target q fit (avoid.0 q fit) (in_folder q
        (place_kept mode file (Err error) m b refused g.target q fit (apart.0 q fit).0)),
    rest_kept gs avoid.1 apart.1,
  )

stands_at : (mode : ℕ) (files : List VendorFile) (target : Parts) (error : SysError) (a b : Told) → AllAvoid files
    → IsRefusedAt mode files target error a b → StandsUpTo files target a b
stands_at mode files target error a b avoid h =
    let all : AllAvoid (h.done ++ h.file ∷ h.rest) = subst AllAvoid h.all avoid in
    let each : EachAvoided h.done (h.file ∷ h.rest) = each_of h.done (h.file ∷ h.rest) all in
    let back : AllAvoid (h.file ∷ h.rest) = all_back h.done (h.file ∷ h.rest) all in
    let front : HaveFiles a.folder (h.between).files h.done =
    all_have mode h.done a h.between (all_front h.done (h.file ∷ h.rest) all) h.written in
    record {
      done = h.done;
      file = h.file;
      rest = h.rest;
      all = h.all;
      is = h.is;
      written = have_kept h.done (all_front h.done (h.file ∷ h.rest) all) (own_each h.done each) front;
      kept = (
        own_kept mode h.done h.file error a h.between b h.written h.refused each.0,
        rest_kept mode h.done h.file error a h.between b h.written h.refused h.rest each.1
            (each_more h.file [] h.rest back.0 (each_none h.rest)),
      );
    }
  where
    own_each : (done : List VendorFile) → EachAvoided done (h.file ∷ h.rest)
        → EachAvoided (h.file ∷ []) done
    own_each done each = each_swap done h.file (each.0)

    have_kept : (done : List VendorFile) → AllAvoid done → EachAvoided (h.file ∷ []) done
        → HaveFiles a.folder (h.between).files done → HaveFiles a.folder b.files done
    have_kept [] all apart have = tt
    have_kept (g ∷ gs) all apart have =
        let has = have.0 in
        let last : file_at b.files (spot a.folder has.0) ≡ file_at (h.between).files (spot a.folder has.0) =
        in_folder mode h.done h.file error a h.between b h.written h.refused has.0
        (place_kept mode h.file (Err error) h.between b h.refused g.target has.0 has.1 (apart.0 has.0 has.1).0) in
        ((has.0, has.1, last ∙ has.2), have_kept gs all.1 apart.1 have.1)

pub stands : (mode : ℕ) (files : List VendorFile) (paths : List Path) (result : Result (Unit {0}) VendorWriteError)
    (a b : Told) → ArePathsOf files paths → IsWritten files mode result a b → Stands files result a b
stands mode files paths (Ok x) a b so h = all_have mode files a b (all_avoid files paths so.each so.apart) h
stands mode files paths (Err (fault.Path target)) a b so h = h
stands mode files paths (Err (fault.System target error)) a b so h =
    stands_at mode files target error a b (all_avoid files paths so.each so.apart) h
stands mode files paths (Err fault.OutOfMemory) a b so (inl same) = inl same
stands mode files paths (Err fault.OutOfMemory) a b so (inr h) =
    inr (h.0, stands_at mode files h.0 h.1 a b (all_avoid files paths so.each so.apart) h.2)
