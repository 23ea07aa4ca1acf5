-- A system in memory: from what a call exactly does to what its trait promises of the files.
use Rattle.std.proofs.Common.{◌≡◌, ◌≢◌, ℕ, Bool, true, false, cond, List, [], ◌∷◌, ◌++◌, refl, sym, ap, subst, ◌∙◌, Some, None, Ok, Err, Result, Option, nat_cmp}
use Rattle.std.specs.Prelude.{bytes_eq, not, is_some, unwrap_or}
use Rattle.std.specs.Cmp.Lexicographic.{slice_cmp, nat_list_cmp_total, texts_ties, bytes_decides}
use Rattle.std.specs.FinMap.{slice_cmp-IsAntisymmetric, nat_cmp-IsAntisymmetric}
use Rattle.std.specs.FinMap.Entries.{find-put, find-where_key}
use Rattle.std.specs.declared.cmp.Ordering.TheVariants.{Equal}
use Rattle.std.specs.declared.alloc.AllocError.{AllocError}
use Rattle.sys_traits.specs.declared.error.SysErrorKind.{SysErrorKind}
use Rattle.sys_traits.specs.declared.error.SysErrorKind.TheVariants.{NotFound, Failed, OutOfMemory}
use Rattle.sys_traits.specs.declared.error.SysError.{SysError}
use Rattle.sys_traits.specs.declared.call.SysCall.{SysCall}
use Rattle.sys_traits.specs.declared.place.Place.{Place}
use Rattle.sys_traits.specs.declared.place.Place.TheVariants as places
use Rattle.sys_traits.specs.declared.place.Need.TheVariants as needs
use Rattle.sys_traits.specs.declared.call.SysCallKind.TheVariants.{Open, WriteAll, Remove, Rename}
use Rattle.sys_traits.specs.Paths.{Path, spot, parent_of}
use Rattle.sys_traits.specs.State.{Files, file_at, IsCall, refusal_of}
use Rattle.sys_traits.specs.Calls.{Change, Ends, KeepsFiles, TouchesFile, SetsFile, MovesFile, Opened, Written, Removed, Renamed}
use Rattle.sys_traits.specs.Files.{with_file, without_file, moved_file}
use Rattle.sys_traits.specs.Memory.{Memory, Answered, logged, told_of, unless_refused, first_refusal, refusal_in, refusal_at, is_listed, place_of, files_written, half, is_blocked, is_folder, opening, writing, removing, renaming}
use Rattle.sys_traits.specs.Steps.{Ran, Drafts}

-- ---- drafts

-- a draft that took place is answered as the call
pub answered : {V : Type 0} (drafted : Result (SysCall × V) AllocError) (call : SysCall) (P : V → Type 0)
    (result : Result V SysError) (old new : Memory)
    → Drafts drafted call P → Ran drafted result old new → Answered call (logged old call) (refusal_of result) old new
answered (Ok draft) call P result old new is ran =
    subst (λ (c : SysCall). Answered c (logged old c) (refusal_of result) old new) is.0 ran.0
answered (Err _) call P result old new is ran =
    subst (λ (r : Option SysErrorKind). Answered call (logged old call) r old new) (sym ran.0) ran.1

-- ---- reading lists of files

other_path : (q p : Path) → q ≢ p → bytes_eq q p ≡ false
other_path q p apart =
    elim (bytes_eq q p) as
    (λ b. bytes_eq q p ≡ b → bytes_eq q p ≡ false)
    [ true ↦ λ is. absurd (apart ((bytes_decides q p).0 is)) | false ↦ λ is. is ] refl

-- a file that is put is there, and no other one changes
pub there-with_file : (files : Files) (p : Path) (bytes : List ℕ) → file_at (with_file files p bytes) p ≡ Some bytes
there-with_file files p bytes =
    find-put (slice_cmp nat_cmp) nat_list_cmp_total p p bytes files
    ∙ ap (λ b. cond b (Some bytes) (file_at files p)) (sym (texts_ties p p) ∙ (bytes_decides p p).1 refl)

pub others-with_file : (files : Files) (p : Path) (bytes : List ℕ) (q : Path) → q ≢ p
    → file_at (with_file files p bytes) q ≡ file_at files q
others-with_file files p bytes q apart =
    find-put (slice_cmp nat_cmp) nat_list_cmp_total q p bytes files
    ∙ ap (λ b. cond b (Some bytes) (file_at files q)) (sym (texts_ties q p) ∙ other_path q p apart)

-- a file that is taken away isn't there, and no other one changes
alike : (p q x : Path) → slice_cmp nat_cmp q x ≡ Equal → not (bytes_eq x p) ≡ not (bytes_eq q p)
alike p q x tie = ap (λ y. not (bytes_eq y p)) (sym (slice_cmp-IsAntisymmetric nat_cmp-IsAntisymmetric q x tie))

pub there-without_file : (files : Files) (p : Path) → file_at (without_file files p) p ≡ None
there-without_file files p =
    find-where_key (slice_cmp nat_cmp) (λ x. not (bytes_eq x p)) p (alike p p) files
    ∙ ap (λ b. cond (not b) (file_at files p) None) ((bytes_decides p p).1 refl)

pub others-without_file : (files : Files) (p : Path) (q : Path) → q ≢ p
    → file_at (without_file files p) q ≡ file_at files q
others-without_file files p q apart =
    find-where_key (slice_cmp nat_cmp) (λ x. not (bytes_eq x p)) q (alike p q) files
    ∙ ap (λ b. cond (not b) (file_at files q) None) (other_path q p apart)

-- ---- what is told after a call

-- the call changed the files so
pub ended : (call : Option SysErrorKind → Change) (done refused : Change) (given : Option SysErrorKind) (c : SysCall)
    (m n : Memory)
    → ((r : Option SysErrorKind) → c.refusal ≡ r → call r (told_of m) (told_of (logged m c)))
    → (c.refusal ≡ None → done (told_of m) (told_of (logged m c)))
    → ((k : SysErrorKind) → c.refusal ≡ Some k → refused (told_of m) (told_of (logged m c)))
    → Answered c (logged m c) given m n → Ends call done refused given (told_of m) (told_of n)
ended call done refused None c m n is did left a =
    subst (λ (x : Memory). call None (told_of m) (told_of x) × done (told_of m) (told_of x)) (sym a.1)
    (is None a.0, did a.0)
ended call done refused (Some NotFound) c m n is did left a =
    subst (λ (x : Memory). call (Some NotFound) (told_of m) (told_of x) × refused (told_of m) (told_of x)) (sym a.1)
    (is (Some NotFound) a.0, left NotFound a.0)
ended call done refused (Some Failed) c m n is did left a =
    subst (λ (x : Memory). call (Some Failed) (told_of m) (told_of x) × refused (told_of m) (told_of x)) (sym a.1)
    (is (Some Failed) a.0, left Failed a.0)
ended call done refused (Some OutOfMemory) c m n is did left a = ap told_of a

-- a changed value is there where the call isn't refused, and else the one before
when_done : {A : Type 0} (r : Option SysErrorKind) (done refused : A) → r ≡ None → unless_refused r done refused ≡ done
when_done r done refused is = ap (λ r. unless_refused r done refused) is

when_refused : {A : Type 0} (r : Option SysErrorKind) (k : SysErrorKind) (done refused : A) → r ≡ Some k
    → unless_refused r done refused ≡ refused
when_refused r k done refused is = ap (λ r. unless_refused r done refused) is

pub opened : (m n : Memory) (path : Path) (mode : ℕ) (given : Option SysErrorKind)
    → Answered (opening m path mode) (logged m (opening m path mode)) given m n
    → Opened path mode given (told_of m) (told_of n)
opened m n path mode given a =
    let at : Path = spot m.folder path in
    let refusal : Option SysErrorKind = refusal_in m needs.Room at in
    ended (IsCall Open path None mode) (SetsFile path (Some [])) KeepsFiles given (opening m path mode) m n
    (λ r is. record {
      folder = refl;
      log =
          ap (λ (k : Option SysErrorKind). m.log ++ record (opening m path mode) { refusal = k } ∷ []) is;
    })
    (λ is.
    let files : unless_refused refusal (with_file m.files at []) m.files ≡ with_file m.files at [] =
    when_done refusal _ _ is in
    record {
      there = ap (λ (fs : Files). file_at fs at) files ∙ there-with_file m.files at [];
      others = λ q apart. ap (λ (fs : Files). file_at fs q) files ∙ others-with_file m.files at [] q apart;
    })
    (λ k is. when_refused refusal k _ _ is)
    a

-- a call that needs a file and isn't refused has a number that isn't listed, and finds the file
found_file : (b : Bool) (place : Place) → cond b (Some Failed) (refusal_at needs.File place) ≡ None
    → (b ≡ false) × (place ≡ places.File)
found_file true place is = absurd cc
found_file false places.File is = (refl, refl)
found_file false places.Folder is = absurd cc
found_file false places.Free is = absurd cc
found_file false places.Missing is = absurd cc
found_file false places.Blocked is = absurd cc

touched : (m : Memory) (at : Path) (bytes : List ℕ) (place : Place) (q : Path) → q ≢ at
    → file_at (files_written m at bytes place) q ≡ file_at m.files q
touched m at bytes places.File q apart = others-with_file m.files at _ q apart
touched m at bytes places.Folder q apart = refl
touched m at bytes places.Free q apart = refl
touched m at bytes places.Missing q apart = refl
touched m at bytes places.Blocked q apart = refl

pub written : (m n : Memory) (path : Path) (bytes : List ℕ) (given : Option SysErrorKind)
    → Answered (writing m path bytes) (logged m (writing m path bytes)) given m n
    → Written path bytes given (told_of m) (told_of n)
written m n path bytes given a =
    let at : Path = spot m.folder path in
    let place : Place = place_of m.files m.made at in
    ended (IsCall WriteAll path None 0) (SetsFile path (Some bytes)) (TouchesFile path) given (writing m path bytes) m n
    (λ r is. record {
      folder = refl;
      log =
          ap (λ (k : Option SysErrorKind). m.log ++ record (writing m path bytes) { refusal = k } ∷ []) is;
    })
    (λ is.
    let found : (is_listed m ≡ false) × (place ≡ places.File) = found_file (is_listed m) place is in
    let files : files_written m at bytes place ≡ with_file m.files at bytes =
    ap (files_written m at bytes) found.1 ∙ ap (λ b. with_file m.files at (cond b (half bytes) bytes)) found.0 in
    record {
      there = ap (λ (fs : Files). file_at fs at) files ∙ there-with_file m.files at bytes;
      others = touched m at bytes place;
    })
    (λ k is. touched m at bytes place)
    a

pub removed : (m n : Memory) (path : Path) (given : Option SysErrorKind)
    → Answered (removing m path) (logged m (removing m path)) given m n → Removed path given (told_of m) (told_of n)
removed m n path given a =
    let at : Path = spot m.folder path in
    let refusal : Option SysErrorKind = refusal_in m needs.File at in
    ended (IsCall Remove path None 0) (SetsFile path None) KeepsFiles given (removing m path) m n
    (λ r is. record {
      folder = refl;
      log =
          ap (λ (k : Option SysErrorKind). m.log ++ record (removing m path) { refusal = k } ∷ []) is;
    })
    (λ is.
    let files : unless_refused refusal (without_file m.files at) m.files ≡ without_file m.files at =
    when_done refusal _ _ is in
    record {
      there = ap (λ (fs : Files). file_at fs at) files ∙ there-without_file m.files at;
      others = λ q apart. ap (λ (fs : Files). file_at fs q) files ∙ others-without_file m.files at q apart;
    })
    (λ k is. when_refused refusal k _ _ is)
    a

-- where a file is found there is one
has_file : (blocked folder file free : Bool)
    → cond blocked places.Blocked
    (cond folder places.Folder (cond file places.File (cond free places.Free places.Missing))) ≡ places.File
    → file ≡ true
has_file true folder file free is = absurd cc
has_file false true file free is = absurd cc
has_file false false true free is = refl
has_file false false false true is = absurd cc
has_file false false false false is = absurd cc

its_content : (o : Option (List ℕ)) → is_some o ≡ true → Some (unwrap_or o []) ≡ o
its_content None is = absurd cc
its_content (Some bytes) is = refl

first_none : (first second : Option SysErrorKind) → first_refusal first second ≡ None → first ≡ None
first_none None second is = refl
first_none (Some kind) second is = absurd cc

pub renamed : (m n : Memory) (from to : Path) (given : Option SysErrorKind)
    → Answered (renaming m from to) (logged m (renaming m from to)) given m n
    → Renamed from to given (told_of m) (told_of n)
renamed m n from to given a =
    let source : Path = spot m.folder from in
    let target : Path = spot m.folder to in
    let place : Place = place_of m.files m.made source in
    let first : Option SysErrorKind = refusal_in m needs.File source in
    let refusal : Option SysErrorKind = first_refusal first (refusal_in m needs.Room target) in
    let content : List ℕ = unwrap_or (file_at m.files source) [] in
    ended (IsCall Rename from (Some to) 0) (MovesFile from to) KeepsFiles given (renaming m from to) m n
    (λ r is. record {
      folder = refl;
      log =
          ap (λ (k : Option SysErrorKind). m.log ++ record (renaming m from to) { refusal = k } ∷ []) is;
    })
    (λ is.
    let found : (is_listed m ≡ false) × (place ≡ places.File) =
    found_file (is_listed m) place (first_none first (refusal_in m needs.Room target) is) in
    let there : is_some (file_at m.files source) ≡ true =
    has_file (is_blocked m.files source) (is_folder m.made source) (is_some (file_at m.files source))
    (is_folder m.made (parent_of source)) found.1 in
    let files : unless_refused refusal (moved_file m.files source target) m.files ≡ moved_file m.files source target =
    when_done refusal _ _ is in
    record {
      there = ap (λ (fs : Files). file_at fs target) files
          ∙ there-with_file (without_file m.files source) target content ∙ its_content (file_at m.files source) there;
      gone = λ apart. ap (λ (fs : Files). file_at fs source) files
          ∙ others-with_file (without_file m.files source) target content source apart
          ∙ there-without_file m.files source;
      others = λ q off_source off_target. ap (λ (fs : Files). file_at fs q) files
          ∙ others-with_file (without_file m.files source) target content q off_target
          ∙ others-without_file m.files source q off_source;
    })
    (λ k is. when_refused refusal k _ _ is)
    a
