-- The write law: what the files read after each call of an atomic write.
use Rattle.std.specs.Prelude.{◌≡◌, ◌≢◌, ◌⊎◌, ℕ, List, [], ◌∷◌, ◌++◌, length, drop, Option, Some, None, Result, Ok, Err}
use Rattle.sys_traits.specs.declared.error.SysError.{SysError}
use Rattle.sys_traits.specs.declared.call.SysCall.{SysCall}
use Rattle.sys_traits.specs.declared.call.SysCallKind.{SysCallKind}
use Rattle.sys_traits.specs.declared.call.SysCallKind.TheVariants.{Canonicalize, CreateDirAll, Exists, Open, WriteAll, Remove, Rename, Random, Sleep}
use Rattle.sys_traits.specs.Paths.{Path, spot}
use Rattle.sys_traits.specs.State.{Files, file_at, Told}
use Rattle.deno_path_util.specs.Course.{Deed, deeds}

-- the calls that the log gained
abbrev pub gained : Told → Told → List SysCall
gained old new = drop (length old.log) new.log

-- the log goes on by these calls, and the current folder stays
pub record HasCalls (Are : List Deed → Type 0) (old new : Told) : Type 0 where
  pub folder : new.folder ≡ old.folder
  pub log : new.log ≡ old.log ++ gained old new
  pub are : Are (deeds (gained old new))

-- each of these calls left the files as they were
abbrev pub EachKeeps : Files → List SysCall → Type 0
EachKeeps files [] = Unit {0}
EachKeeps files (call ∷ rest) = (call.files ≡ files) × EachKeeps files rest

-- no call changed a file
pub record KeepsAll (old new : Told) : Type 0 where
  pub each : EachKeeps old.files (gained old new)
  pub at_last : new.files ≡ old.files

-- the places of the files that a call opens: those of an opening
abbrev pub opened_by : Path → SysCallKind → Path → List Path
opened_by folder Open path = spot folder path ∷ []
opened_by folder _ path = []

-- the places of the files that these calls opened
abbrev pub temporaries : Path → List SysCall → List Path
temporaries folder [] = []
temporaries folder (call ∷ rest) = opened_by folder call.kind call.path ++ temporaries folder rest

-- the path is none of these
abbrev pub IsNone : List Path → Path → Type 0
IsNone [] q = Unit {0}
IsNone (p ∷ rest) q = (q ≢ p) × IsNone rest q

-- the place reads its old content or the data, and every other one but these reads what it did
pub record IsSafe (place : Path) (content : List ℕ) (old : Files) (temporaries : List Path) (files : Files) : Type 0 where
  pub whole : (file_at files place ≡ file_at old place) ⊎ (file_at files place ≡ Some content)
  pub others : (q : Path) → q ≢ place → IsNone temporaries q → file_at files q ≡ file_at old q

-- so it is after each of these calls
abbrev pub EachIsSafe : Path → List ℕ → Files → List Path → List SysCall → Type 0
EachIsSafe place content old temporaries [] = Unit {0}
EachIsSafe place content old temporaries (call ∷ rest) =
    IsSafe place content old temporaries call.files × EachIsSafe place content old temporaries rest

-- what the place reads at the end
abbrev pub content_after : {A : Type 0} → Path → List ℕ → Files → Result A SysError → Option (List ℕ)
content_after place content old (Ok _) = Some content
content_after place content old (Err _) = file_at old place

-- The write law: after each call, and at the end, the path reads its old content or the data, and all others but the
-- temporary files what they did. At the end it reads the data if the write succeeded, and its old content if it didn't.
pub record WriteLaw {A : Type 0} (path : Path) (content : List ℕ) (result : Result A SysError) (old new : Told) : Type 0 where
  pub safe : EachIsSafe (spot old.folder path) content old.files (temporaries old.folder (gained old new)) (gained old new)
  pub safe_at_last : IsSafe (spot old.folder path) content old.files (temporaries old.folder (gained old new)) new.files
  pub at_last : file_at new.files (spot old.folder path) ≡ content_after (spot old.folder path) content old.files result
