-- The files of a plan, written one after the other (this project's profile).
use Rattle.std.specs.Prelude.{◌≡◌, ◌≢◌, ◌⊎◌, ℕ, ◌≤◌, List, [], ◌∷◌, ◌++◌, take, slice_get, Option, Some, None, Result, Ok, Err}
use Rattle.url.specs.Parts.{Parts}
use Rattle.sys_traits.specs.declared.error.SysError.{SysError}
use Rattle.sys_traits.specs.declared.error.SysErrorKind.TheVariants as kind
use Rattle.sys_traits.specs.Paths.{Path, spot}
use Rattle.sys_traits.specs.State.{Files, file_at, Told}
use Rattle.deno_path_util.specs.WriteLaw.{WriteLaw, HasCalls}
use Rattle.deno_path_util.specs.Tries.{IsTried, IsCountedSix}
use Rattle.vendor_files.specs.declared.file.VendorFile.{VendorFile}
use Rattle.vendor_files.specs.declared.file.VendorWriteError.{VendorWriteError}
use Rattle.vendor_files.specs.declared.file.VendorWriteError.TheVariants as fault
use Rattle.vendor_files.specs.declared.write.Refused.{Refused}
use Rattle.vendor_files.specs.Places.{fit_path, ArePathsOf, IsFirstUnfit}

-- what a write comes to
abbrev pub Outcome : Type 0
Outcome = Result (Unit {0}) SysError

-- a file's atomic write: at its path, by these tries
pub record Writes (mode : ℕ) (file : VendorFile) (result : Outcome) (old new : Told) : Type 0 where
  pub path : Path
  pub at : fit_path file.target ≡ Some path
  pub law : WriteLaw path file.bytes result old new
  pub calls : HasCalls (IsTried path mode 5 result) old new

-- these files are written, one after the other
abbrev pub WritesAll : ℕ → List VendorFile → Told → Told → Type 0
WritesAll mode [] old new = new ≡ old
WritesAll mode (file ∷ files) old new =
    (between : Told) × Writes mode file (Ok tt) old between × WritesAll mode files between new

-- the write of a file was refused so, and those before it are written
pub record IsRefusedAt (mode : ℕ) (files : List VendorFile) (target : Parts) (error : SysError) (old new : Told) :
    Type 0 where
  pub done : List VendorFile
  pub file : VendorFile
  pub rest : List VendorFile
  pub all : files ≡ done ++ file ∷ rest
  pub is : file.target ≡ target
  pub between : Told
  pub written : WritesAll mode done old between
  pub refused : Writes mode file (Err error) between new

-- what became of the files of a system that tells
abbrev pub IsWritten : List VendorFile → ℕ → Result (Unit {0}) VendorWriteError → Told → Told → Type 0
IsWritten files mode (Ok _) old new = WritesAll mode files old new
IsWritten files mode (Err (fault.Path target)) old new = new ≡ old
IsWritten files mode (Err (fault.System target error)) old new = IsRefusedAt mode files target error old new
IsWritten files mode (Err fault.OutOfMemory) old new =
    (new ≡ old) ⊎ ((target : Parts) × (error : SysError) × IsRefusedAt mode files target error old new)

-- ---- what the paths read then

-- at the file's path its bytes are read
abbrev pub HasFile : Path → Files → VendorFile → Type 0
HasFile folder files file =
    (path : Path) × (fit_path file.target ≡ Some path) × (file_at files (spot folder path) ≡ Some file.bytes)

abbrev pub HaveFiles : Path → Files → List VendorFile → Type 0
HaveFiles folder files [] = Unit {0}
HaveFiles folder files (file ∷ more) = HasFile folder files file × HaveFiles folder files more

-- at the file's path what was read before is read
abbrev pub KeepsFile : Path → Files → Files → VendorFile → Type 0
KeepsFile folder old new file =
    (path : Path) → fit_path file.target ≡ Some path → file_at new (spot folder path) ≡ file_at old (spot folder path)

abbrev pub KeepFiles : Path → Files → Files → List VendorFile → Type 0
KeepFiles folder old new [] = Unit {0}
KeepFiles folder old new (file ∷ more) = KeepsFile folder old new file × KeepFiles folder old new more

-- the files before one have their bytes, and it and those behind it what was there
pub record StandsUpTo (files : List VendorFile) (target : Parts) (old new : Told) : Type 0 where
  pub done : List VendorFile
  pub file : VendorFile
  pub rest : List VendorFile
  pub all : files ≡ done ++ file ∷ rest
  pub is : file.target ≡ target
  pub written : HaveFiles old.folder new.files done
  pub kept : KeepFiles old.folder old.files new.files (file ∷ rest)

-- what the paths of the files read, by the result
abbrev pub Stands : List VendorFile → Result (Unit {0}) VendorWriteError → Told → Told → Type 0
Stands files (Ok _) old new = HaveFiles old.folder new.files files
Stands files (Err (fault.Path target)) old new = new ≡ old
Stands files (Err (fault.System target error)) old new = StandsUpTo files target old new
Stands files (Err fault.OutOfMemory) old new = (new ≡ old) ⊎ ((target : Parts) × StandsUpTo files target old new)

-- what the result says of the paths, and of the refusal
abbrev pub Means : List VendorFile → Result (Unit {0}) VendorWriteError → Type 0
Means files (Ok _) = (paths : List Path) × ArePathsOf files paths
Means files (Err (fault.Path target)) = IsFirstUnfit files target
Means files (Err (fault.System target error)) =
    ((paths : List Path) × ArePathsOf files paths) × (error.kind ≢ kind.OutOfMemory)
Means files (Err fault.OutOfMemory) = Unit {0}

-- the count of faults rose in each of six tries, where the system refused a write
abbrev pub IsCounted : Result (Unit {0}) VendorWriteError → ℕ → ℕ → Type 0
IsCounted (Ok _) old new = old ≤ new
IsCounted (Err (fault.Path target)) old new = new ≡ old
IsCounted (Err (fault.System target error)) old new = IsCountedSix (Some error.kind) old new
IsCounted (Err fault.OutOfMemory) old new = old ≤ new

-- ---- what the functions promise each other

-- what is told of a file that the system refused
abbrev pub IsToldOf : VendorFile → SysError → VendorWriteError → Type 0
IsToldOf file error (fault.Path target) = ⊥
IsToldOf file error (fault.System target told) =
    (target ≡ file.target) × (told ≡ error) × (error.kind ≢ kind.OutOfMemory)
IsToldOf file error fault.OutOfMemory = Unit {0}

-- the refusal of a file that goes to its path
abbrev pub MeansRefused : Result (Unit {0}) VendorWriteError → Type 0
MeansRefused (Ok _) = Unit {0}
MeansRefused (Err (fault.Path target)) = ⊥
MeansRefused (Err (fault.System target error)) = error.kind ≢ kind.OutOfMemory
MeansRefused (Err fault.OutOfMemory) = Unit {0}

-- the files are written up to the one that was refused, if one was
abbrev pub IsWrittenUpTo : List VendorFile → ℕ → Result (Unit {0}) Refused → Told → Told → Type 0
IsWrittenUpTo files mode (Ok _) old new = WritesAll mode files old new
IsWrittenUpTo files mode (Err refused) old new =
    (file : VendorFile) × (slice_get files refused.number ≡ Some file)
    × (between : Told) × WritesAll mode (take refused.number files) old between
    × Writes mode file (Err refused.error) between new

abbrev pub IsCountedUpTo : Result (Unit {0}) Refused → ℕ → ℕ → Type 0
IsCountedUpTo (Ok _) old new = old ≤ new
IsCountedUpTo (Err refused) old new = IsCountedSix (Some refused.error.kind) old new
