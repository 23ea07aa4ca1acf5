-- What each call of a system does to the files that it tells.
use Rattle.std.specs.Prelude.{◌≡◌, ◌≢◌, ℕ, Bool, true, false, List, [], Option, Some, None, Result, Ok, Err}
use Rattle.sys_traits.specs.declared.error.SysErrorKind.{SysErrorKind}
use Rattle.sys_traits.specs.declared.error.SysErrorKind.TheVariants.{NotFound, Failed, OutOfMemory}
use Rattle.sys_traits.specs.declared.error.SysError.{SysError}
use Rattle.sys_traits.specs.declared.call.SysCallKind.TheVariants.{Canonicalize, CreateDirAll, Exists, Open, WriteAll, Remove, Rename, Random, Sleep}
use Rattle.sys_traits.specs.Paths.{Path, spot}
use Rattle.sys_traits.specs.State.{file_at, Told, IsCall}

-- a change of the files, from the told state before to the one behind
abbrev pub Change : Type 1
Change = Told → Told → Type 0

-- no file changes
abbrev pub KeepsFiles : Change
KeepsFiles old new = new.files ≡ old.files

-- no file but that of this path changes
abbrev pub TouchesFile : Path → Change
TouchesFile path old new = (q : Path) → q ≢ spot old.folder path → file_at new.files q ≡ file_at old.files q

-- the path reads this, and no other file changes
pub record SetsFile (path : Path) (content : Option (List ℕ)) (old new : Told) : Type 0 where
  pub there : file_at new.files (spot old.folder path) ≡ content
  pub others : TouchesFile path old new

-- the file of the first path is that of the second one, and no other file changes
pub record MovesFile (from to : Path) (old new : Told) : Type 0 where
  pub there : file_at new.files (spot old.folder to) ≡ file_at old.files (spot old.folder from)
  pub gone : spot old.folder from ≢ spot old.folder to → file_at new.files (spot old.folder from) ≡ None
  pub others : (q : Path) → q ≢ spot old.folder from → q ≢ spot old.folder to → file_at new.files q ≡ file_at old.files q

-- a call and its change, by its refusal: one that wants memory leaves everything and isn't in the log
abbrev pub Ends : (Option SysErrorKind → Change) → Change → Change → Option SysErrorKind → Change
Ends call done refused None old new = call None old new × done old new
Ends call done refused (Some NotFound) old new = call (Some NotFound) old new × refused old new
Ends call done refused (Some Failed) old new = call (Some Failed) old new × refused old new
Ends call done refused (Some OutOfMemory) old new = new ≡ old

-- the path that a canonicalizing call answers
abbrev pub answered_path : {S : Type 0} → (S → Path) → Result S SysError → Option Path
answered_path bytes (Ok path) = Some (bytes path)
answered_path bytes (Err _) = None

-- the number of an existence call
abbrev pub answered_truth : Result Bool SysError → ℕ
answered_truth (Ok true) = 1
answered_truth (Ok false) = 0
answered_truth (Err _) = 0

-- the number of a call for a random byte
abbrev pub answered_byte : Result ℕ SysError → ℕ
answered_byte (Ok byte) = byte
answered_byte (Err _) = 0

-- `fs_canonicalize`
abbrev pub Canonicalized : Path → Option Path → Option SysErrorKind → Change
Canonicalized path answer = Ends (IsCall Canonicalize path answer 0) KeepsFiles KeepsFiles

-- `fs_create_dir_all`
abbrev pub FolderCreated : Path → Option SysErrorKind → Change
FolderCreated path = Ends (IsCall CreateDirAll path None 0) KeepsFiles KeepsFiles

-- `fs_exists`
abbrev pub LookedUp : Path → ℕ → Option SysErrorKind → Change
LookedUp path truth = Ends (IsCall Exists path None truth) KeepsFiles KeepsFiles

-- `fs_open`: the file is there and empty
abbrev pub Opened : Path → ℕ → Option SysErrorKind → Change
Opened path mode = Ends (IsCall Open path None mode) (SetsFile path (Some [])) KeepsFiles

-- `fs_write_all`: the file has just these bytes; a refused write may leave others
abbrev pub Written : Path → List ℕ → Option SysErrorKind → Change
Written path bytes = Ends (IsCall WriteAll path None 0) (SetsFile path (Some bytes)) (TouchesFile path)

-- `fs_remove_file`
abbrev pub Removed : Path → Option SysErrorKind → Change
Removed path = Ends (IsCall Remove path None 0) (SetsFile path None) KeepsFiles

-- `fs_rename`
abbrev pub Renamed : Path → Path → Option SysErrorKind → Change
Renamed from to = Ends (IsCall Rename from (Some to) 0) (MovesFile from to) KeepsFiles

-- `sys_random_u8`
abbrev pub Drawn : ℕ → Option SysErrorKind → Change
Drawn byte = Ends (IsCall Random [] None byte) KeepsFiles KeepsFiles

-- `thread_sleep_ms`
abbrev pub Slept : ℕ → Option SysErrorKind → Change
Slept ms = Ends (IsCall Sleep [] None ms) KeepsFiles KeepsFiles
