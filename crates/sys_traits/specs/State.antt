-- What a system tells of itself, and what one call does to it.
use Rattle.std.specs.Prelude.{◌≡◌, ◌<◌, ◌≤◌, ℕ, List, [], ◌∷◌, ◌++◌, Option, Some, None, Result, Ok, Err}
use Rattle.std.specs.declared.alloc.AllocError.{AllocError}
use Rattle.sys_traits.specs.declared.error.SysErrorKind.{SysErrorKind}
use Rattle.sys_traits.specs.declared.error.SysErrorKind.TheVariants.{NotFound, Failed, OutOfMemory}
use Rattle.sys_traits.specs.declared.error.SysError.{SysError}
use Rattle.sys_traits.specs.declared.call.SysCall.{SysCall}
use Rattle.sys_traits.specs.declared.call.SysCallKind.{SysCallKind}
use Rattle.sys_traits.specs.Paths.{Path}
pub use Rattle.sys_traits.specs.Files.{Files, file_at}

-- what a system may tell: its current folder, its files, and its calls so far
pub record Told : Type 0 where
  pub folder : Path
  pub files : Files
  pub log : List SysCall

-- a system that tells goes on telling, and the told states are related so
abbrev pub WhereTold : (Told → Told → Type 0) → Option Told → Option Told → Type 0
WhereTold R None None = Unit {0}
WhereTold R (Some old) (Some new) = R old new
WhereTold R _ _ = ⊥

-- why a call was refused, if it was
abbrev pub refusal_of : {A : Type 0} → Result A SysError → Option SysErrorKind
refusal_of (Ok _) = None
refusal_of (Err e) = Some e.kind

-- the same for a call that only memory can refuse
abbrev pub shortage_of : {A : Type 0} → Result A AllocError → Option SysErrorKind
shortage_of (Ok _) = None
shortage_of (Err _) = Some OutOfMemory

-- the count of faults never falls, and rises with each `NotFound` and each `Failed`
abbrev pub CountsFault : Option SysErrorKind → ℕ → ℕ → Type 0
CountsFault None old new = old ≤ new
CountsFault (Some NotFound) old new = old < new
CountsFault (Some Failed) old new = old < new
CountsFault (Some OutOfMemory) old new = old ≤ new

-- a call that took place: it is the new last entry of the log, with the files that it left
pub record IsCall (kind : SysCallKind) (path : Path) (to : Option Path) (number : ℕ) (refusal : Option SysErrorKind)
    (old new : Told) : Type 0 where
  pub folder : new.folder ≡ old.folder
  pub log : new.log ≡ old.log
      ++ record { kind = kind; path = path; to = to; number = number; refusal = refusal; files = new.files } ∷ []
