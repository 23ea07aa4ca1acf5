-- Several tries of an atomic write, with sleeps between.
use Rattle.std.specs.Prelude.{◌≡◌, ◌⊎◌, ℕ, zero, suc, ◌+◌, ◌-◌, ◌*◌, ◌≤◌, List, ◌∷◌, ◌++◌, Option, Some, None, Result, Ok, Err}
use Rattle.sys_traits.specs.declared.error.SysErrorKind.{SysErrorKind}
use Rattle.sys_traits.specs.declared.error.SysErrorKind.TheVariants.{NotFound, Failed, OutOfMemory}
use Rattle.sys_traits.specs.declared.error.SysError.{SysError}
use Rattle.sys_traits.specs.Paths.{Path}
use Rattle.sys_traits.specs.State.{refusal_of}
use Rattle.deno_path_util.specs.Course.{Deed, sleeping, IsFault, IsWrite}

-- a try that ends the tries: it succeeded, or wanted memory
abbrev pub IsLast : Option SysErrorKind → Type 0
IsLast None = Unit {0}
IsLast (Some NotFound) = ⊥
IsLast (Some Failed) = ⊥
IsLast (Some OutOfMemory) = Unit {0}

-- a refused try, and the sleep after it
pub record IsRefusedTry (path : Path) (mode ms : ℕ) (calls rest : List Deed) : Type 0 where
  pub error : SysError
  pub fault : IsFault error.kind
  pub tries : List Deed
  pub write : IsWrite {A = Unit {0}} path mode (Err error) tries
  pub slept : calls ≡ tries ++ sleeping ms ∷ rest

-- a refused try, and a sleep that wanted memory
pub record IsSleepless {A : Type 0} (path : Path) (mode : ℕ) (result : Result A SysError) (calls : List Deed) : Type 0 where
  pub error : SysError
  pub fault : IsFault error.kind
  pub write : IsWrite {A = Unit {0}} path mode (Err error) calls
  pub want : refusal_of result ≡ Some OutOfMemory

-- These are the calls of an atomic write that may be tried so many times more: the last try is the answer, and a refused
-- one before it is followed by a sleep, of 10 milliseconds after the first of six tries, and of 10 more each time.
abbrev pub IsTried : {A : Type 0} → Path → ℕ → ℕ → Result A SysError → List Deed → Type 0
IsTried path mode zero result calls = IsWrite path mode result calls
IsTried path mode (suc more) result calls =
    (IsLast (refusal_of result) × IsWrite path mode result calls)
    ⊎ ((rest : List Deed) × IsRefusedTry path mode (10 * (5 - more)) calls rest × IsTried path mode more result rest)
    ⊎ IsSleepless path mode result calls

-- the count of faults rose in each of six tries, where the system refused the last one
abbrev pub IsCountedSix : Option SysErrorKind → ℕ → ℕ → Type 0
IsCountedSix None old new = old ≤ new
IsCountedSix (Some NotFound) old new = old + 6 ≤ new
IsCountedSix (Some Failed) old new = old + 6 ≤ new
IsCountedSix (Some OutOfMemory) old new = old ≤ new
