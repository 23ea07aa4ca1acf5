-- What the functions of the atomic write promise each other.
use Rattle.std.specs.Prelude.{◌≡◌, ◌≢◌, ℕ, ◌<◌, length, List, [], ◌∷◌, ◌++◌, Option, Some, None, Result, Ok, Err, codes}
use Rattle.std.specs.Path.{path_join}
use Rattle.sys_traits.specs.declared.error.SysErrorKind.{SysErrorKind}
use Rattle.sys_traits.specs.declared.error.SysErrorKind.TheVariants.{NotFound, Failed, OutOfMemory}
use Rattle.sys_traits.specs.declared.error.SysError.{SysError}
use Rattle.sys_traits.specs.declared.call.SysCall.{SysCall}
use Rattle.sys_traits.specs.Paths.{Path, spot}
use Rattle.sys_traits.specs.State.{file_at, Told, refusal_of}
use Rattle.sys_traits.specs.Calls.{Removed}
use Rattle.deno_path_util.specs.Course.{Deed, deeds, Pass, pass_deeds, pass_refusal, IsPass, Body, body_deeds, body_picked, IsBody, IsAnswer, IsError, UnlessWant, making, IsFault, draws, drawing, FolderLook, IsFolderLook, look_deed, look_picked, folder_of}
use Rattle.deno_path_util.specs.WriteLaw.{temporaries, IsSafe, EachIsSafe, EachKeeps, content_after}

-- A stretch of calls that keeps the write law, and whose deeds are so.
pub record Stretch {A : Type 0} (path : Path) (content : List ℕ) (result : Result A SysError) (Are : List Deed → Type 0) (old new : Told) : Type 0 where
  pub folder : new.folder ≡ old.folder
  pub calls : List SysCall
  pub log : new.log ≡ old.log ++ calls
  pub are : Are (deeds calls)
  pub safe : EachIsSafe (spot old.folder path) content old.files (temporaries old.folder calls) calls
  pub safe_at_last : IsSafe (spot old.folder path) content old.files (temporaries old.folder calls) new.files
  pub at_last : file_at new.files (spot old.folder path) ≡ content_after (spot old.folder path) content old.files result

-- the temporary file isn't the one that is written, whatever the current folder is
abbrev pub IsApart : Path → Path → Type 0
IsApart temporary path = (folder : Path) → spot folder temporary ≢ spot folder path

-- these are the calls of a pass that was refused so, or the first ones if it wanted memory
abbrev pub IsPassed : Path → Path → ℕ → Option SysErrorKind → List Deed → Type 0
IsPassed temporary path mode refusal calls = UnlessWant refusal
    ((pass : Pass) × IsPass pass × (pass_refusal pass ≡ refusal) × (calls ≡ pass_deeds temporary path mode pass))
    ((pass : Pass) × IsPass pass × (rest : List Deed) × (calls ++ rest ≡ pass_deeds temporary path mode pass))

-- these are the calls of a write over a temporary path with this result, or the first ones if it wanted memory
abbrev pub IsOver : {A : Type 0} → Path → Path → ℕ → Result A SysError → List Deed → Type 0
IsOver temporary path mode result calls = UnlessWant (refusal_of result)
    ((body : Body) × IsBody body × IsAnswer path (body_picked body) result × (calls ≡ body_deeds temporary path mode body))
    ((body : Body) × IsBody body × (rest : List Deed) × (calls ++ rest ≡ body_deeds temporary path mode body))

-- they are so behind any first pass that was `NotFound`
abbrev pub IsOverAfter : {A : Type 0} → Path → Path → ℕ → Result A SysError → List Deed → Type 0
IsOverAfter temporary path mode result calls =
    (first : Pass) → IsPass first → pass_refusal first ≡ Some NotFound
    → IsOver temporary path mode result (pass_deeds temporary path mode first ++ calls)

-- A stretch of calls that change no file.
pub record Quiet (Are : List Deed → Type 0) (old new : Told) : Type 0 where
  pub folder : new.folder ≡ old.folder
  pub calls : List SysCall
  pub log : new.log ≡ old.log ++ calls
  pub are : Are (deeds calls)
  pub each : EachKeeps old.files calls
  pub at_last : new.files ≡ old.files

-- the look for a folder that wasn't made, and what is answered then
abbrev pub IsLooked : Path → SysErrorKind → SysError → List Deed → Type 0
IsLooked path refused answered calls = UnlessWant (Some answered.kind)
    ((look : FolderLook) × IsFolderLook look × (calls ≡ look_deed (folder_of path) look ∷ [])
    × IsAnswer {A = Unit {0}} path (look_picked refused look) (Err answered))
    ((look : FolderLook) × IsFolderLook look × (rest : List Deed) × (calls ++ rest ≡ look_deed (folder_of path) look ∷ []))

-- the bytes that were drawn, as the result has them, or a refused byte after some
abbrev pub IsFour : Result (List ℕ) SysError → List Deed → Type 0
IsFour (Ok bytes) calls = calls ≡ draws bytes
IsFour (Err e) calls = UnlessWant (Some e.kind)
    ((bytes : List ℕ) × (length bytes < 4) × (calls ≡ draws bytes ++ drawing 0 (Some e.kind) ∷ []))
    ((bytes : List ℕ) × (length bytes < 4) × (calls ≡ draws bytes))

-- the refusal that is answered after a refused rename: out of memory at the removal comes before it
abbrev pub removal_answer : SysErrorKind → Option SysErrorKind → SysErrorKind
removal_answer refused None = refused
removal_answer refused (Some NotFound) = refused
removal_answer refused (Some Failed) = refused
removal_answer refused (Some OutOfMemory) = OutOfMemory

-- after a rename that was refused so, the temporary file is removed, unless memory ran out
abbrev pub IsTakenAway : Path → SysErrorKind → SysErrorKind → Told → Told → Type 0
IsTakenAway temporary OutOfMemory answered old new = (new ≡ old) × (answered ≡ OutOfMemory)
IsTakenAway temporary refused answered old new =
    (removal : Option SysErrorKind) × Removed temporary removal old new × (answered ≡ removal_answer refused removal)

-- the message of an error of this kind has this end behind it now, unless memory ran out; an error that says so stays
abbrev pub IsNamed : List ℕ → SysErrorKind → List ℕ → SysErrorKind → List ℕ → Type 0
IsNamed ending OutOfMemory own kind message = (kind ≡ OutOfMemory) × (message ≡ own)
IsNamed ending refused own kind message = UnlessWant (Some kind) ((kind ≡ refused) × (message ≡ own ++ ending)) (Unit {0})

-- an error of this kind with this end behind some message, unless memory ran out
abbrev pub HasEnding : List ℕ → SysErrorKind → SysErrorKind → List ℕ → Type 0
HasEnding ending OutOfMemory kind message = kind ≡ OutOfMemory
HasEnding ending refused kind message =
    UnlessWant (Some kind) ((kind ≡ refused) × (of_call : List ℕ) × (message ≡ of_call ++ ending)) (Unit {0})

-- the path with these names behind it, the last of them first
abbrev pub joined_names : List Path → Path → Path
joined_names [] path = path
joined_names (name ∷ names) path = path_join (joined_names names path) name

-- these bytes were drawn, one call each
abbrev pub AreDrawn : List ℕ → List Deed → Type 0
AreDrawn bytes calls = calls ≡ draws bytes
