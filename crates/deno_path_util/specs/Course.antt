-- The calls of an atomic write, in order, and the answer that they lead to.
use Rattle.std.specs.Prelude.{◌≡◌, ◌⊎◌, ℕ, ◌*◌, ◌-◌, ◌<◌, ◌≤◌, Bool, true, false, List, [], ◌∷◌, ◌++◌, length, map, codes, Option, Some, None, IsSome, Result, Ok, Err, IsOk, string_bytes}
use Rattle.std.specs.declared.string.String.{String}
use Rattle.std.specs.Path.{path_parent}
use Rattle.std.specs.Option.{unwrap_or}
use Rattle.sys_traits.specs.declared.error.SysErrorKind.{SysErrorKind}
use Rattle.sys_traits.specs.declared.error.SysErrorKind.TheVariants.{NotFound, Failed, OutOfMemory}
use Rattle.sys_traits.specs.declared.error.SysError.{SysError}
use Rattle.sys_traits.specs.declared.call.SysCall.{SysCall}
use Rattle.sys_traits.specs.declared.call.SysCallKind.{SysCallKind}
use Rattle.sys_traits.specs.declared.call.SysCallKind.TheVariants.{CreateDirAll, Exists, Open, WriteAll, Remove, Rename, Random, Sleep}
use Rattle.sys_traits.specs.Paths.{Path}
use Rattle.sys_traits.specs.State.{refusal_of}
use Rattle.deno_path_util.specs.Atomic.{atomic_path}

-- a call as it was asked and answered, without the files that it left
pub record Deed : Type 0 where
  pub kind : SysCallKind
  pub path : Path
  pub to : Option Path
  pub number : ℕ
  pub refusal : Option SysErrorKind

-- the deed of a call
abbrev pub deed : SysCall → Deed
deed call = record { kind = call.kind; path = call.path; to = call.to; number = call.number; refusal = call.refusal }

-- the deeds of calls, in order
abbrev pub deeds : List SysCall → List Deed
deeds calls = map deed calls

abbrev pub opening : Path → ℕ → Option SysErrorKind → Deed
opening temporary mode refused = record { kind = Open; path = temporary; to = None; number = mode; refusal = refused }

abbrev pub writing : Path → Option SysErrorKind → Deed
writing temporary refused = record { kind = WriteAll; path = temporary; to = None; number = 0; refusal = refused }

abbrev pub renaming : Path → Path → Option SysErrorKind → Deed
renaming temporary path refused = record { kind = Rename; path = temporary; to = Some path; number = 0; refusal = refused }

abbrev pub removing : Path → Option SysErrorKind → Deed
removing temporary refused = record { kind = Remove; path = temporary; to = None; number = 0; refusal = refused }

abbrev pub making : Path → Option SysErrorKind → Deed
making folder refused = record { kind = CreateDirAll; path = folder; to = None; number = 0; refusal = refused }

abbrev pub looking : Path → ℕ → Option SysErrorKind → Deed
looking folder truth refused = record { kind = Exists; path = folder; to = None; number = truth; refusal = refused }

abbrev pub drawing : ℕ → Option SysErrorKind → Deed
drawing byte refused = record { kind = Random; path = []; to = None; number = byte; refusal = refused }

abbrev pub sleeping : ℕ → Deed
sleeping ms = record { kind = Sleep; path = []; to = None; number = ms; refusal = None }

-- a refusal by the system, and not because memory ran out
abbrev pub IsFault : SysErrorKind → Type 0
IsFault NotFound = Unit {0}
IsFault Failed = Unit {0}
IsFault OutOfMemory = ⊥

-- such a refusal, or none
abbrev pub IsFaultOrNone : Option SysErrorKind → Type 0
IsFaultOrNone None = Unit {0}
IsFaultOrNone (Some kind) = IsFault kind

-- ---- one pass: open the temporary file, write it, rename it

-- how a pass ends: at the first refused call, or done; after a refused rename the temporary file is removed
pub data Pass : Type 0 where
  NotOpened : SysErrorKind → Pass
  NotWritten : SysErrorKind → Pass
  NotRenamed : SysErrorKind → Option SysErrorKind → Pass
  Renamed : Pass

-- the calls of a pass
abbrev pub pass_deeds : Path → Path → ℕ → Pass → List Deed
pass_deeds temporary path mode (NotOpened kind) = opening temporary mode (Some kind) ∷ []
pass_deeds temporary path mode (NotWritten kind) = opening temporary mode None ∷ writing temporary (Some kind) ∷ []
pass_deeds temporary path mode (NotRenamed kind removal) =
    opening temporary mode None ∷ writing temporary None ∷ renaming temporary path (Some kind) ∷ removing temporary removal ∷ []
pass_deeds temporary path mode Renamed =
    opening temporary mode None ∷ writing temporary None ∷ renaming temporary path None ∷ []

-- the refusal that a pass comes to
abbrev pub pass_refusal : Pass → Option SysErrorKind
pass_refusal (NotOpened kind) = Some kind
pass_refusal (NotWritten kind) = Some kind
pass_refusal (NotRenamed kind removal) = Some kind
pass_refusal Renamed = None

-- no call of a pass wanted memory
abbrev pub IsPass : Pass → Type 0
IsPass (NotOpened kind) = IsFault kind
IsPass (NotWritten kind) = IsFault kind
IsPass (NotRenamed kind removal) = IsFault kind × IsFaultOrNone removal
IsPass Renamed = Unit {0}

-- ---- one atomic write

-- the answer of a look for the folder
pub data FolderLook : Type 0 where
  There : FolderLook
  Missing : FolderLook
  NotSeen : SysErrorKind → FolderLook

abbrev pub look_deed : Path → FolderLook → Deed
look_deed folder There = looking folder 1 None
look_deed folder Missing = looking folder 0 None
look_deed folder (NotSeen kind) = looking folder 0 (Some kind)

abbrev pub IsFolderLook : FolderLook → Type 0
IsFolderLook There = Unit {0}
IsFolderLook Missing = Unit {0}
IsFolderLook (NotSeen kind) = IsFault kind

-- How a write over a temporary path goes: one pass does it, or is refused otherwise than by `NotFound`; or it is
-- `NotFound`, and then the folder is made and a second pass ends it, or the folder isn't made and is looked for.
pub data Body : Type 0 where
  Once : Pass → Body
  Again : Pass → Pass → Body
  NotMade : Pass → SysErrorKind → FolderLook → Body

-- How an atomic write goes: a random byte is refused after some, or the four bytes of the temporary path are drawn.
pub data Course : Type 0 where
  NotDrawn : List ℕ → SysErrorKind → Course
  Drawn : List ℕ → Body → Course

-- the folder of a path: what stands before its file name
abbrev pub folder_of : Path → Path
folder_of path = unwrap_or (path_parent path) []

-- the calls of a write over a temporary path
abbrev pub body_deeds : Path → Path → ℕ → Body → List Deed
body_deeds temporary path mode (Once pass) = pass_deeds temporary path mode pass
body_deeds temporary path mode (Again first second) =
    pass_deeds temporary path mode first ++ making (folder_of path) None ∷ pass_deeds temporary path mode second
body_deeds temporary path mode (NotMade first kind look) =
    pass_deeds temporary path mode first ++ making (folder_of path) (Some kind) ∷ look_deed (folder_of path) look ∷ []

-- the calls that draw these bytes
abbrev pub draws : List ℕ → List Deed
draws bytes = map (λ byte. drawing byte None) bytes

-- the calls of an atomic write, in order
abbrev pub course_deeds : Path → ℕ → Course → List Deed
course_deeds path mode (NotDrawn bytes kind) = draws bytes ++ drawing 0 (Some kind) ∷ []
course_deeds path mode (Drawn bytes body) = draws bytes ++ body_deeds (atomic_path path bytes) path mode body

-- the rules of a write over a temporary path
abbrev pub IsBody : Body → Type 0
IsBody (Once pass) = IsPass pass × (pass_refusal pass ≡ Some NotFound → ⊥)
IsBody (Again first second) = IsPass first × (pass_refusal first ≡ Some NotFound) × IsPass second
IsBody (NotMade first kind look) = IsPass first × (pass_refusal first ≡ Some NotFound) × IsFault kind × IsFolderLook look

-- the rules of an atomic write
abbrev pub IsCourse : Course → Type 0
IsCourse (NotDrawn bytes kind) = (length bytes < 4) × IsFault kind
IsCourse (Drawn bytes body) = (length bytes ≡ 4) × IsBody body

-- the answer of an atomic write: done, or a refusal and the path that its message names, if it names one
pub data Answer : Type 0 where
  Done : Answer
  Plain : SysErrorKind → Answer
  OfPath : SysErrorKind → Answer
  OfFolder : SysErrorKind → Answer

-- the answer that a pass leads to
abbrev pub pass_answer : Option SysErrorKind → Answer
pass_answer None = Done
pass_answer (Some kind) = OfPath kind

-- which refusal is answered where the folder isn't made: the first one if it is there all the same, else that of its making
abbrev pub look_picked : SysErrorKind → FolderLook → Answer
look_picked kind There = OfPath NotFound
look_picked kind Missing = OfFolder kind
look_picked kind (NotSeen _) = OfFolder kind

-- which refusal is answered of a write over a temporary path: that of the last pass, or of the making of the folder
abbrev pub body_picked : Body → Answer
body_picked (Once pass) = pass_answer (pass_refusal pass)
body_picked (Again first second) = pass_answer (pass_refusal second)
body_picked (NotMade first kind look) = look_picked kind look

-- which refusal is answered of an atomic write: that of the random bytes stands as it is
abbrev pub picked : Course → Answer
picked (NotDrawn bytes kind) = Plain kind
picked (Drawn bytes body) = body_picked body

-- what a message gets behind it that names a path
abbrev pub naming : Path → List ℕ
naming path = codes " (for '" ++ path ++ codes "')"

-- the error has this kind, and its message this end
pub record IsError (kind : SysErrorKind) (ending : List ℕ) (e : SysError) : Type 0 where
  pub is : e.kind ≡ kind
  pub of_call : List ℕ
  pub message : e.message ≡ of_call ++ ending

-- the result of an atomic write is this answer
abbrev pub IsAnswer : {A : Type 0} → Path → Answer → Result A SysError → Type 0
IsAnswer path Done result = IsOk result
IsAnswer path (Plain kind) result = (e : SysError) × (result ≡ Err e) × (e.kind ≡ kind)
IsAnswer path (OfPath kind) result = (e : SysError) × (result ≡ Err e) × IsError kind (naming path) e
IsAnswer path (OfFolder kind) result =
    (e : SysError) × (result ≡ Err e) × IsError kind (naming (folder_of path) ++ codes "\nCheck the permission of the directory.") e

-- a fact of a call that ended, and one of a call that wanted memory, by its refusal
abbrev pub UnlessWant : Option SysErrorKind → Type 0 → Type 0 → Type 0
UnlessWant None ended begun = ended
UnlessWant (Some NotFound) ended begun = ended
UnlessWant (Some Failed) ended begun = ended
UnlessWant (Some OutOfMemory) ended begun = begun

-- These are the calls of an atomic write with this result; if memory ran out they are the first calls of one.
abbrev pub IsWrite : {A : Type 0} → Path → ℕ → Result A SysError → List Deed → Type 0
IsWrite path mode result calls = UnlessWant (refusal_of result)
    ((course : Course) × IsCourse course × IsAnswer path (picked course) result × (calls ≡ course_deeds path mode course))
    ((course : Course) × IsCourse course × (rest : List Deed) × (calls ++ rest ≡ course_deeds path mode course))

-- the result is the temporary path of four bytes that these calls drew, or the refusal of a byte; if memory ran out they
-- drew some
abbrev pub IsTemporary : {A : Type 0} → Path → Result (String A) SysError → List Deed → Type 0
IsTemporary path (Ok temporary) calls =
    (bytes : List ℕ) × (length bytes ≡ 4) × (calls ≡ draws bytes) × (string_bytes temporary ≡ atomic_path path bytes)
IsTemporary path (Err e) calls = UnlessWant (Some e.kind)
    ((bytes : List ℕ) × (length bytes < 4) × (calls ≡ draws bytes ++ drawing 0 (Some e.kind) ∷ []))
    ((bytes : List ℕ) × (length bytes ≤ 4) × (calls ≡ draws bytes))
