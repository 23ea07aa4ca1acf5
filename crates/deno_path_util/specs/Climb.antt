-- The real path of a path that need not be there.
use Rattle.std.specs.Prelude.{◌≡◌, ◌⊎◌, ℕ, List, [], ◌∷◌, ◌++◌, length, codes, Option, Some, None, Result, Ok, Err, if◌then◌else◌, ◌==◌, string_bytes}
use Rattle.std.specs.declared.string.String.{String}
use Rattle.std.specs.Path.{path_join, path_parent, path_file_name}
use Rattle.sys_traits.specs.declared.error.SysErrorKind.{SysErrorKind}
use Rattle.sys_traits.specs.declared.error.SysErrorKind.TheVariants.{NotFound, Failed, OutOfMemory}
use Rattle.sys_traits.specs.declared.error.SysError.{SysError}
use Rattle.sys_traits.specs.declared.call.SysCallKind.TheVariants.{Canonicalize}
use Rattle.sys_traits.specs.Paths.{Path}
use Rattle.deno_path_util.specs.Course.{Deed, IsFault, UnlessWant}

-- the call that asks for the real path, and its answer or refusal
abbrev pub asking : Path → Option Path → Option SysErrorKind → Deed
asking path answer refused = record { kind = Canonicalize; path = path; to = answer; number = 0; refusal = refused }

-- what a path is taken for that is empty: the current folder
abbrev pub or_here : Path → Path
or_here path = if length path == 0 then codes "." else path

-- the outcome of a climb: a real path, or the kind of the refusal that is answered
abbrev pub Outcome : Type 0
Outcome = Result Path SysErrorKind

-- the outcome with one more name behind it
abbrev pub with_name : Path → Outcome → Outcome
with_name name (Ok folder) = Ok (path_join folder name)
with_name name (Err kind) = Err kind

-- These calls climb from the path to the longest path above it that isn't `NotFound`, and this is what comes of it: its
-- real path with the other names behind it, or the refusal where that is another one, or no name or parent is left.
abbrev pub IsClimb : List Deed → Path → Outcome → Type 0
IsClimb [] path outcome = ⊥
IsClimb (call ∷ rest) path outcome =
    ((answer : Path) × (call ≡ asking path (Some answer) None) × (rest ≡ []) × (outcome ≡ Ok answer))
    ⊎ ((kind : SysErrorKind) × IsFault kind × (call ≡ asking path None (Some kind)) × (rest ≡ []) × (outcome ≡ Err kind)
    × (kind ≡ NotFound → (path_file_name path ≡ None) ⊎ (path_parent path ≡ None)))
    ⊎ ((name : Path) × (folder : Path) × (above : Outcome) × (path_file_name path ≡ Some name) × (path_parent path ≡ Some folder)
    × (call ≡ asking path None (Some NotFound)) × IsClimb rest (or_here folder) above × (outcome ≡ with_name name above))

-- the outcome of an answer
abbrev pub outcome_of : {A : Type 0} → Result (String A) SysError → Outcome
outcome_of (Ok answer) = Ok (string_bytes answer)
outcome_of (Err e) = Err e.kind

-- the calls climb to this answer; if memory ran out they are the first calls of a climb
abbrev pub IsClimbed : {A : Type 0} → Path → Result (String A) SysError → List Deed → Type 0
IsClimbed path (Ok answer) calls = IsClimb calls path (Ok (string_bytes answer))
IsClimbed path (Err e) calls = UnlessWant (Some e.kind) (IsClimb calls path (Err e.kind))
    ((rest : List Deed) × (outcome : Outcome) × IsClimb (calls ++ rest) path outcome)
