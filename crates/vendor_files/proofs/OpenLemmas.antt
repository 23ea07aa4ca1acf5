-- What an atomic write opens: temporary files of its path alone.
use Rattle.std.proofs.Common.{◌≡◌, ◌≢◌, ◌⊎◌, inl, inr, refl, sym, ap, subst, ℕ, zero, suc, ◌-◌, ◌*◌, ◌<◌, List, [], ◌∷◌, ◌++◌, map, length, codes, Option, Some, None, IsSome, Result, Ok, Err}
use Rattle.sys_traits.specs.declared.error.SysError.{SysError}
use Rattle.sys_traits.specs.declared.error.SysErrorKind.{SysErrorKind}
use Rattle.sys_traits.specs.declared.error.SysErrorKind.TheVariants.{NotFound, Failed, OutOfMemory}
use Rattle.sys_traits.specs.declared.call.SysCall.{SysCall}
use Rattle.sys_traits.specs.declared.call.SysCallKind.{SysCallKind}
use Rattle.sys_traits.specs.declared.call.SysCallKind.TheVariants.{Canonicalize, CreateDirAll, Exists, Open, WriteAll, Remove, Rename, Random, Sleep}
use Rattle.sys_traits.specs.Paths.{Path, spot}
use Rattle.sys_traits.specs.State.{refusal_of}
use Rattle.lexical_path.specs.Paths.{file_name}
use Rattle.deno_path_util.specs.Atomic.{atomic_path, IsTemporaryPath}
use Rattle.deno_path_util.specs.Course.{Deed, deed, deeds, sleeping, Pass, NotOpened, NotWritten, NotRenamed, Renamed, pass_deeds, FolderLook, There, Missing, NotSeen, look_deed, Body, Once, Again, NotMade, body_deeds, Course, NotDrawn, Drawn, draws, drawing, making, course_deeds, folder_of, IsCourse, IsWrite, UnlessWant}
use Rattle.deno_path_util.specs.Tries.{IsTried}
use Rattle.deno_path_util.specs.WriteLaw.{opened_by, temporaries, IsNone}
use Rattle.deno_path_util.specs.Steps.{IsApart}

-- what is opened is a temporary file of the path
abbrev IfOpen : Path → SysCallKind → Path → Type 0
IfOpen path Open p = IsTemporaryPath path p
IfOpen path _ p = Unit {0}

abbrev pub Opens : Path → List Deed → Type 0
Opens path [] = Unit {0}
Opens path (d ∷ ds) = IfOpen path d.kind d.path × Opens path ds

opens_append : (path : Path) (xs ys : List Deed) → Opens path xs → Opens path ys → Opens path (xs ++ ys)
opens_append path [] ys h k = k
opens_append path (x ∷ xs) ys h k = (h.0, opens_append path xs ys h.1 k)

opens_first : (path : Path) (xs ys : List Deed) → Opens path (xs ++ ys) → Opens path xs
opens_first path [] ys h = tt
opens_first path (x ∷ xs) ys h = (h.0, opens_first path xs ys h.1)

opens_draws : (path : Path) (bytes : List ℕ) → Opens path (draws bytes)
opens_draws path [] = tt
opens_draws path (b ∷ bytes) = (tt, opens_draws path bytes)

opens_pass : (path temporary : Path) (mode : ℕ) (pass : Pass) → IsTemporaryPath path temporary
    → Opens path (pass_deeds temporary path mode pass)
opens_pass path temporary mode (NotOpened kind) is = (is, tt)
opens_pass path temporary mode (NotWritten kind) is = (is, (tt, tt))
opens_pass path temporary mode (NotRenamed kind removal) is = (is, (tt, (tt, (tt, tt))))
opens_pass path temporary mode Renamed is = (is, (tt, (tt, tt)))

opens_look : (path folder : Path) (look : FolderLook) → Opens path (look_deed folder look ∷ [])
opens_look path folder There = (tt, tt)
opens_look path folder Missing = (tt, tt)
opens_look path folder (NotSeen kind) = (tt, tt)

opens_body : (path temporary : Path) (mode : ℕ) (body : Body) → IsTemporaryPath path temporary
    → Opens path (body_deeds temporary path mode body)
opens_body path temporary mode (Once pass) is = opens_pass path temporary mode pass is
opens_body path temporary mode (Again one two) is =
    opens_append path (pass_deeds temporary path mode one)
    (making (folder_of path) None ∷ pass_deeds temporary path mode two)
    (opens_pass path temporary mode one is) (tt, opens_pass path temporary mode two is)
opens_body path temporary mode (NotMade one kind look) is =
    opens_append path (pass_deeds temporary path mode one)
    (making (folder_of path) (Some kind) ∷ look_deed (folder_of path) look ∷ [])
    (opens_pass path temporary mode one is) (tt, opens_look path (folder_of path) look)

opens_course : (path : Path) (mode : ℕ) (course : Course) → IsCourse course → Opens path (course_deeds path mode course)
opens_course path mode (NotDrawn bytes kind) is =
    opens_append path (draws bytes) (drawing 0 (Some kind) ∷ []) (opens_draws path bytes) (tt, tt)
opens_course path mode (Drawn bytes body) is =
    opens_append path (draws bytes) (body_deeds (atomic_path path bytes) path mode body) (opens_draws path bytes)
    (opens_body path (atomic_path path bytes) mode body (bytes, is.0, refl))

-- the calls of a write that ended, and those of one that wanted memory
ended : (path : Path) (mode : ℕ) (calls : List Deed) (course : Course) → IsCourse course
    → calls ≡ course_deeds path mode course → Opens path calls
ended path mode calls course is same = subst (Opens path) (sym same) (opens_course path mode course is)

begun : (path : Path) (mode : ℕ) (calls rest : List Deed) (course : Course) → IsCourse course
    → calls ++ rest ≡ course_deeds path mode course → Opens path calls
begun path mode calls rest course is same =
    opens_first path calls rest (subst (Opens path) (sym same) (opens_course path mode course is))

opens_by : (path : Path) (mode : ℕ) (kind : SysErrorKind) (calls : List Deed) (P Q : Type 0)
    → (P → Opens path calls) → (Q → Opens path calls) → UnlessWant (Some kind) P Q → Opens path calls
opens_by path mode NotFound calls P Q f g w = f w
opens_by path mode Failed calls P Q f g w = f w
opens_by path mode OutOfMemory calls P Q f g w = g w

opens_write : {A : Type 0} (path : Path) (mode : ℕ) (result : Result A SysError) (calls : List Deed)
    → IsWrite path mode result calls → Opens path calls
opens_write path mode (Ok x) calls w = ended path mode calls w.0 w.1 w.3
opens_write path mode (Err e) calls w =
    opens_by path mode e.kind calls _ _ (λ h. ended path mode calls h.0 h.1 h.3)
    (λ h. begun path mode calls h.2 h.0 h.1 h.3) w

pub opens_tried : {A : Type 0} (path : Path) (mode more : ℕ) (result : Result A SysError) (calls : List Deed)
    → IsTried path mode more result calls → Opens path calls
opens_tried path mode zero result calls h = opens_write path mode result calls h
opens_tried path mode (suc more) result calls (inl h) = opens_write path mode result calls h.1
opens_tried path mode (suc more) result calls (inr (inl h)) =
    let one = h.1 in
    subst (Opens path) (sym one.slept)
    (opens_append path one.tries (sleeping (10 * (5 - more)) ∷ h.0)
    (opens_write {A = Unit {0}} path mode (Err one.error) one.tries one.write)
    (tt, opens_tried path mode more result h.0 h.2))
opens_tried path mode (suc more) result calls (inr (inr h)) =
    opens_write {A = Unit {0}} path mode (Err h.error) calls h.write

-- ---- no temporary file stands at a place that isn't one's

none_by : (folder path place p : Path) (kind : SysCallKind) (more : List Path) → IfOpen path kind p
    → ((temporary : Path) → IsTemporaryPath path temporary → place ≢ spot folder temporary) → IsNone more place
    → IsNone (opened_by folder kind p ++ more) place
none_by folder path place p Open more is apart none = (apart p is, none)
none_by folder path place p Canonicalize more is apart none = none
none_by folder path place p CreateDirAll more is apart none = none
none_by folder path place p Exists more is apart none = none
none_by folder path place p WriteAll more is apart none = none
none_by folder path place p Remove more is apart none = none
none_by folder path place p Rename more is apart none = none
none_by folder path place p Random more is apart none = none
none_by folder path place p Sleep more is apart none = none

pub none_opened : (folder path place : Path) (calls : List SysCall) → Opens path (deeds calls)
    → ((temporary : Path) → IsTemporaryPath path temporary → place ≢ spot folder temporary)
    → IsNone (temporaries folder calls) place
none_opened folder path place [] h apart = tt
none_opened folder path place (call ∷ rest) h apart =
    none_by folder path place call.path call.kind (temporaries folder rest) h.0 apart
    (none_opened folder path place rest h.1 apart)
