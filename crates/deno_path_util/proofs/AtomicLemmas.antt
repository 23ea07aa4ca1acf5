-- What a system tells of an atomic write, put together.
use Rattle.std.proofs.Common.{◌≡◌, ◌≢◌, ℕ, ◌<◌, ◌≤◌, List, [], ◌∷◌, ◌++◌, length, Option, Some, None, Result, Ok, Err, Bool, true, false, refl, sym, ap, subst, ◌∙◌, append-nil, codes}
use Rattle.sys_traits.specs.declared.error.SysErrorKind.{SysErrorKind}
use Rattle.sys_traits.specs.declared.error.SysErrorKind.TheVariants.{NotFound, Failed, OutOfMemory}
use Rattle.sys_traits.specs.declared.error.SysError.{SysError}
use Rattle.sys_traits.specs.declared.call.SysCallKind.TheVariants.{CreateDirAll, Exists}
use Rattle.sys_traits.specs.Paths.{Path}
use Rattle.sys_traits.specs.State.{Told, WhereTold, refusal_of}
use Rattle.sys_traits.specs.Calls.{FolderCreated, LookedUp}
use Rattle.deno_path_util.specs.Course.{Deed, naming, folder_of, making, looking, IsFault, IsWrite}
use Rattle.deno_path_util.specs.Steps.{Stretch, Quiet, IsPassed, IsOver, IsOverAfter, HasEnding, IsLooked}
use Rattle.deno_path_util.proofs.ToldLemmas.{told_map, told_two, told_three}
use Rattle.deno_path_util.proofs.StretchLemmas.{stretch_then, stretch_are, quiet_stretch, quiet_call, quiet_none, quiet_then}
use Rattle.deno_path_util.proofs.CourseLemmas.{over_done, over_refused, over_again, again_done, again_refused, again_wanted, again_unmade, looked_there, looked_missing, looked_not_seen, looked_wanted}

pub told_over_done : (temporary path content : List ℕ) (mode : ℕ) (x y : Option Told)
    → WhereTold (Stretch {A = Unit {0}} path content (Ok tt) (IsPassed temporary path mode None)) x y
    → WhereTold (Stretch {A = Unit {0}} path content (Ok tt) (IsOver {A = Unit {0}} temporary path mode (Ok tt))) x y
told_over_done temporary path content mode x y h =
    told_map (Stretch {A = Unit {0}} path content (Ok tt) (IsPassed temporary path mode None))
    (Stretch {A = Unit {0}} path content (Ok tt) (IsOver {A = Unit {0}} temporary path mode (Ok tt)))
    (stretch_are path content (Ok tt) (Ok tt) (IsPassed temporary path mode None)
    (IsOver {A = Unit {0}} temporary path mode (Ok tt)) (λ p o. refl) (over_done temporary path mode)) x y h

pub told_over_refused : (temporary path content : List ℕ) (mode : ℕ) (first e : SysError) → (first.kind ≡ NotFound → ⊥)
    → HasEnding (naming path) first.kind e.kind e.message → (x y : Option Told)
    → WhereTold (Stretch {A = Unit {0}} path content (Err first) (IsPassed temporary path mode (Some first.kind))) x y
    → WhereTold (Stretch {A = Unit {0}} path content (Err e) (IsOver {A = Unit {0}} temporary path mode (Err e))) x y
told_over_refused temporary path content mode first e not_missing named x y h =
    told_map (Stretch {A = Unit {0}} path content (Err first) (IsPassed temporary path mode (Some first.kind)))
    (Stretch {A = Unit {0}} path content (Err e) (IsOver {A = Unit {0}} temporary path mode (Err e)))
    (stretch_are path content (Err first) (Err e) (IsPassed temporary path mode (Some first.kind))
    (IsOver {A = Unit {0}} temporary path mode (Err e)) (λ p o. refl)
    (λ xs k. over_refused temporary path mode first.kind e xs not_missing named k)) x y h

pub told_over_again : (temporary path content : List ℕ) (mode : ℕ) (first : SysError)
    (result : Result (Unit {0}) SysError) → first.kind ≡ NotFound → (x y z : Option Told)
    → WhereTold (Stretch {A = Unit {0}} path content (Err first) (IsPassed temporary path mode (Some first.kind))) x y
    → WhereTold (Stretch path content result (IsOverAfter temporary path mode result)) y z
    → WhereTold (Stretch path content result (IsOver temporary path mode result)) x z
told_over_again temporary path content mode first result missing x y z h k =
    told_two (Stretch {A = Unit {0}} path content (Err first) (IsPassed temporary path mode (Some first.kind)))
    (Stretch path content result (IsOverAfter temporary path mode result))
    (Stretch path content result (IsOver temporary path mode result))
    (stretch_then path content first result (IsPassed temporary path mode (Some first.kind))
    (IsOverAfter temporary path mode result) (IsOver temporary path mode result)
    (over_again temporary path mode first.kind result missing)) x y z h k

-- the calls are just this one
abbrev pub IsJust : Deed → List Deed → Type 0
IsJust one calls = calls ≡ one ∷ []

made_quiet : (folder : Path) (a b : Told) → FolderCreated folder None a b → Quiet (IsJust (making folder None)) a b
made_quiet folder a b h = quiet_call CreateDirAll folder None 0 None (IsJust (making folder None)) a b h.0 h.1 refl

unmade_quiet : (folder : Path) (kind : SysErrorKind) → IsFault kind → (a b : Told)
    → FolderCreated folder (Some kind) a b → Quiet (IsJust (making folder (Some kind))) a b
unmade_quiet folder NotFound fault a b h =
    quiet_call CreateDirAll folder None 0 (Some NotFound) (IsJust (making folder (Some NotFound))) a b h.0 h.1 refl
unmade_quiet folder Failed fault a b h =
    quiet_call CreateDirAll folder None 0 (Some Failed) (IsJust (making folder (Some Failed))) a b h.0 h.1 refl
unmade_quiet folder OutOfMemory fault a b h = absurd fault

-- a made folder before a second pass
made_then : (path content : List ℕ) (folder : Path) → folder ≡ folder_of path
    → (e : SysError) (r : Result (Unit {0}) SysError) (Q P : List Deed → Type 0)
    → ((xs ys : List Deed) → IsJust (making (folder_of path) None) xs → Q ys → P (xs ++ ys)) → (a b c : Told)
    → FolderCreated folder None a b → Stretch path content r Q b c → Stretch path content r P a c
made_then path content folder is e r Q P joins a b c h k =
    let made : Quiet (IsJust (making (folder_of path) None)) a b =
    subst (λ f. Quiet (IsJust (making f None)) a b) is (made_quiet folder a b h) in
    stretch_then {A = Unit {0}} path content e r (IsJust (making (folder_of path) None)) Q P joins a b c
    (quiet_stretch path content e (IsJust (making (folder_of path) None)) (IsJust (making (folder_of path) None))
    (λ xs h. h) a b made) k

pub told_again_done : (temporary path content : List ℕ) (mode : ℕ) (folder : Path) → folder ≡ folder_of path
    → (e : SysError) (x y z : Option Told)
    → WhereTold (FolderCreated folder None) x y
    → WhereTold (Stretch {A = Unit {0}} path content (Ok tt) (IsPassed temporary path mode None)) y z
    → WhereTold (Stretch {A = Unit {0}} path content (Ok tt) (IsOverAfter {A = Unit {0}} temporary path mode (Ok tt)))
    x z
told_again_done temporary path content mode folder is e x y z h k =
    told_two (FolderCreated folder None)
    (Stretch {A = Unit {0}} path content (Ok tt) (IsPassed temporary path mode None))
    (Stretch {A = Unit {0}} path content (Ok tt) (IsOverAfter {A = Unit {0}} temporary path mode (Ok tt)))
    (made_then path content folder is e (Ok tt) (IsPassed temporary path mode None)
    (IsOverAfter {A = Unit {0}} temporary path mode (Ok tt)) (again_done temporary path mode)) x y z h k

pub told_again_refused : (temporary path content : List ℕ) (mode : ℕ) (folder : Path) → folder ≡ folder_of path
    → (second e : SysError) → HasEnding (naming path) second.kind e.kind e.message → (x y z : Option Told)
    → WhereTold (FolderCreated folder None) x y
    → WhereTold (Stretch {A = Unit {0}} path content (Err second)
    (IsPassed temporary path mode (Some second.kind))) y z
    → WhereTold (Stretch {A = Unit {0}} path content (Err e) (IsOverAfter {A = Unit {0}} temporary path mode (Err e)))
    x z
told_again_refused temporary path content mode folder is second e named x y z h k =
    told_map (Stretch {A = Unit {0}} path content (Err second)
    (IsOverAfter {A = Unit {0}} temporary path mode (Err e)))
    (Stretch {A = Unit {0}} path content (Err e) (IsOverAfter {A = Unit {0}} temporary path mode (Err e)))
    (stretch_are path content (Err second) (Err e) (IsOverAfter {A = Unit {0}} temporary path mode (Err e))
    (IsOverAfter {A = Unit {0}} temporary path mode (Err e)) (λ p o. refl) (λ xs h. h)) x z
    (told_two (FolderCreated folder None)
    (Stretch {A = Unit {0}} path content (Err second) (IsPassed temporary path mode (Some second.kind)))
    (Stretch {A = Unit {0}} path content (Err second) (IsOverAfter {A = Unit {0}} temporary path mode (Err e)))
    (made_then path content folder is e (Err second) (IsPassed temporary path mode (Some second.kind))
    (IsOverAfter {A = Unit {0}} temporary path mode (Err e))
    (λ xs ys m p. again_refused temporary path mode second.kind e xs ys m named p)) x y z h k)

wanted_quiet : (folder : Path) (kind : SysErrorKind) → kind ≡ OutOfMemory → (a b : Told)
    → FolderCreated folder (Some kind) a b → Quiet (λ calls. calls ≡ []) a b
wanted_quiet folder kind want a b h =
    quiet_none (λ calls. calls ≡ []) a b (subst (λ k. FolderCreated folder (Some k) a b) want h) refl

pub told_again_wanted : (temporary path content : List ℕ) (mode : ℕ) (folder : Path) (e : SysError)
    → e.kind ≡ OutOfMemory → (x y : Option Told)
    → WhereTold (FolderCreated folder (Some e.kind)) x y
    → WhereTold (Stretch {A = Unit {0}} path content (Err e) (IsOverAfter {A = Unit {0}} temporary path mode (Err e)))
    x y
told_again_wanted temporary path content mode folder e want x y h =
    told_map (FolderCreated folder (Some e.kind))
    (Stretch {A = Unit {0}} path content (Err e) (IsOverAfter {A = Unit {0}} temporary path mode (Err e)))
    (λ a b c. quiet_stretch path content e (λ calls. calls ≡ [])
    (IsOverAfter {A = Unit {0}} temporary path mode (Err e))
    (λ xs none. again_wanted temporary path mode e want xs none) a b
    (wanted_quiet folder e.kind want a b c)) x y h

pub told_again_unmade : (temporary path content : List ℕ) (mode : ℕ) (folder : Path) → folder ≡ folder_of path
    → (refused e : SysError) → IsFault refused.kind → (x y z : Option Told)
    → WhereTold (FolderCreated folder (Some refused.kind)) x y → WhereTold (Quiet (IsLooked path refused.kind e)) y z
    → WhereTold (Stretch {A = Unit {0}} path content (Err e) (IsOverAfter {A = Unit {0}} temporary path mode (Err e)))
    x z
told_again_unmade temporary path content mode folder is refused e fault x y z h k =
    let P = IsOverAfter {A = Unit {0}} temporary path mode (Err e) in
    let made : Deed = making (folder_of path) (Some refused.kind) in
    told_two (FolderCreated folder (Some refused.kind)) (Quiet (IsLooked path refused.kind e))
    (Stretch {A = Unit {0}} path content (Err e) P)
    (λ a b c m l. quiet_stretch path content e P P (λ xs h. h) a c
    (quiet_then (IsJust made) (IsLooked path refused.kind e) P
    (λ xs ys i j. again_unmade temporary path mode refused.kind e xs ys fault i j) a b c
    (subst (λ f. Quiet (IsJust (making f (Some refused.kind))) a b) is (unmade_quiet folder refused.kind fault a b m))
    l)) x y z h k

-- ---- the look for a folder that wasn't made

pub told_looked_there : (path : Path) (folder : Path) → folder ≡ folder_of path → (kind : SysErrorKind) (e : SysError)
    → HasEnding (naming path) NotFound e.kind e.message → (x y : Option Told)
    → WhereTold (LookedUp folder 1 None) x y → WhereTold (Quiet (IsLooked path kind e)) x y
told_looked_there path folder is kind e named x y h =
    told_map (LookedUp folder 1 None) (Quiet (IsLooked path kind e))
    (λ a b l. quiet_call Exists folder None 1 None (IsLooked path kind e) a b l.0 l.1
    (looked_there path kind e _ (ap (λ f. looking f 1 None ∷ []) is) named)) x y h

pub told_looked_missing : (path : Path) (folder : Path) → folder ≡ folder_of path → (kind : SysErrorKind) (e : SysError)
    → HasEnding (naming (folder_of path) ++ codes "\nCheck the permission of the directory.") kind e.kind e.message
    → (x y : Option Told)
    → WhereTold (LookedUp folder 0 None) x y → WhereTold (Quiet (IsLooked path kind e)) x y
told_looked_missing path folder is kind e named x y h =
    told_map (LookedUp folder 0 None) (Quiet (IsLooked path kind e))
    (λ a b l. quiet_call Exists folder None 0 None (IsLooked path kind e) a b l.0 l.1
    (looked_missing path kind e _ (ap (λ f. looking f 0 None ∷ []) is) named)) x y h

not_seen_quiet : (path : Path) (folder : Path) → folder ≡ folder_of path → (kind seen : SysErrorKind) (e : SysError)
    → IsFault seen
    → HasEnding (naming (folder_of path) ++ codes "\nCheck the permission of the directory.") kind e.kind e.message
    → (a b : Told)
    → LookedUp folder 0 (Some seen) a b → Quiet (IsLooked path kind e) a b
not_seen_quiet path folder is kind NotFound e fault named a b l =
    quiet_call Exists folder None 0 (Some NotFound) (IsLooked path kind e) a b l.0 l.1
    (looked_not_seen path kind NotFound e _ tt (ap (λ f. looking f 0 (Some NotFound) ∷ []) is) named)
not_seen_quiet path folder is kind Failed e fault named a b l =
    quiet_call Exists folder None 0 (Some Failed) (IsLooked path kind e) a b l.0 l.1
    (looked_not_seen path kind Failed e _ tt (ap (λ f. looking f 0 (Some Failed) ∷ []) is) named)
not_seen_quiet path folder is kind OutOfMemory e fault named a b l = absurd fault

pub told_looked_not_seen : (path : Path) (folder : Path) → folder ≡ folder_of path
    → (kind seen : SysErrorKind) (e : SysError) → IsFault seen
    → HasEnding (naming (folder_of path) ++ codes "\nCheck the permission of the directory.") kind e.kind e.message
    → (x y : Option Told)
    → WhereTold (LookedUp folder 0 (Some seen)) x y → WhereTold (Quiet (IsLooked path kind e)) x y
told_looked_not_seen path folder is kind seen e fault named x y h =
    told_map (LookedUp folder 0 (Some seen)) (Quiet (IsLooked path kind e))
    (not_seen_quiet path folder is kind seen e fault named) x y h

pub told_looked_wanted : (path : Path) (folder : Path) (kind : SysErrorKind) (e : SysError) → e.kind ≡ OutOfMemory
    → (x y : Option Told)
    → WhereTold (LookedUp folder 0 (Some e.kind)) x y → WhereTold (Quiet (IsLooked path kind e)) x y
told_looked_wanted path folder kind e want x y h =
    told_map (LookedUp folder 0 (Some e.kind)) (Quiet (IsLooked path kind e))
    (λ a b l. quiet_none (IsLooked path kind e) a b (subst (λ k. LookedUp folder 0 (Some k) a b) want l)
    (looked_wanted path kind e [] want refl)) x y h
