-- One pass over the temporary file, by where it ends.
use Rattle.std.proofs.Common.{◌≡◌, ◌≢◌, ℕ, List, [], ◌∷◌, ◌++◌, Option, Some, None, Result, Ok, Err, ◌⊎◌, inl, inr, refl, sym, ap, subst, ◌∙◌, append-nil, append_assoc}
use Rattle.sys_traits.specs.declared.error.SysErrorKind.{SysErrorKind}
use Rattle.sys_traits.specs.declared.error.SysErrorKind.TheVariants.{NotFound, Failed, OutOfMemory}
use Rattle.sys_traits.specs.declared.error.SysError.{SysError}
use Rattle.sys_traits.specs.declared.call.SysCall.{SysCall}
use Rattle.sys_traits.specs.declared.call.SysCallKind.{SysCallKind}
use Rattle.sys_traits.specs.declared.call.SysCallKind.TheVariants.{Open, WriteAll, Remove, Rename}
use Rattle.sys_traits.specs.Paths.{Path, spot}
use Rattle.sys_traits.specs.State.{Files, file_at, Told, WhereTold, IsCall}
use Rattle.sys_traits.specs.Calls.{KeepsFiles, TouchesFile, SetsFile, MovesFile, Opened, Written, Renamed, Removed}
use Rattle.deno_path_util.specs.Course.{Deed, deeds, Pass, NotOpened, NotWritten, NotRenamed, pass_deeds, pass_refusal, IsPass, IsFault, IsFaultOrNone, UnlessWant, opening, writing, renaming, removing}
use Rattle.deno_path_util.specs.Course as course
use Rattle.deno_path_util.specs.WriteLaw.{temporaries, IsNone, IsSafe, EachIsSafe}
use Rattle.deno_path_util.specs.Steps.{Stretch, IsApart, IsPassed, IsTakenAway, removal_answer}
use Rattle.deno_path_util.proofs.ToldLemmas.{ended_by, told_map, told_two, told_three, told_four}
use Rattle.deno_path_util.proofs.HeldLemmas.{the_call, AreAlike, EachAlike, Held, held_none, held_push, safe_alike, each_safe_alike}

-- a place that isn't the one temporary file
one_name : (temporary q : Path) → IsNone (temporary ∷ []) q → q ≢ temporary
one_name temporary q none = none.0

-- calls that held everything but the temporary file, which they opened, are a stretch that an error ends
pub held_stretch : (temporary path content : List ℕ) (e : SysError) (Are : List Deed → Type 0) (a z : Told)
    (calls : List SysCall)
    → IsApart temporary path → Held temporary a z calls → temporaries a.folder calls ≡ spot a.folder temporary ∷ []
    → Are (deeds calls)
    → Stretch {A = Unit {0}} path content (Err e) Are a z
held_stretch temporary path content e Are a z calls apart held names are =
    let place = spot a.folder path in
    let t = spot a.folder temporary in
    let covers : (q : Path) → IsNone (temporaries a.folder calls) q → q ≢ t =
    λ q none. one_name t q (subst (λ l. IsNone l q) names none) in
    record {
      folder = held.folder;
      calls = calls;
      log = held.log;
      are = are;
      safe = each_safe_alike place t content a.files (temporaries a.folder calls) calls (apart a.folder) covers
          held.each;
      safe_at_last = safe_alike place t content a.files z.files (temporaries a.folder calls) (apart a.folder) covers
          held.alike;
      at_last = held.alike place (λ eq. apart a.folder (sym eq));
    }

-- nothing was called
pub empty_stretch : (path content : List ℕ) (e : SysError) (Are : List Deed → Type 0) (a z : Told) → z ≡ a → Are []
    → Stretch {A = Unit {0}} path content (Err e) Are a z
empty_stretch path content e Are a z same are = record {
  folder = ap (λ (s : Told). s.folder) same;
  calls = [];
  log = ap (λ (s : Told). s.log) same ∙ sym (append-nil a.log);
  are = are;
  safe = tt;
  safe_at_last = record {
    whole = inl (ap (λ (s : Told). file_at s.files (spot a.folder path)) same);
    others =
        λ q _ _. ap (λ (s : Told). file_at s.files q) same;
  };
  at_last = ap (λ (s : Told). file_at s.files (spot a.folder path)) same;
}

touches_kept : (temporary : Path) (y z : Told) → KeepsFiles y z → TouchesFile temporary y z
touches_kept temporary y z kept = λ q n. ap (λ f. file_at f q) kept

-- the opening is the first call
opened_held : (temporary : Path) (mode : ℕ) (a b : Told) → Opened temporary mode None a b
    → Held temporary a b (the_call Open temporary None mode None b.files ∷ [])
opened_held temporary mode a b h =
    held_push temporary a a b [] Open temporary None mode None (held_none temporary a (sym (append-nil a.log))) h.0
    h.1.others

unopened_held : (temporary : Path) (mode : ℕ) (kind : SysErrorKind) (a b : Told)
    → IsCall Open temporary None mode (Some kind) a b → KeepsFiles a b
    → Held temporary a b (the_call Open temporary None mode (Some kind) b.files ∷ [])
unopened_held temporary mode kind a b call kept =
    held_push temporary a a b [] Open temporary None mode (Some kind) (held_none temporary a (sym (append-nil a.log)))
    call (touches_kept temporary a b kept)

written_held : (temporary content : List ℕ) (mode : ℕ) (a b c : Told) → Opened temporary mode None a b
    → Written temporary content None b c
    → Held temporary a c
    (the_call Open temporary None mode None b.files ∷ the_call WriteAll temporary None 0 None c.files ∷ [])
written_held temporary content mode a b c o w =
    held_push temporary a b c (the_call Open temporary None mode None b.files ∷ []) WriteAll temporary None 0 None
    (opened_held temporary mode a b o) w.0 w.1.others

-- ---- the ends

not_opened_fault : (temporary path content : List ℕ) (mode : ℕ) (e : SysError) (kind : SysErrorKind)
    → IsApart temporary path → IsFault kind → (a b : Told)
    → IsCall Open temporary None mode (Some kind) a b → KeepsFiles a b
    → Stretch {A = Unit {0}} path content (Err e) (IsPassed temporary path mode (Some kind)) a b
not_opened_fault temporary path content mode e kind apart fault a b call kept =
    held_stretch temporary path content e (IsPassed temporary path mode (Some kind)) a b _ apart
    (unopened_held temporary mode kind a b call kept) refl
    (ended_by _ _ kind fault (NotOpened kind, fault, refl, refl))

pub not_opened : (temporary path content : List ℕ) (mode : ℕ) (e : SysError) (kind : SysErrorKind)
    → IsApart temporary path → (a b : Told)
    → Opened temporary mode (Some kind) a b
    → Stretch {A = Unit {0}} path content (Err e) (IsPassed temporary path mode (Some kind)) a b
not_opened temporary path content mode e NotFound apart a b h =
    not_opened_fault temporary path content mode e NotFound apart tt a b h.0 h.1
not_opened temporary path content mode e Failed apart a b h =
    not_opened_fault temporary path content mode e Failed apart tt a b h.0 h.1
not_opened temporary path content mode e OutOfMemory apart a b h =
    empty_stretch path content e (IsPassed temporary path mode (Some OutOfMemory)) a b h
    (course.Renamed, tt, pass_deeds temporary path mode course.Renamed, refl)

not_written_fault : (temporary path content : List ℕ) (mode : ℕ) (e : SysError) (kind : SysErrorKind)
    → IsApart temporary path → IsFault kind → (a b c : Told)
    → Opened temporary mode None a b → IsCall WriteAll temporary None 0 (Some kind) b c → TouchesFile temporary b c
    → Stretch {A = Unit {0}} path content (Err e) (IsPassed temporary path mode (Some kind)) a c
not_written_fault temporary path content mode e kind apart fault a b c o call touched =
    held_stretch temporary path content e (IsPassed temporary path mode (Some kind)) a c _ apart
    (held_push temporary a b c (the_call Open temporary None mode None b.files ∷ []) WriteAll temporary None 0
    (Some kind) (opened_held temporary mode a b o) call touched)
    refl (ended_by _ _ kind fault (NotWritten kind, fault, refl, refl))

pub not_written : (temporary path content : List ℕ) (mode : ℕ) (e : SysError) (kind : SysErrorKind)
    → IsApart temporary path → (a b c : Told)
    → Opened temporary mode None a b → Written temporary content (Some kind) b c
    → Stretch {A = Unit {0}} path content (Err e) (IsPassed temporary path mode (Some kind)) a c
not_written temporary path content mode e NotFound apart a b c o h =
    not_written_fault temporary path content mode e NotFound apart tt a b c o h.0 h.1
not_written temporary path content mode e Failed apart a b c o h =
    not_written_fault temporary path content mode e Failed apart tt a b c o h.0 h.1
not_written temporary path content mode e OutOfMemory apart a b c o h =
    subst (λ s. Stretch {A = Unit {0}} path content (Err e) (IsPassed temporary path mode (Some OutOfMemory)) a s)
    (sym h)
    (held_stretch temporary path content e (IsPassed temporary path mode (Some OutOfMemory)) a b _ apart
    (opened_held temporary mode a b o) refl
    (course.Renamed, tt, writing temporary None ∷ renaming temporary path None ∷ [], refl))

not_renamed_fault : (temporary path content : List ℕ) (mode : ℕ) (e : SysError) (kind answered : SysErrorKind)
    → IsApart temporary path → IsFault kind → (a b c d f : Told)
    → Opened temporary mode None a b → Written temporary content None b c
    → IsCall Rename temporary (Some path) 0 (Some kind) c d → KeepsFiles c d
    → (removal : Option SysErrorKind) → Removed temporary removal d f → answered ≡ removal_answer kind removal
    → Stretch {A = Unit {0}} path content (Err e) (IsPassed temporary path mode (Some answered)) a f
not_renamed_fault temporary path content mode e kind answered apart fault a b c d f o w call kept removal removed is =
    let Ends : SysErrorKind → Told → Type 0 =
    λ k s. Stretch {A = Unit {0}} path content (Err e) (IsPassed temporary path mode (Some k)) a s in
    let held : Held temporary a d _ =
    held_push temporary a c d
    (the_call Open temporary None mode None b.files ∷ the_call WriteAll temporary None 0 None c.files ∷ [])
    Rename temporary (Some path) 0 (Some kind) (written_held temporary content mode a b c o w) call
    (touches_kept temporary c d kept) in
    let three = the_call Open temporary None mode None b.files ∷ the_call WriteAll temporary None 0 None c.files
    ∷ the_call Rename temporary (Some path) 0 (Some kind) d.files ∷ [] in
    let taken : (r : Option SysErrorKind) → IsFaultOrNone r → IsCall Remove temporary None 0 r d f
    → TouchesFile temporary d f → Ends kind f =
    λ r fine call' touched. held_stretch temporary path content e (IsPassed temporary path mode (Some kind)) a f _ apart
    (held_push temporary a d f three Remove temporary None 0 r held call' touched) refl
    (ended_by _ _ kind fault (NotRenamed kind r, (fault, fine), refl, refl)) in
    let by : (r : Option SysErrorKind) → Removed temporary r d f → Ends (removal_answer kind r) f =
    elim [
      | None ↦ λ h. taken None tt h.0 h.1.others
      | Some k ↦ elim k as (λ k. Removed temporary (Some k) d f → Ends (removal_answer kind (Some k)) f) [
        | NotFound ↦ λ h. taken (Some NotFound) tt h.0 (touches_kept temporary d f h.1)
        | Failed ↦ λ h. taken (Some Failed) tt h.0 (touches_kept temporary d f h.1)
        | OutOfMemory ↦ λ h. subst (Ends OutOfMemory) (sym h)
            (held_stretch temporary path content e (IsPassed temporary path mode (Some OutOfMemory)) a d _ apart held
            refl
            (NotRenamed kind None, (fault, tt), removing temporary None ∷ [], refl))
      ]
    ] in
    subst (λ k. Ends k f) (sym is) (by removal removed)

pub not_renamed : (temporary path content : List ℕ) (mode : ℕ) (e : SysError) (kind answered : SysErrorKind)
    → IsApart temporary path → (a b c d f : Told)
    → Opened temporary mode None a b → Written temporary content None b c → Renamed temporary path (Some kind) c d
    → IsTakenAway temporary kind answered d f
    → Stretch {A = Unit {0}} path content (Err e) (IsPassed temporary path mode (Some answered)) a f
not_renamed temporary path content mode e NotFound answered apart a b c d f o w r t =
    not_renamed_fault temporary path content mode e NotFound answered apart tt a b c d f o w r.0 r.1 t.0 t.1 t.2
not_renamed temporary path content mode e Failed answered apart a b c d f o w r t =
    not_renamed_fault temporary path content mode e Failed answered apart tt a b c d f o w r.0 r.1 t.0 t.1 t.2
not_renamed temporary path content mode e OutOfMemory answered apart a b c d f o w r t =
    subst (λ k. Stretch {A = Unit {0}} path content (Err e) (IsPassed temporary path mode (Some k)) a f) (sym t.1)
    (subst (λ s. Stretch {A = Unit {0}} path content (Err e) (IsPassed temporary path mode (Some OutOfMemory)) a s)
    (sym (t.0 ∙ r))
    (held_stretch temporary path content e (IsPassed temporary path mode (Some OutOfMemory)) a c _ apart
    (written_held temporary content mode a b c o w) refl
    (course.Renamed, tt, renaming temporary path None ∷ [], refl)))

pub renamed : (temporary path content : List ℕ) (mode : ℕ) → IsApart temporary path → (a b c d : Told)
    → Opened temporary mode None a b → Written temporary content None b c → Renamed temporary path None c d
    → Stretch {A = Unit {0}} path content (Ok tt) (IsPassed temporary path mode None) a d
renamed temporary path content mode apart a b c d o w r =
    let held = written_held temporary content mode a b c o w in
    let place = spot a.folder path in
    let t = spot a.folder temporary in
    let names = t ∷ [] in
    let moves : MovesFile temporary path c d = r.1 in
    let there : file_at d.files place ≡ Some content =
    subst (λ folder. file_at d.files (spot folder path) ≡ Some content) held.folder
    (moves.there ∙ subst (λ folder. file_at c.files (spot folder temporary) ≡ Some content) (sym w.0.folder)
    w.1.there) in
    let others : (q : Path) → q ≢ place → IsNone names q → file_at d.files q ≡ file_at a.files q =
    λ q n none. subst (λ folder. q ≢ spot folder temporary → q ≢ spot folder path
    → file_at d.files q ≡ file_at c.files q) held.folder (moves.others q) none.0 n ∙ held.alike q none.0 in
    let last : IsSafe place content a.files names d.files = record { whole = inr there; others = others } in
    let two = the_call Open temporary None mode None b.files ∷ the_call WriteAll temporary None 0 None c.files ∷ [] in
    let before : EachIsSafe place content a.files names two =
    each_safe_alike place t content a.files names two (apart a.folder) (λ q none. none.0) held.each in
    record {
      folder = r.0.folder ∙ held.folder;
      calls = the_call Open temporary None mode None b.files ∷ the_call WriteAll temporary None 0 None c.files
          ∷ the_call Rename temporary (Some path) 0 None d.files ∷ [];
      log = r.0.log ∙ ap (λ l. l ++ the_call Rename temporary (Some path) 0 None d.files ∷ []) held.log
          ∙ append_assoc a.log
          (the_call Open temporary None mode None b.files ∷ the_call WriteAll temporary None 0 None c.files ∷ [])
          (the_call Rename temporary (Some path) 0 None d.files ∷ []);
      are = (course.Renamed, tt, refl, refl);
      safe = (before.0, (before.1.0, (last, tt)));
      safe_at_last = last;
      at_last = there;
    }

-- ---- the same of what a system tells

pub told_not_opened : (temporary path content : List ℕ) (mode : ℕ) (e : SysError) → IsApart temporary path
    → (x y : Option Told)
    → WhereTold (Opened temporary mode (Some e.kind)) x y
    → WhereTold (Stretch {A = Unit {0}} path content (Err e) (IsPassed temporary path mode (Some e.kind))) x y
told_not_opened temporary path content mode e apart x y h =
    told_map (Opened temporary mode (Some e.kind))
    (Stretch path content (Err e) (IsPassed temporary path mode (Some e.kind)))
    (not_opened temporary path content mode e e.kind apart) x y h

pub told_not_written : (temporary path content : List ℕ) (mode : ℕ) (e : SysError) → IsApart temporary path
    → (name : List ℕ) → name ≡ temporary → (x y z : Option Told)
    → WhereTold (Opened temporary mode None) x y → WhereTold (Written name content (Some e.kind)) y z
    → WhereTold (Stretch {A = Unit {0}} path content (Err e) (IsPassed temporary path mode (Some e.kind))) x z
told_not_written temporary path content mode e apart name named x y z h k =
    told_two (Opened temporary mode None) (Written temporary content (Some e.kind))
    (Stretch path content (Err e) (IsPassed temporary path mode (Some e.kind)))
    (not_written temporary path content mode e e.kind apart) x y z h
    (subst (λ p. WhereTold (Written p content (Some e.kind)) y z) named k)

pub told_not_renamed : (temporary path content : List ℕ) (mode : ℕ) (e : SysError) (kind : SysErrorKind)
    → IsApart temporary path → (name : List ℕ) → name ≡ temporary → (x y z w v : Option Told)
    → WhereTold (Opened temporary mode None) x y → WhereTold (Written name content None) y z
    → WhereTold (Renamed temporary path (Some kind)) z w
    → WhereTold (IsTakenAway temporary kind e.kind) w v
    → WhereTold (Stretch {A = Unit {0}} path content (Err e) (IsPassed temporary path mode (Some e.kind))) x v
told_not_renamed temporary path content mode e kind apart name named x y z w v h k l m =
    told_four (Opened temporary mode None) (Written temporary content None) (Renamed temporary path (Some kind))
    (IsTakenAway temporary kind e.kind)
    (Stretch path content (Err e) (IsPassed temporary path mode (Some e.kind)))
    (not_renamed temporary path content mode e kind e.kind apart) x y z w v h
    (subst (λ p. WhereTold (Written p content None) y z) named k) l m

pub told_renamed : (temporary path content : List ℕ) (mode : ℕ) → IsApart temporary path → (name : List ℕ)
    → name ≡ temporary → (x y z w : Option Told)
    → WhereTold (Opened temporary mode None) x y → WhereTold (Written name content None) y z
    → WhereTold (Renamed temporary path None) z w
    → WhereTold (Stretch {A = Unit {0}} path content (Ok tt) (IsPassed temporary path mode None)) x w
told_renamed temporary path content mode apart name named x y z w h k l =
    told_three (Opened temporary mode None) (Written temporary content None) (Renamed temporary path None)
    (Stretch path content (Ok tt) (IsPassed temporary path mode None))
    (renamed temporary path content mode apart) x y z w h (subst (λ p. WhereTold (Written p content None) y z) named k)
    l
