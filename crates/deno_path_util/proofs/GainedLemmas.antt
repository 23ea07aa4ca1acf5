-- Stretches of calls, by what the log gained.
use Rattle.std.proofs.Common.{◌≡◌, ℕ, List, [], ◌∷◌, ◌++◌, length, drop, Option, Some, None, Result, Ok, Err, refl, sym, ap, subst, ◌∙◌}
use Rattle.sys_traits.specs.declared.error.SysError.{SysError}
use Rattle.sys_traits.specs.declared.call.SysCall.{SysCall}
use Rattle.sys_traits.specs.Paths.{Path, spot}
use Rattle.sys_traits.specs.State.{Told, WhereTold}
use Rattle.std.proofs.Math.Seq.{drop-append_seam}
use Rattle.deno_path_util.specs.Course.{Deed, deeds}
use Rattle.deno_path_util.specs.WriteLaw.{gained, HasCalls, KeepsAll, EachKeeps, WriteLaw, temporaries, IsSafe, EachIsSafe}
use Rattle.deno_path_util.specs.Steps.{Stretch, Quiet}
use Rattle.deno_path_util.proofs.ToldLemmas.{told_map}

gained_is : (old new : Told) (calls : List SysCall) → new.log ≡ old.log ++ calls → gained old new ≡ calls
gained_is old new calls e = ap (drop (length old.log)) e ∙ drop-append_seam old.log calls

stretch_law : {A : Type 0} (path content : List ℕ) (result : Result A SysError) (Are : List Deed → Type 0)
    (old new : Told)
    → Stretch path content result Are old new → WriteLaw path content result old new
stretch_law path content result Are old new h =
    let is : h.calls ≡ gained old new = sym (gained_is old new h.calls h.log) in
    record {
      safe = subst (λ l. EachIsSafe (spot old.folder path) content old.files (temporaries old.folder l) l) is h.safe;
      safe_at_last = subst (λ l. IsSafe (spot old.folder path) content old.files (temporaries old.folder l) new.files)
          is h.safe_at_last;
      at_last = h.at_last;
    }

stretch_calls : {A : Type 0} (path content : List ℕ) (result : Result A SysError) (Are : List Deed → Type 0)
    (old new : Told)
    → Stretch path content result Are old new → HasCalls Are old new
stretch_calls path content result Are old new h =
    let is : h.calls ≡ gained old new = sym (gained_is old new h.calls h.log) in
    record { folder = h.folder; log = h.log ∙ ap (λ l. old.log ++ l) is; are = subst (λ l. Are (deeds l)) is h.are }

quiet_calls : (Are : List Deed → Type 0) (old new : Told) → Quiet Are old new → HasCalls Are old new
quiet_calls Are old new h =
    let is : h.calls ≡ gained old new = sym (gained_is old new h.calls h.log) in
    record { folder = h.folder; log = h.log ∙ ap (λ l. old.log ++ l) is; are = subst (λ l. Are (deeds l)) is h.are }

quiet_keeps : (Are : List Deed → Type 0) (old new : Told) → Quiet Are old new → KeepsAll old new
quiet_keeps Are old new h =
    record {
      each = subst (λ l. EachKeeps old.files l) (sym (gained_is old new h.calls h.log)) h.each;
      at_last =
          h.at_last;
    }

pub told_law : {A : Type 0} (path content : List ℕ) (result : Result A SysError) (Are : List Deed → Type 0)
    (x y : Option Told)
    → WhereTold (Stretch path content result Are) x y → WhereTold (WriteLaw path content result) x y
told_law path content result Are x y h =
    told_map (Stretch path content result Are) (WriteLaw path content result) (stretch_law path content result Are) x y
    h

pub told_calls : {A : Type 0} (path content : List ℕ) (result : Result A SysError) (Are : List Deed → Type 0)
    (x y : Option Told)
    → WhereTold (Stretch path content result Are) x y → WhereTold (HasCalls Are) x y
told_calls path content result Are x y h =
    told_map (Stretch path content result Are) (HasCalls Are) (stretch_calls path content result Are) x y h

pub told_quiet_calls : (Are : List Deed → Type 0) (x y : Option Told) → WhereTold (Quiet Are) x y
    → WhereTold (HasCalls Are) x y
told_quiet_calls Are x y h = told_map (Quiet Are) (HasCalls Are) (quiet_calls Are) x y h

pub told_quiet_keeps : (Are : List Deed → Type 0) (x y : Option Told) → WhereTold (Quiet Are) x y
    → WhereTold KeepsAll x y
told_quiet_keeps Are x y h = told_map (Quiet Are) KeepsAll (quiet_keeps Are) x y h
