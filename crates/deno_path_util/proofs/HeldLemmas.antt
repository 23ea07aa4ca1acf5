-- Calls that change one file at most, the temporary one.
use Rattle.std.proofs.Common.{◌≡◌, ◌≢◌, ℕ, List, [], ◌∷◌, ◌++◌, Option, Some, None, ◌⊎◌, inl, inr, refl, sym, ap, subst, ◌∙◌, append_assoc}
use Rattle.sys_traits.specs.declared.error.SysErrorKind.{SysErrorKind}
use Rattle.sys_traits.specs.declared.call.SysCall.{SysCall}
use Rattle.sys_traits.specs.declared.call.SysCallKind.{SysCallKind}
use Rattle.sys_traits.specs.Paths.{Path, spot}
use Rattle.sys_traits.specs.State.{Files, file_at, Told, IsCall}
use Rattle.sys_traits.specs.Calls.{TouchesFile}
use Rattle.deno_path_util.specs.WriteLaw.{temporaries, IsNone, IsSafe, EachIsSafe}

-- a call of the log
abbrev pub the_call : SysCallKind → Path → Option Path → ℕ → Option SysErrorKind → Files → SysCall
the_call kind path to number refusal files =
    record { kind = kind; path = path; to = to; number = number; refusal = refusal; files = files }

-- every place but this one reads what it did
abbrev pub AreAlike : Path → Files → Files → Type 0
AreAlike place old new = (q : Path) → q ≢ place → file_at new q ≡ file_at old q

-- so it is after each of these calls
abbrev pub EachAlike : Path → Files → List SysCall → Type 0
EachAlike place old [] = Unit {0}
EachAlike place old (call ∷ rest) = AreAlike place old call.files × EachAlike place old rest

-- calls since a told state that change the file of one path at most
pub record Held (temporary : Path) (a z : Told) (calls : List SysCall) : Type 0 where
  pub folder : z.folder ≡ a.folder
  pub log : z.log ≡ a.log ++ calls
  pub alike : AreAlike (spot a.folder temporary) a.files z.files
  pub each : EachAlike (spot a.folder temporary) a.files calls

each_push : (place : Path) (old : Files) (calls : List SysCall) (call : SysCall)
    → EachAlike place old calls → AreAlike place old call.files → EachAlike place old (calls ++ call ∷ [])
each_push place old [] call h k = (k, tt)
each_push place old (x ∷ rest) call h k = (h.0, each_push place old rest call h.1 k)

pub held_none : (temporary : Path) (a : Told) → a.log ≡ a.log ++ [] → Held temporary a a []
held_none temporary a e = record { folder = refl; log = e; alike = λ q n. refl; each = tt }

-- one more call that changes this file at most
pub held_push : (temporary : Path) (a y z : Told) (calls : List SysCall) (kind : SysCallKind) (path : Path)
    (to : Option Path) (number : ℕ) (refusal : Option SysErrorKind)
    → Held temporary a y calls → IsCall kind path to number refusal y z → TouchesFile temporary y z
    → Held temporary a z (calls ++ the_call kind path to number refusal z.files ∷ [])
held_push temporary a y z calls kind path to number refusal held call touches =
    let here : AreAlike (spot a.folder temporary) y.files z.files =
    subst (λ folder. AreAlike (spot folder temporary) y.files z.files) held.folder touches in
    let alike : AreAlike (spot a.folder temporary) a.files z.files = λ q n. here q n ∙ held.alike q n in
    record {
      folder = call.folder ∙ held.folder;
      log = call.log ∙ ap (λ l. l ++ the_call kind path to number refusal z.files ∷ []) held.log
          ∙ append_assoc a.log calls (the_call kind path to number refusal z.files ∷ []);
      alike = alike;
      each = each_push (spot a.folder temporary) a.files calls (the_call kind path to number refusal z.files) held.each
          alike;
    }

-- such files keep the write law of another path
pub safe_alike : (place temporary : Path) (content : List ℕ) (old new : Files) (names : List Path)
    → temporary ≢ place → ((q : Path) → IsNone names q → q ≢ temporary) → AreAlike temporary old new
    → IsSafe place content old names new
safe_alike place temporary content old new names apart covers alike = record {
  whole = inl (alike place (λ e. apart (sym e)));
  others = λ q _ none. alike q (covers q none);
}

pub each_safe_alike : (place temporary : Path) (content : List ℕ) (old : Files) (names : List Path)
    (calls : List SysCall)
    → temporary ≢ place → ((q : Path) → IsNone names q → q ≢ temporary) → EachAlike temporary old calls
    → EachIsSafe place content old names calls
each_safe_alike place temporary content old names [] apart covers each = tt
each_safe_alike place temporary content old names (call ∷ rest) apart covers each = (
  safe_alike place temporary content old call.files names apart covers each.0,
  each_safe_alike place temporary content old names rest apart covers each.1,
)
