-- Stretches of an atomic write, one after the other.
use Rattle.std.proofs.Common.{◌≡◌, ◌≢◌, ℕ, List, [], ◌∷◌, ◌++◌, map, Option, Some, None, Result, Ok, Err, ◌⊎◌, inl, inr, refl, sym, ap, subst, ◌∙◌, append_assoc, append-nil}
use Rattle.sys_traits.specs.declared.error.SysErrorKind.{SysErrorKind}
use Rattle.sys_traits.specs.declared.error.SysErrorKind.TheVariants.{NotFound, Failed, OutOfMemory}
use Rattle.sys_traits.specs.declared.error.SysError.{SysError}
use Rattle.sys_traits.specs.declared.call.SysCall.{SysCall}
use Rattle.sys_traits.specs.declared.call.SysCallKind.{SysCallKind}
use Rattle.sys_traits.specs.Paths.{Path, spot}
use Rattle.sys_traits.specs.State.{Files, file_at, Told, WhereTold, IsCall}
use Rattle.sys_traits.specs.Calls.{KeepsFiles}
use Rattle.deno_path_util.specs.Course.{Deed, deed, deeds}
use Rattle.deno_path_util.specs.WriteLaw.{temporaries, opened_by, IsNone, IsSafe, EachIsSafe, EachKeeps, content_after}
use Rattle.deno_path_util.specs.Steps.{Stretch, Quiet}
use Rattle.deno_path_util.proofs.HeldLemmas.{the_call}

pub deeds-append : (xs ys : List SysCall) → deeds (xs ++ ys) ≡ deeds xs ++ deeds ys
deeds-append [] ys = refl
deeds-append (x ∷ xs) ys = ap (λ l. deed x ∷ l) (deeds-append xs ys)

temporaries-append : (folder : Path) (xs ys : List SysCall)
    → temporaries folder (xs ++ ys) ≡ temporaries folder xs ++ temporaries folder ys
temporaries-append folder [] ys = refl
temporaries-append folder (x ∷ xs) ys =
    ap (λ l. opened_by folder x.kind x.path ++ l) (temporaries-append folder xs ys)
    ∙ sym (append_assoc (opened_by folder x.kind x.path) (temporaries folder xs) (temporaries folder ys))

none_first : (xs ys : List Path) (q : Path) → IsNone (xs ++ ys) q → IsNone xs q
none_first [] ys q h = tt
none_first (x ∷ xs) ys q h = (h.0, none_first xs ys q h.1)

none_second : (xs ys : List Path) (q : Path) → IsNone (xs ++ ys) q → IsNone ys q
none_second [] ys q h = h
none_second (x ∷ xs) ys q h = none_second xs ys q h.1

-- fewer names were safe
safe_names : (place : Path) (content : List ℕ) (old : Files) (few many : List Path) (files : Files)
    → ((q : Path) → IsNone many q → IsNone few q) → IsSafe place content old few files
    → IsSafe place content old many files
safe_names place content old few many files within h =
    record { whole = h.whole; others = λ q n none. h.others q n (within q none) }

-- files that were safe since a moment at which the place read its old content, and the others too
safe_since : (place : Path) (content : List ℕ) (old between : Files) (few names : List Path) (files : Files)
    → ((q : Path) → IsNone names q → IsNone few q)
    → file_at between place ≡ file_at old place
    → ((q : Path) → q ≢ place → IsNone names q → file_at between q ≡ file_at old q)
    → IsSafe place content between few files → IsSafe place content old names files
safe_since place content old between few names files within same others h = record {
  whole = elim h.whole as
      (λ _. (file_at files place ≡ file_at old place) ⊎ (file_at files place ≡ Some content))
      [ inl e ↦ inl (e ∙ same) | inr e ↦ inr e ];
  others = λ q n none. h.others q n (within q none) ∙ others q n none;
}

each_names : (place : Path) (content : List ℕ) (old : Files) (few many : List Path) (calls : List SysCall)
    → ((q : Path) → IsNone many q → IsNone few q) → EachIsSafe place content old few calls
    → EachIsSafe place content old many calls
each_names place content old few many [] within h = tt
each_names place content old few many (call ∷ rest) within h =
    (safe_names place content old few many call.files within h.0, each_names place content old few many rest within h.1)

each_since : (place : Path) (content : List ℕ) (old between : Files) (few names : List Path) (calls : List SysCall)
    → ((q : Path) → IsNone names q → IsNone few q)
    → file_at between place ≡ file_at old place
    → ((q : Path) → q ≢ place → IsNone names q → file_at between q ≡ file_at old q)
    → EachIsSafe place content between few calls → EachIsSafe place content old names calls
each_since place content old between few names [] within same others h = tt
each_since place content old between few names (call ∷ rest) within same others h = (
  safe_since place content old between few names call.files within same others h.0,
  each_since place content old between few names rest within same others h.1,
)

each_append : (place : Path) (content : List ℕ) (old : Files) (names : List Path) (xs ys : List SysCall)
    → EachIsSafe place content old names xs → EachIsSafe place content old names ys
    → EachIsSafe place content old names (xs ++ ys)
each_append place content old names [] ys h k = k
each_append place content old names (x ∷ xs) ys h k = (h.0, each_append place content old names xs ys h.1 k)

content_since : {A : Type 0} (place : Path) (content : List ℕ) (old between : Files) (result : Result A SysError)
    → file_at between place ≡ file_at old place
    → content_after place content between result ≡ content_after place content old result
content_since place content old between (Ok x) same = refl
content_since place content old between (Err e) same = same

-- a stretch that an error ended, and one after it
pub stretch_then : {A B : Type 0} (path content : List ℕ) (e : SysError) (result : Result B SysError)
    (R Q P : List Deed → Type 0)
    → ((xs ys : List Deed) → R xs → Q ys → P (xs ++ ys)) → (a b c : Told)
    → Stretch {A = A} path content (Err e) R a b → Stretch path content result Q b c → Stretch path content result P a c
stretch_then path content e result R Q P joins a b c h k =
    let place = spot a.folder path in
    let names = temporaries a.folder (h.calls ++ k.calls) in
    let few = temporaries a.folder h.calls in
    let later = temporaries a.folder k.calls in
    let split : names ≡ few ++ later = temporaries-append a.folder h.calls k.calls in
    let within : (q : Path) → IsNone names q → IsNone few q =
    λ q none. none_first few later q (subst (λ l. IsNone l q) split none) in
    let within_later : (q : Path) → IsNone names q → IsNone later q =
    λ q none. none_second few later q (subst (λ l. IsNone l q) split none) in
    let others : (q : Path) → q ≢ place → IsNone names q → file_at b.files q ≡ file_at a.files q =
    λ q n none. h.safe_at_last.others q n (within q none) in
    let safe : EachIsSafe place content b.files later k.calls =
    subst (λ folder. EachIsSafe (spot folder path) content b.files (temporaries folder k.calls) k.calls) h.folder
    k.safe in
    let last : IsSafe place content b.files later c.files =
    subst (λ folder. IsSafe (spot folder path) content b.files (temporaries folder k.calls) c.files) h.folder
    k.safe_at_last in
    let at_last : file_at c.files place ≡ content_after place content b.files result =
    subst (λ folder. file_at c.files (spot folder path) ≡ content_after (spot folder path) content b.files result)
    h.folder k.at_last in
    record {
      folder = k.folder ∙ h.folder;
      calls = h.calls ++ k.calls;
      log = k.log ∙ ap (λ l. l ++ k.calls) h.log ∙ append_assoc a.log h.calls k.calls;
      are = subst P (sym (deeds-append h.calls k.calls)) (joins (deeds h.calls) (deeds k.calls) h.are k.are);
      safe = each_append place content a.files names h.calls k.calls
          (each_names place content a.files few names h.calls within h.safe)
          (each_since place content a.files b.files later names k.calls within_later h.at_last others safe);
      safe_at_last = safe_since place content a.files b.files later names c.files within_later h.at_last others last;
      at_last = at_last ∙ content_since place content a.files b.files result h.at_last;
    }

-- other words for the calls and the result of a stretch
pub stretch_are : {A B : Type 0} (path content : List ℕ) (r : Result A SysError) (s : Result B SysError)
    (R Q : List Deed → Type 0)
    → ((place : Path) (old : Files) → content_after place content old r ≡ content_after place content old s)
    → ((xs : List Deed) → R xs → Q xs) → (a b : Told) → Stretch path content r R a b → Stretch path content s Q a b
stretch_are path content r s R Q same f a b h = record {
  folder = h.folder;
  calls = h.calls;
  log = h.log;
  are = f (deeds h.calls) h.are;
  safe = h.safe;
  safe_at_last = h.safe_at_last;
  at_last = h.at_last ∙ same (spot a.folder path) a.files;
}

kept_safe : (place : Path) (content : List ℕ) (old : Files) (names : List Path) (files : Files) → files ≡ old
    → IsSafe place content old names files
kept_safe place content old names files e =
    record { whole = inl (ap (λ f. file_at f place) e); others = λ q _ _. ap (λ f. file_at f q) e }

each_kept_safe : (place : Path) (content : List ℕ) (old : Files) (names : List Path) (calls : List SysCall)
    → EachKeeps old calls → EachIsSafe place content old names calls
each_kept_safe place content old names [] h = tt
each_kept_safe place content old names (call ∷ rest) h =
    (kept_safe place content old names call.files h.0, each_kept_safe place content old names rest h.1)

-- calls that change no file are a stretch that an error ends
pub quiet_stretch : (path content : List ℕ) (e : SysError) (R Q : List Deed → Type 0)
    → ((xs : List Deed) → R xs → Q xs) → (a b : Told)
    → Quiet R a b → Stretch {A = Unit {0}} path content (Err e) Q a b
quiet_stretch path content e R Q f a b h = record {
  folder = h.folder;
  calls = h.calls;
  log = h.log;
  are = f (deeds h.calls) h.are;
  safe = each_kept_safe (spot a.folder path) content a.files (temporaries a.folder h.calls) h.calls h.each;
  safe_at_last = kept_safe (spot a.folder path) content a.files (temporaries a.folder h.calls) b.files h.at_last;
  at_last = ap (λ f. file_at f (spot a.folder path)) h.at_last;
}

-- one call that changes no file
pub quiet_call : (kind : SysCallKind) (path : Path) (to : Option Path) (number : ℕ) (refusal : Option SysErrorKind)
    (R : List Deed → Type 0) (a b : Told)
    → IsCall kind path to number refusal a b → KeepsFiles a b
    → R (record { kind = kind; path = path; to = to; number = number; refusal = refusal } ∷ []) → Quiet R a b
quiet_call kind path to number refusal R a b call kept are = record {
  folder = call.folder;
  calls = the_call kind path to number refusal b.files ∷ [];
  log = call.log;
  are = are;
  each = (kept, tt);
  at_last = kept;
}

-- nothing was called
pub quiet_none : (R : List Deed → Type 0) (a b : Told) → b ≡ a → R [] → Quiet R a b
quiet_none R a b same are = record {
  folder = ap (λ (s : Told). s.folder) same;
  calls = [];
  log = ap (λ (s : Told). s.log) same ∙ sym (append-nil a.log);
  are = are;
  each = tt;
  at_last = ap (λ (s : Told). s.files) same;
}

each_kept_append : (files : Files) (xs ys : List SysCall) → EachKeeps files xs → EachKeeps files ys
    → EachKeeps files (xs ++ ys)
each_kept_append files [] ys h k = k
each_kept_append files (x ∷ xs) ys h k = (h.0, each_kept_append files xs ys h.1 k)

-- calls that change no file, and more of them
pub quiet_then : (R Q P : List Deed → Type 0) → ((xs ys : List Deed) → R xs → Q ys → P (xs ++ ys)) → (a b c : Told)
    → Quiet R a b → Quiet Q b c → Quiet P a c
quiet_then R Q P joins a b c h k = record {
  folder = k.folder ∙ h.folder;
  calls = h.calls ++ k.calls;
  log = k.log ∙ ap (λ l. l ++ k.calls) h.log ∙ append_assoc a.log h.calls k.calls;
  are = subst P (sym (deeds-append h.calls k.calls)) (joins (deeds h.calls) (deeds k.calls) h.are k.are);
  each = each_kept_append a.files h.calls k.calls h.each (subst (λ f. EachKeeps f k.calls) h.at_last k.each);
  at_last = k.at_last ∙ h.at_last;
}

pub quiet_are : (R Q : List Deed → Type 0) → ((xs : List Deed) → R xs → Q xs) → (a b : Told) → Quiet R a b → Quiet Q a b
quiet_are R Q f a b h =
    record {
      folder = h.folder;
      calls = h.calls;
      log = h.log;
      are = f (deeds h.calls) h.are;
      each = h.each;
      at_last =
          h.at_last;
    }

-- an error, where any will do
pub some_error : SysError
some_error = record { kind = Failed; message = [] }
