-- The calls of an atomic write, put together.
use Rattle.std.proofs.Common.{◌≡◌, ◌≢◌, ℕ, ◌<◌, ◌≤◌, List, [], ◌∷◌, ◌++◌, map, length, Option, Some, None, Result, Ok, Err, refl, sym, ap, subst, ◌∙◌, append_assoc, append-nil, codes, arith}
use Rattle.sys_traits.specs.declared.error.SysErrorKind.{SysErrorKind}
use Rattle.sys_traits.specs.declared.error.SysErrorKind.TheVariants.{NotFound, Failed, OutOfMemory}
use Rattle.sys_traits.specs.declared.error.SysError.{SysError}
use Rattle.sys_traits.specs.Paths.{Path}
use Rattle.deno_path_util.specs.Atomic.{atomic_path}
use Rattle.deno_path_util.specs.Course.{Deed, Pass, pass_deeds, pass_refusal, IsPass, FolderLook, look_deed, look_picked, IsFolderLook, Body, Once, Again, NotMade, body_deeds, body_picked, IsBody, Course, NotDrawn, Drawn, course_deeds, IsCourse, picked, Answer, pass_answer, IsFault, UnlessWant, IsAnswer, IsError, naming, folder_of, making, drawing, draws, IsWrite}
use Rattle.deno_path_util.specs.Course as course
use Rattle.deno_path_util.specs.Course.{There, Missing, NotSeen, OfFolder, OfPath}
use Rattle.deno_path_util.specs.Steps.{IsPassed, IsOver, IsOverAfter, IsNamed, HasEnding, IsLooked}
use Rattle.deno_path_util.proofs.ToldLemmas.{ended_by}

-- a fact of calls that ended, and one of calls that were begun, carried over
pub by_refusal : (A B C D : Type 0) (refusal : Option SysErrorKind) → (A → C) → (B → D) → UnlessWant refusal A B
    → UnlessWant refusal C D
by_refusal A B C D None f g h = f h
by_refusal A B C D (Some NotFound) f g h = f h
by_refusal A B C D (Some Failed) f g h = f h
by_refusal A B C D (Some OutOfMemory) f g h = g h

-- out of memory leaves what was begun
wanted_by : (A B : Type 0) (kind : SysErrorKind) → kind ≡ OutOfMemory → B → UnlessWant (Some kind) A B
wanted_by A B kind e h = subst (λ k. UnlessWant (Some k) A B) (sym e) h

-- ---- messages

-- whatever its message was before
pub has_ending : (ending : List ℕ) (refused : SysErrorKind) (own : List ℕ) (kind : SysErrorKind) (message : List ℕ)
    → IsNamed ending refused own kind message → HasEnding ending refused kind message
has_ending ending NotFound own kind message h = by_refusal _ _ _ _ (Some kind) (λ k. (k.0, own, k.1)) (λ u. u) h
has_ending ending Failed own kind message h = by_refusal _ _ _ _ (Some kind) (λ k. (k.0, own, k.1)) (λ u. u) h
has_ending ending OutOfMemory own kind message h = h.0

-- an error whose message was given an end, unless memory ran out
named_error : (ending : List ℕ) (refused : SysErrorKind) (e : SysError) → HasEnding ending refused e.kind e.message
    → UnlessWant (Some e.kind) (IsError refused ending e) (Unit {0})
named_error ending NotFound e h =
    by_refusal _ _ _ _ (Some e.kind) (λ k. record { is = k.0; of_call = k.1; message = k.2 }) (λ u. u) h
named_error ending Failed e h =
    by_refusal _ _ _ _ (Some e.kind) (λ k. record { is = k.0; of_call = k.1; message = k.2 }) (λ u. u) h
named_error ending OutOfMemory e h =
    subst (λ k. UnlessWant (Some k) (IsError OutOfMemory ending e) (Unit {0})) (sym h) tt

-- out of memory is answered as it is
want_stays : (ending : List ℕ) (e : SysError) → HasEnding ending OutOfMemory e.kind e.message → e.kind ≡ OutOfMemory
want_stays ending e h = h

answer_done : (path : Path) (refusal : Option SysErrorKind) → refusal ≡ None
    → IsAnswer {A = Unit {0}} path (pass_answer refusal) (Ok tt)
answer_done path refusal e = subst (λ r. IsAnswer {A = Unit {0}} path (pass_answer r) (Ok tt)) (sym e) refl

answer_of_path : (path : Path) (refusal : Option SysErrorKind) (kind : SysErrorKind) (e : SysError)
    → refusal ≡ Some kind → IsError kind (naming path) e
    → IsAnswer {A = Unit {0}} path (pass_answer refusal) (Err e)
answer_of_path path refusal kind e is h =
    subst (λ r. IsAnswer {A = Unit {0}} path (pass_answer r) (Err e)) (sym is) (e, refl, h)

-- ---- a write over a temporary path

-- the first calls of a pass are those of a write
abbrev pub BeginsOver : Path → Path → ℕ → List Deed → Type 0
BeginsOver temporary path mode calls =
    (body : Body) × IsBody body × (rest : List Deed) × (calls ++ rest ≡ body_deeds temporary path mode body)

again_begun : (temporary path : Path) (mode : ℕ) (calls : List Deed) (pass : Pass) → IsPass pass
    → pass_refusal pass ≡ Some NotFound
    → (rest : List Deed) → calls ++ rest ≡ pass_deeds temporary path mode pass → BeginsOver temporary path mode calls
again_begun temporary path mode calls pass is missing rest e =
    let more = making (folder_of path) None ∷ pass_deeds temporary path mode course.Renamed in (
      Again pass course.Renamed,
      (is, missing, tt),
      rest ++ more,
      sym (append_assoc calls rest more)
          ∙ ap (λ l. l ++ more) e,
    )

pass_begun_by : (temporary path : Path) (mode : ℕ) (calls : List Deed) (pass : Pass) → IsPass pass
    → (refusal : Option SysErrorKind) → pass_refusal pass ≡ refusal
    → (rest : List Deed) → calls ++ rest ≡ pass_deeds temporary path mode pass → BeginsOver temporary path mode calls
pass_begun_by temporary path mode calls pass is (Some NotFound) r rest e =
    again_begun temporary path mode calls pass is r rest e
pass_begun_by temporary path mode calls pass is (Some Failed) r rest e = (Once pass, (is, λ n. cc), rest, e)
pass_begun_by temporary path mode calls pass is (Some OutOfMemory) r rest e = (Once pass, (is, λ n. cc), rest, e)
pass_begun_by temporary path mode calls pass is None r rest e = (Once pass, (is, λ n. cc), rest, e)

pass_begun : (temporary path : Path) (mode : ℕ) (calls : List Deed) (pass : Pass) → IsPass pass
    → (rest : List Deed) → calls ++ rest ≡ pass_deeds temporary path mode pass → BeginsOver temporary path mode calls
pass_begun temporary path mode calls pass is rest e =
    pass_begun_by temporary path mode calls pass is (pass_refusal pass) refl rest e

-- one pass does it
pub over_done : (temporary path : Path) (mode : ℕ) (calls : List Deed) → IsPassed temporary path mode None calls
    → IsOver {A = Unit {0}} temporary path mode (Ok tt) calls
over_done temporary path mode calls h =
    (Once h.0, (h.1, λ e. let is = h.2 in cc), answer_done path (pass_refusal h.0) h.2, h.3)

-- one pass is refused otherwise than by `NotFound`
pub over_refused : (temporary path : Path) (mode : ℕ) (kind : SysErrorKind) (e : SysError) (calls : List Deed)
    → (kind ≡ NotFound → ⊥) → HasEnding (naming path) kind e.kind e.message
    → IsPassed temporary path mode (Some kind) calls
    → IsOver {A = Unit {0}} temporary path mode (Err e) calls
over_refused temporary path mode NotFound e calls not_missing named h = absurd (not_missing refl)
over_refused temporary path mode Failed e calls not_missing named h =
    by_refusal _ _ _ _ (Some e.kind)
    (λ error. (
      Once h.0,
      (h.1, λ n. let is = h.2 in cc),
      answer_of_path path (pass_refusal h.0) Failed e h.2 error,
      h.3,
    ))
    (λ _. pass_begun temporary path mode calls h.0 h.1 [] (append-nil calls ∙ h.3))
    (named_error (naming path) Failed e named)
over_refused temporary path mode OutOfMemory e calls not_missing named h =
    wanted_by _ _ e.kind named (pass_begun temporary path mode calls h.0 h.1 h.2 h.3)

-- the first pass is `NotFound`, and what comes after it
pub over_again : {A : Type 0} (temporary path : Path) (mode : ℕ) (kind : SysErrorKind) (result : Result A SysError)
    → kind ≡ NotFound → (xs ys : List Deed)
    → IsPassed temporary path mode (Some kind) xs → IsOverAfter temporary path mode result ys
    → IsOver temporary path mode result (xs ++ ys)
over_again temporary path mode kind result missing xs ys h after =
    let k : IsPassed temporary path mode (Some NotFound) xs =
    subst (λ r. IsPassed temporary path mode (Some r) xs) missing h in
    subst (λ l. IsOver temporary path mode result (l ++ ys)) (sym k.3) (after k.0 k.1 k.2)

-- ---- after such a pass

second_deeds : (temporary path : Path) (mode : ℕ) (first second : Pass) (xs ys : List Deed)
    → xs ≡ making (folder_of path) None ∷ [] → ys ≡ pass_deeds temporary path mode second
    → pass_deeds temporary path mode first ++ (xs ++ ys) ≡ body_deeds temporary path mode (Again first second)
second_deeds temporary path mode first second xs ys e k =
    ap (λ l. pass_deeds temporary path mode first ++ (l ++ ys)) e
    ∙ ap (λ l. pass_deeds temporary path mode first ++ making (folder_of path) None ∷ l) k

-- the first calls of a second pass
second_begun : (temporary path : Path) (mode : ℕ) (first second : Pass) (xs ys rest : List Deed) → IsPass first
    → pass_refusal first ≡ Some NotFound → IsPass second
    → xs ≡ making (folder_of path) None ∷ [] → ys ++ rest ≡ pass_deeds temporary path mode second
    → BeginsOver temporary path mode (pass_deeds temporary path mode first ++ (xs ++ ys))
second_begun temporary path mode first second xs ys rest is missing is2 e k =
    let before = pass_deeds temporary path mode first in (
      Again first second,
      (is, missing, is2),
      rest,
      append_assoc before (xs ++ ys) rest ∙ ap (λ l. before ++ l) (append_assoc xs ys rest)
          ∙ second_deeds temporary path mode first second xs (ys ++ rest) e k,
    )

-- the folder is made, and the second pass does it
pub again_done : (temporary path : Path) (mode : ℕ) (xs ys : List Deed) → xs ≡ making (folder_of path) None ∷ []
    → IsPassed temporary path mode None ys → IsOverAfter {A = Unit {0}} temporary path mode (Ok tt) (xs ++ ys)
again_done temporary path mode xs ys e h first is missing = (
  Again first h.0,
  (is, missing, h.1),
  answer_done path (pass_refusal h.0) h.2,
  second_deeds temporary path mode first h.0 xs ys e h.3,
)

again_refused_by : (temporary path : Path) (mode : ℕ) (kind : SysErrorKind) (e : SysError) (xs ys : List Deed)
    → xs ≡ making (folder_of path) None ∷ []
    → UnlessWant (Some e.kind) (IsError kind (naming path) e) (Unit {0})
    → (second : Pass) → IsPass second → pass_refusal second ≡ Some kind → ys ≡ pass_deeds temporary path mode second
    → IsOverAfter {A = Unit {0}} temporary path mode (Err e) (xs ++ ys)
again_refused_by temporary path mode kind e xs ys making' named second is2 refusal k first is missing =
    by_refusal _ _ _ _ (Some e.kind)
    (λ error. (
      Again first second,
      (is, missing, is2),
      answer_of_path path (pass_refusal second) kind e refusal error,
      second_deeds temporary path mode first second xs ys making' k,
    ))
    (λ _. second_begun temporary path mode first second xs ys [] is missing is2 making' (append-nil ys ∙ k))
    named

-- the folder is made, and the second pass is refused
pub again_refused : (temporary path : Path) (mode : ℕ) (kind : SysErrorKind) (e : SysError) (xs ys : List Deed)
    → xs ≡ making (folder_of path) None ∷ []
    → HasEnding (naming path) kind e.kind e.message → IsPassed temporary path mode (Some kind) ys
    → IsOverAfter {A = Unit {0}} temporary path mode (Err e) (xs ++ ys)
again_refused temporary path mode NotFound e xs ys m named h =
    again_refused_by temporary path mode NotFound e xs ys m (named_error (naming path) NotFound e named) h.0 h.1 h.2 h.3
again_refused temporary path mode Failed e xs ys m named h =
    again_refused_by temporary path mode Failed e xs ys m (named_error (naming path) Failed e named) h.0 h.1 h.2 h.3
again_refused temporary path mode OutOfMemory e xs ys m named h = λ first is missing.
    wanted_by _ _ e.kind named
    (second_begun temporary path mode first h.0 xs ys h.2 is missing h.1 m h.3)

-- the making of the folder wanted memory
pub again_wanted : (temporary path : Path) (mode : ℕ) (e : SysError) → e.kind ≡ OutOfMemory → (calls : List Deed)
    → calls ≡ []
    → IsOverAfter {A = Unit {0}} temporary path mode (Err e) calls
again_wanted temporary path mode e want calls none first is missing =
    let before = pass_deeds temporary path mode first in
    wanted_by _ _ e.kind want
    (again_begun temporary path mode (before ++ calls) first is missing []
    (append-nil (before ++ calls) ∙ ap (λ l. before ++ l) none ∙ append-nil before))

-- the folder isn't made, and is looked for
pub again_unmade : (temporary path : Path) (mode : ℕ) (kind : SysErrorKind) (e : SysError) (xs ys : List Deed)
    → IsFault kind
    → xs ≡ making (folder_of path) (Some kind) ∷ [] → IsLooked path kind e ys
    → IsOverAfter {A = Unit {0}} temporary path mode (Err e) (xs ++ ys)
again_unmade temporary path mode kind e xs ys fault m looked first is missing =
    let before = pass_deeds temporary path mode first in
    let front = making (folder_of path) (Some kind) ∷ [] in
    by_refusal _ _ _ _ (Some e.kind)
    (λ h. (
      NotMade first kind h.0,
      (is, missing, fault, h.1),
      h.3,
      ap (λ l. before ++ (l ++ ys)) m
          ∙ ap (λ l. before ++ (front ++ l)) h.2,
    ))
    (λ h. (
      NotMade first kind h.0,
      (is, missing, fault, h.1),
      h.2,
      append_assoc before (xs ++ ys) h.2 ∙ ap (λ l. before ++ l) (append_assoc xs ys h.2)
          ∙ ap (λ l. before ++ (l ++ (ys ++ h.2))) m ∙ ap (λ l. before ++ (front ++ l)) h.3,
    ))
    looked

-- what a look leads to
pub looked_there : (path : Path) (kind : SysErrorKind) (e : SysError) (calls : List Deed)
    → calls ≡ look_deed (folder_of path) There ∷ []
    → HasEnding (naming path) NotFound e.kind e.message → IsLooked path kind e calls
looked_there path kind e calls is named =
    by_refusal _ _ _ _ (Some e.kind) (λ error. (There, tt, is, (e, refl, error)))
    (λ _. (There, tt, [], append-nil calls ∙ is)) (named_error (naming path) NotFound e named)

unmade_by : (path : Path) (kind : SysErrorKind) (e : SysError) (calls : List Deed) (look : FolderLook)
    → IsFolderLook look → look_picked kind look ≡ OfFolder kind
    → calls ≡ look_deed (folder_of path) look ∷ []
    → UnlessWant (Some e.kind)
    (IsError kind (naming (folder_of path) ++ codes "\nCheck the permission of the directory.") e) (Unit {0})
    → IsLooked path kind e calls
unmade_by path kind e calls look fine picks is named =
    by_refusal _ _ _ _ (Some e.kind)
    (λ error. (look, fine, is, subst (λ p. IsAnswer {A = Unit {0}} path p (Err e)) (sym picks) (e, refl, error)))
    (λ _. (look, fine, [], append-nil calls ∙ is)) named

pub looked_missing : (path : Path) (kind : SysErrorKind) (e : SysError) (calls : List Deed)
    → calls ≡ look_deed (folder_of path) Missing ∷ []
    → HasEnding (naming (folder_of path) ++ codes "\nCheck the permission of the directory.") kind e.kind e.message
    → IsLooked path kind e calls
looked_missing path kind e calls is named = unmade_by path kind e calls Missing tt refl is (named_error _ kind e named)

pub looked_not_seen : (path : Path) (kind seen : SysErrorKind) (e : SysError) (calls : List Deed) → IsFault seen
    → calls ≡ look_deed (folder_of path) (NotSeen seen) ∷ []
    → HasEnding (naming (folder_of path) ++ codes "\nCheck the permission of the directory.") kind e.kind e.message
    → IsLooked path kind e calls
looked_not_seen path kind seen e calls fault is named =
    unmade_by path kind e calls (NotSeen seen) fault refl is (named_error _ kind e named)

-- the look wanted memory
pub looked_wanted : (path : Path) (kind : SysErrorKind) (e : SysError) (calls : List Deed) → e.kind ≡ OutOfMemory
    → calls ≡ [] → IsLooked path kind e calls
looked_wanted path kind e calls want none =
    wanted_by _ _ e.kind want
    (There, tt, look_deed (folder_of path) There ∷ [], ap (λ l. l ++ look_deed (folder_of path) There ∷ []) none)
