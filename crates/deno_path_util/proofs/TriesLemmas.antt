-- Several tries of an atomic write, put together.
use Rattle.std.proofs.Common.{◌≡◌, ◌⊎◌, inl, inr, ℕ, zero, suc, ◌+◌, ◌-◌, ◌*◌, ◌≤◌, ◌<◌, List, [], ◌∷◌, ◌++◌, Option, Some, None, Result, Ok, Err, refl, sym, ap, subst, ◌∙◌, append_assoc, arith}
use Rattle.sys_traits.specs.declared.error.SysErrorKind.{SysErrorKind}
use Rattle.sys_traits.specs.declared.error.SysErrorKind.TheVariants.{NotFound, Failed, OutOfMemory}
use Rattle.sys_traits.specs.declared.error.SysError.{SysError}
use Rattle.sys_traits.specs.declared.call.SysCallKind.TheVariants.{Sleep}
use Rattle.sys_traits.specs.Paths.{Path}
use Rattle.sys_traits.specs.State.{Told, WhereTold, refusal_of, CountsFault}
use Rattle.sys_traits.specs.Calls.{Slept}
use Rattle.deno_path_util.specs.Course.{Deed, sleeping, IsFault, IsWrite}
use Rattle.deno_path_util.specs.Tries.{IsLast, IsRefusedTry, IsSleepless, IsTried, IsCountedSix}
use Rattle.deno_path_util.specs.Steps.{Stretch, Quiet}
use Rattle.deno_path_util.proofs.ToldLemmas.{told_map, told_two, told_three}
use Rattle.deno_path_util.proofs.StretchLemmas.{stretch_then, stretch_are, quiet_stretch, quiet_call, some_error}
use Rattle.deno_path_util.proofs.PassLemmas.{empty_stretch}

-- refused tries, after which so many more may come
abbrev pub AreBefore : Path → ℕ → ℕ → List Deed → Type 0
AreBefore path mode more calls =
    (r : Result (Unit {0}) SysError) (rest : List Deed) → IsTried path mode more r rest
    → IsTried path mode 5 r (calls ++ rest)

-- the told state at the start of a try
abbrev pub Before : Path → List ℕ → ℕ → ℕ → Told → Told → Type 0
Before path content mode more = Stretch {A = Unit {0}} path content (Err some_error) (AreBefore path mode more)

pub told_before : (path content : List ℕ) (mode : ℕ) (x : Option Told) → WhereTold (Before path content mode 5) x x
told_before path content mode None = tt
told_before path content mode (Some a) =
    empty_stretch path content some_error (AreBefore path mode 5) a a refl (λ r rest h. h)

-- a try that was refused, and the sleep after it
abbrev IsSleptAfter : Path → ℕ → ℕ → SysError → List Deed → Type 0
IsSleptAfter path mode ms e calls =
    (tries : List Deed) × IsWrite {A = Unit {0}} path mode (Err e) tries × (calls ≡ tries ++ sleeping ms ∷ [])

one_more : (path : Path) (mode more ms : ℕ) (e : SysError) → ms ≡ 10 * (5 - more) → IsFault e.kind → (xs ys : List Deed)
    → AreBefore path mode (suc more) xs → IsSleptAfter path mode ms e ys → AreBefore path mode more (xs ++ ys)
one_more path mode more ms e is fault xs ys before slept r rest h =
    let joined : ys ++ rest ≡ slept.0 ++ sleeping (10 * (5 - more)) ∷ rest =
    ap (λ l. l ++ rest) slept.2 ∙ append_assoc slept.0 (sleeping ms ∷ []) rest
    ∙ ap (λ n. slept.0 ++ sleeping n ∷ rest) is in
    let all : IsTried path mode 5 r (xs ++ (ys ++ rest)) =
    before r (ys ++ rest)
    (inr (inl (rest, record { error = e; fault = fault; tries = slept.0; write = slept.1; slept = joined }, h))) in
    subst (IsTried path mode 5 r) (sym (append_assoc xs ys rest)) all

pub told_one_more : (path content : List ℕ) (mode more ms : ℕ) (e : SysError) → ms ≡ 10 * (5 - more) → IsFault e.kind
    → (x y z w : Option Told)
    → WhereTold (Before path content mode (suc more)) x y
    → WhereTold (Stretch {A = Unit {0}} path content (Err e) (IsWrite {A = Unit {0}} path mode (Err e))) y z
    → WhereTold (Slept ms None) z w
    → WhereTold (Before path content mode more) x w
told_one_more path content mode more ms e is fault x y z w h k l =
    told_three (Before path content mode (suc more))
    (Stretch {A = Unit {0}} path content (Err e) (IsWrite {A = Unit {0}} path mode (Err e))) (Slept ms None)
    (Before path content mode more)
    (λ a b c d p q s.
    let slept : Stretch {A = Unit {0}} path content (Err some_error) (λ calls. calls ≡ sleeping ms ∷ []) c d =
    quiet_stretch path content some_error (λ calls. calls ≡ sleeping ms ∷ []) (λ calls. calls ≡ sleeping ms ∷ [])
    (λ xs h. h) c d
    (quiet_call Sleep [] None ms None (λ calls. calls ≡ sleeping ms ∷ []) c d s.0 s.1 refl) in
    let tried : Stretch {A = Unit {0}} path content (Err some_error) (IsSleptAfter path mode ms e) b d =
    stretch_then {A = Unit {0}} path content e (Err some_error) (IsWrite {A = Unit {0}} path mode (Err e))
    (λ calls. calls ≡ sleeping ms ∷ []) (IsSleptAfter path mode ms e)
    (λ xs ys t u. (xs, t, ap (λ v. xs ++ v) u)) b c d q slept in
    stretch_then {A = Unit {0}} path content some_error (Err some_error) (AreBefore path mode (suc more))
    (IsSleptAfter path mode ms e) (AreBefore path mode more)
    (one_more path mode more ms e is fault) a b d p tried) x y z w h k l

-- the last try, or one that ends the tries
pub told_ended : (path content : List ℕ) (mode more : ℕ) (result : Result (Unit {0}) SysError)
    → IsLast (refusal_of result) → (x y z : Option Told)
    → WhereTold (Before path content mode (suc more)) x y
    → WhereTold (Stretch path content result (IsWrite path mode result)) y z
    → WhereTold (Stretch path content result (IsTried path mode 5 result)) x z
told_ended path content mode more result last x y z h k =
    told_two (Before path content mode (suc more)) (Stretch path content result (IsWrite path mode result))
    (Stretch path content result (IsTried path mode 5 result))
    (λ a b c p q. stretch_then {A = Unit {0}} path content some_error result (AreBefore path mode (suc more))
    (IsWrite path mode result) (IsTried path mode 5 result)
    (λ xs ys before w. before result ys (inl (last, w))) a b c p q) x y z h k

pub told_sixth : (path content : List ℕ) (mode : ℕ) (result : Result (Unit {0}) SysError) → (x y z : Option Told)
    → WhereTold (Before path content mode 0) x y
    → WhereTold (Stretch path content result (IsWrite path mode result)) y z
    → WhereTold (Stretch path content result (IsTried path mode 5 result)) x z
told_sixth path content mode result x y z h k =
    told_two (Before path content mode 0) (Stretch path content result (IsWrite path mode result))
    (Stretch path content result (IsTried path mode 5 result))
    (λ a b c p q. stretch_then {A = Unit {0}} path content some_error result (AreBefore path mode 0)
    (IsWrite path mode result) (IsTried path mode 5 result)
    (λ xs ys before w. before result ys w) a b c p q) x y z h k

-- the sleep wanted memory
pub told_sleepless : (path content : List ℕ) (mode more ms : ℕ) (e o : SysError) → IsFault e.kind
    → o.kind ≡ OutOfMemory → (x y z w : Option Told)
    → WhereTold (Before path content mode (suc more)) x y
    → WhereTold (Stretch {A = Unit {0}} path content (Err e) (IsWrite {A = Unit {0}} path mode (Err e))) y z
    → WhereTold (Slept ms (Some OutOfMemory)) z w
    → WhereTold (Stretch {A = Unit {0}} path content (Err o) (IsTried {A = Unit {0}} path mode 5 (Err o))) x w
told_sleepless path content mode more ms e o fault want x y z w h k l =
    told_three (Before path content mode (suc more))
    (Stretch {A = Unit {0}} path content (Err e) (IsWrite {A = Unit {0}} path mode (Err e)))
    (Slept ms (Some OutOfMemory))
    (Stretch {A = Unit {0}} path content (Err o) (IsTried {A = Unit {0}} path mode 5 (Err o)))
    (λ a b c d p q s. subst
    (λ t. Stretch {A = Unit {0}} path content (Err o) (IsTried {A = Unit {0}} path mode 5 (Err o)) a t) (sym s)
    (stretch_then {A = Unit {0}} path content some_error (Err o) (AreBefore path mode (suc more))
    (IsWrite {A = Unit {0}} path mode (Err e)) (IsTried {A = Unit {0}} path mode 5 (Err o))
    (λ xs ys before v. before (Err o) ys
    (inr (inr (record { error = e; fault = fault; write = v; want = ap (λ t. Some t) want })))) a b c p
    (stretch_are path content (Err e) (Err o) (IsWrite {A = Unit {0}} path mode (Err e))
    (IsWrite {A = Unit {0}} path mode (Err e)) (λ p f. refl) (λ xs v. v) b c q))) x y z w h k l

pub counted_six : (kind : SysErrorKind) (old between new : ℕ) → old + 5 ≤ between → CountsFault (Some kind) between new
    → IsCountedSix (Some kind) old new
counted_six NotFound old between new l h = omega arith
counted_six Failed old between new l h = omega arith
counted_six OutOfMemory old between new l h = omega arith

pub last_want : (kind : SysErrorKind) → kind ≡ OutOfMemory → IsLast (Some kind)
last_want NotFound e = cc
last_want Failed e = cc
last_want OutOfMemory e = tt

pub six_want : (kind : SysErrorKind) (old new : ℕ) → kind ≡ OutOfMemory → old ≤ new → IsCountedSix (Some kind) old new
six_want NotFound old new e l = cc
six_want Failed old new e l = cc
six_want OutOfMemory old new e l = l
