-- The random bytes of a temporary path.
use Rattle.std.proofs.Common.{◌≡◌, ◌≢◌, ℕ, ◌+◌, ◌<◌, ◌≤◌, List, [], ◌∷◌, ◌++◌, length, map, Option, Some, None, Result, Ok, Err, Bool, true, false, ltb, refl, sym, ap, ap₂, subst, ◌∙◌, append-nil, append_assoc, arith, ltb-true, ltb-false}
use Rattle.std.specs.declared.string.String.{String}
use Rattle.std.specs.Prelude.{string_bytes}
use Rattle.sys_traits.specs.declared.error.SysErrorKind.{SysErrorKind}
use Rattle.sys_traits.specs.declared.error.SysErrorKind.TheVariants.{NotFound, Failed, OutOfMemory}
use Rattle.sys_traits.specs.declared.error.SysError.{SysError}
use Rattle.sys_traits.specs.declared.call.SysCallKind.TheVariants.{Random}
use Rattle.sys_traits.specs.Paths.{Path}
use Rattle.sys_traits.specs.State.{Told, WhereTold, refusal_of}
use Rattle.sys_traits.specs.Calls.{Drawn}
use Rattle.deno_path_util.specs.Atomic.{atomic_path}
use Rattle.deno_path_util.specs.Course.{Deed, drawing, draws, UnlessWant, IsFault, Course, NotDrawn, course_deeds, IsCourse, picked, Body, Once, IsBody, body_deeds, body_picked, IsWrite, IsTemporary, IsAnswer, pass_deeds}
use Rattle.deno_path_util.specs.Course as course
use Rattle.deno_path_util.specs.Steps.{Stretch, Quiet, IsFour, IsOver, AreDrawn}
use Rattle.deno_path_util.proofs.ToldLemmas.{told_map, told_two, told_three, ended_by}
use Rattle.deno_path_util.proofs.StretchLemmas.{stretch_then, stretch_are, quiet_stretch, quiet_call, quiet_none, quiet_then, quiet_are, some_error}
use Rattle.deno_path_util.proofs.CourseLemmas.{by_refusal}

pub draws-append : (xs ys : List ℕ) → draws (xs ++ ys) ≡ draws xs ++ draws ys
draws-append [] ys = refl
draws-append (x ∷ xs) ys = ap (λ l. drawing x None ∷ l) (draws-append xs ys)

drawn_quiet : (byte : ℕ) (a b : Told) → Drawn byte None a b → Quiet (AreDrawn (byte ∷ [])) a b
drawn_quiet byte a b h = quiet_call Random [] None byte None (AreDrawn (byte ∷ [])) a b h.0 h.1 refl

-- the first byte
pub told_drawn : (byte : ℕ) (x y : Option Told) → WhereTold (Drawn byte None) x y
    → WhereTold (Quiet (AreDrawn (byte ∷ []))) x y
told_drawn byte x y h = told_map (Drawn byte None) (Quiet (AreDrawn (byte ∷ []))) (drawn_quiet byte) x y h

-- one more byte
pub told_drawn_more : (bytes : List ℕ) (byte : ℕ) (x y z : Option Told) → WhereTold (Quiet (AreDrawn bytes)) x y
    → WhereTold (Drawn byte None) y z
    → WhereTold (Quiet (AreDrawn (bytes ++ byte ∷ []))) x z
told_drawn_more bytes byte x y z h k =
    told_two (Quiet (AreDrawn bytes)) (Drawn byte None) (Quiet (AreDrawn (bytes ++ byte ∷ [])))
    (λ a b c q d. quiet_then (AreDrawn bytes) (AreDrawn (byte ∷ [])) (AreDrawn (bytes ++ byte ∷ []))
    (λ xs ys e f. ap₂ (λ u v. u ++ v) e f ∙ sym (draws-append bytes (byte ∷ []))) a b c q (drawn_quiet byte b c d)) x y
    z h k

-- a byte was refused after these
refused_by : (bytes : List ℕ) (kind : SysErrorKind) → length bytes < 4 → (a b c : Told) → Quiet (AreDrawn bytes) a b
    → Drawn 0 (Some kind) b c
    → (e : SysError) → e.kind ≡ kind → Quiet (IsFour (Err e)) a c
refused_by bytes NotFound few a b c q d e is =
    quiet_then (AreDrawn bytes) (λ calls. calls ≡ drawing 0 (Some NotFound) ∷ []) (IsFour (Err e))
    (λ xs ys h k. subst (λ kind. UnlessWant (Some kind)
    ((bytes : List ℕ) × (length bytes < 4) × (xs ++ ys ≡ draws bytes ++ drawing 0 (Some kind) ∷ []))
    ((bytes : List ℕ) × (length bytes < 4) × (xs ++ ys ≡ draws bytes))) (sym is) (bytes, few, ap₂ (λ u v. u ++ v) h k))
    a b c q
    (quiet_call Random [] None 0 (Some NotFound) (λ calls. calls ≡ drawing 0 (Some NotFound) ∷ []) b c d.0 d.1 refl)
refused_by bytes Failed few a b c q d e is =
    quiet_then (AreDrawn bytes) (λ calls. calls ≡ drawing 0 (Some Failed) ∷ []) (IsFour (Err e))
    (λ xs ys h k. subst (λ kind. UnlessWant (Some kind)
    ((bytes : List ℕ) × (length bytes < 4) × (xs ++ ys ≡ draws bytes ++ drawing 0 (Some kind) ∷ []))
    ((bytes : List ℕ) × (length bytes < 4) × (xs ++ ys ≡ draws bytes))) (sym is) (bytes, few, ap₂ (λ u v. u ++ v) h k))
    a b c q
    (quiet_call Random [] None 0 (Some Failed) (λ calls. calls ≡ drawing 0 (Some Failed) ∷ []) b c d.0 d.1 refl)
refused_by bytes OutOfMemory few a b c q d e is =
    quiet_are (AreDrawn bytes) (IsFour (Err e))
    (λ xs h. subst (λ kind. UnlessWant (Some kind)
    ((bytes : List ℕ) × (length bytes < 4) × (xs ≡ draws bytes ++ drawing 0 (Some kind) ∷ []))
    ((bytes : List ℕ) × (length bytes < 4) × (xs ≡ draws bytes))) (sym is) (bytes, few, h)) a c
    (subst (λ s. Quiet (AreDrawn bytes) a s) (sym d) q)

-- a byte was refused after these
pub told_refused_after : (bytes : List ℕ) (e : SysError) → length bytes < 4 → (x y z : Option Told)
    → WhereTold (Quiet (AreDrawn bytes)) x y → WhereTold (Drawn 0 (Some e.kind)) y z
    → WhereTold (Quiet (IsFour (Err e))) x z
told_refused_after bytes e few x y z h k =
    told_two (Quiet (AreDrawn bytes)) (Drawn 0 (Some e.kind)) (Quiet (IsFour (Err e)))
    (λ a b c q d. refused_by bytes e.kind few a b c q d e refl) x y z h k

pub told_refused_first : (e : SysError) (x y : Option Told) → WhereTold (Drawn 0 (Some e.kind)) x y
    → WhereTold (Quiet (IsFour (Err e))) x y
told_refused_first e x y h =
    told_map (Drawn 0 (Some e.kind)) (Quiet (IsFour (Err e)))
    (λ a b d. refused_by [] e.kind (omega arith) a a b (quiet_none (AreDrawn []) a a refl refl) d e refl) x y h

pub told_four_drawn : (bytes : List ℕ) (x y : Option Told) → WhereTold (Quiet (AreDrawn bytes)) x y
    → WhereTold (Quiet (IsFour (Ok bytes))) x y
told_four_drawn bytes x y h =
    told_map (Quiet (AreDrawn bytes)) (Quiet (IsFour (Ok bytes)))
    (quiet_are (AreDrawn bytes) (IsFour (Ok bytes)) (λ xs k. k)) x y h

-- ---- the temporary path

pub told_temporary : {A : Type 0} (path : Path) (bytes : List ℕ) (temporary : String A) → length bytes ≡ 4
    → string_bytes temporary ≡ atomic_path path bytes → (x y : Option Told)
    → WhereTold (Quiet (IsFour (Ok bytes))) x y → WhereTold (Quiet (IsTemporary path (Ok temporary))) x y
told_temporary path bytes temporary four is x y h =
    told_map (Quiet (IsFour (Ok bytes))) (Quiet (IsTemporary path (Ok temporary)))
    (quiet_are (IsFour (Ok bytes)) (IsTemporary path (Ok temporary)) (λ xs k. (bytes, four, k, is))) x y h

pub told_temporary_wanted : (A : Type 0) (path : Path) (bytes : List ℕ) (e : SysError) → length bytes ≡ 4
    → e.kind ≡ OutOfMemory → (x y : Option Told)
    → WhereTold (Quiet (IsFour (Ok bytes))) x y → WhereTold (Quiet (IsTemporary {A = A} path (Err e))) x y
told_temporary_wanted A path bytes e four want x y h =
    told_map (Quiet (IsFour (Ok bytes))) (Quiet (IsTemporary {A = A} path (Err e)))
    (quiet_are (IsFour (Ok bytes)) (IsTemporary {A = A} path (Err e))
    (λ xs k. subst (λ kind. UnlessWant (Some kind)
    ((bytes : List ℕ) × (length bytes < 4) × (xs ≡ draws bytes ++ drawing 0 (Some kind) ∷ []))
    ((bytes : List ℕ) × (length bytes ≤ 4) × (xs ≡ draws bytes))) (sym want) (bytes, omega arith, k))) x y h

pub told_temporary_refused : (A : Type 0) (path : Path) (e : SysError) (x y : Option Told)
    → WhereTold (Quiet (IsFour (Err e))) x y → WhereTold (Quiet (IsTemporary {A = A} path (Err e))) x y
told_temporary_refused A path e x y h =
    told_map (Quiet (IsFour (Err e))) (Quiet (IsTemporary {A = A} path (Err e)))
    (quiet_are (IsFour (Err e)) (IsTemporary {A = A} path (Err e))
    (λ xs k. by_refusal _ _ _ _ (Some e.kind) (λ t. t) (λ t. (t.0, omega (arith, t.1), t.2)) k)) x y h

-- ---- the whole write

abbrev pub BeginsWrite : Path → ℕ → List Deed → Type 0
BeginsWrite path mode calls =
    (c : Course) × IsCourse c × (rest : List Deed) × (calls ++ rest ≡ course_deeds path mode c)

draws_begun_by : (path : Path) (mode : ℕ) (bytes : List ℕ) (calls : List Deed) → length bytes ≤ 4 → calls ≡ draws bytes
    → (b : Bool) → ltb (length bytes) 4 ≡ b → BeginsWrite path mode calls
draws_begun_by path mode bytes calls few is true e = (
  NotDrawn bytes Failed,
  (ltb-true (length bytes) 4 e, tt),
  drawing 0 (Some Failed) ∷ [],
  ap (λ l. l ++ drawing 0 (Some Failed) ∷ []) is,
)
draws_begun_by path mode bytes calls few is false e =
    let rest = pass_deeds (atomic_path path bytes) path mode course.Renamed in
    let above = ltb-false (length bytes) 4 e in
    (course.Drawn bytes (Once course.Renamed), (omega arith, (tt, λ n. cc)), rest, ap (λ l. l ++ rest) is)

-- some bytes were drawn, and memory ran out
draws_begun : (path : Path) (mode : ℕ) (bytes : List ℕ) (calls : List Deed) → length bytes ≤ 4 → calls ≡ draws bytes
    → BeginsWrite path mode calls
draws_begun path mode bytes calls few is = draws_begun_by path mode bytes calls few is (ltb (length bytes) 4) refl

undrawn_fault : (path : Path) (mode : ℕ) (e : SysError) (kind : SysErrorKind) → IsFault kind → e.kind ≡ kind
    → (calls : List Deed)
    → (bytes : List ℕ) → length bytes < 4 → calls ≡ draws bytes ++ drawing 0 (Some kind) ∷ []
    → IsWrite {A = Unit {0}} path mode (Err e) calls
undrawn_fault path mode e kind fault is calls bytes few k =
    subst (λ q. UnlessWant (Some q)
    ((c : Course) × IsCourse c × IsAnswer {A = Unit {0}} path (picked c) (Err e)
    × (calls ≡ course_deeds path mode c)) (BeginsWrite path mode calls)) (sym is)
    (ended_by _ _ kind fault (NotDrawn bytes kind, (few, fault), (e, refl, is), k))

undrawn : (path : Path) (mode : ℕ) (e : SysError) (kind : SysErrorKind) → e.kind ≡ kind → (calls : List Deed)
    → UnlessWant (Some kind)
    ((bytes : List ℕ) × (length bytes < 4) × (calls ≡ draws bytes ++ drawing 0 (Some kind) ∷ []))
    ((bytes : List ℕ) × (length bytes ≤ 4) × (calls ≡ draws bytes))
    → IsWrite {A = Unit {0}} path mode (Err e) calls
undrawn path mode e NotFound is calls h = undrawn_fault path mode e NotFound tt is calls h.0 h.1 h.2
undrawn path mode e Failed is calls h = undrawn_fault path mode e Failed tt is calls h.0 h.1 h.2
undrawn path mode e OutOfMemory is calls h =
    subst (λ q. UnlessWant (Some q)
    ((c : Course) × IsCourse c × IsAnswer {A = Unit {0}} path (picked c) (Err e)
    × (calls ≡ course_deeds path mode c)) (BeginsWrite path mode calls)) (sym is)
    (draws_begun path mode h.0 calls h.1 h.2)

whole : {A : Type 0} (path : Path) (mode : ℕ) (temporary : String A) (result : Result (Unit {0}) SysError)
    (xs ys : List Deed)
    → IsTemporary path (Ok temporary) xs → IsOver (string_bytes temporary) path mode result ys
    → IsWrite path mode result (xs ++ ys)
whole path mode temporary result xs ys t o =
    let o' : IsOver (atomic_path path t.0) path mode result ys = subst (λ p. IsOver p path mode result ys) t.3 o in
    by_refusal _ _ _ _ (refusal_of result)
    (λ h. (course.Drawn t.0 h.0, (t.1, h.1), h.2, ap₂ (λ u v. u ++ v) t.2 h.3))
    (λ h. (course.Drawn t.0 h.0, (t.1, h.1), h.2, append_assoc xs ys h.2 ∙ ap₂ (λ u v. u ++ v) t.2 h.3))
    o'

-- the temporary path wasn't had
pub told_undrawn : (A : Type 0) (path content : List ℕ) (mode : ℕ) (e : SysError) (x y : Option Told)
    → WhereTold (Quiet (IsTemporary {A = A} path (Err e))) x y
    → WhereTold (Stretch {A = Unit {0}} path content (Err e) (IsWrite {A = Unit {0}} path mode (Err e))) x y
told_undrawn A path content mode e x y h =
    told_map (Quiet (IsTemporary {A = A} path (Err e)))
    (Stretch {A = Unit {0}} path content (Err e) (IsWrite {A = Unit {0}} path mode (Err e)))
    (quiet_stretch path content e (IsTemporary {A = A} path (Err e)) (IsWrite {A = Unit {0}} path mode (Err e))
    (λ xs k. undrawn path mode e e.kind refl xs k)) x y h

-- the temporary path was drawn, and the write over it follows
pub told_whole : {A : Type 0} (path content : List ℕ) (mode : ℕ) (temporary : String A)
    (result : Result (Unit {0}) SysError) (x y z : Option Told)
    → WhereTold (Quiet (IsTemporary path (Ok temporary))) x y
    → WhereTold (Stretch path content result (IsOver (string_bytes temporary) path mode result)) y z
    → WhereTold (Stretch path content result (IsWrite path mode result)) x z
told_whole path content mode temporary result x y z h k =
    told_two (Quiet (IsTemporary path (Ok temporary)))
    (Stretch path content result (IsOver (string_bytes temporary) path mode result))
    (Stretch path content result (IsWrite path mode result))
    (λ a b c q s. stretch_then {A = Unit {0}} path content some_error result (IsTemporary path (Ok temporary))
    (IsOver (string_bytes temporary) path mode result) (IsWrite path mode result)
    (λ xs ys t o. whole path mode temporary result xs ys t o) a b c
    (quiet_stretch path content some_error (IsTemporary path (Ok temporary)) (IsTemporary path (Ok temporary))
    (λ xs h. h) a b q) s) x y z h k
