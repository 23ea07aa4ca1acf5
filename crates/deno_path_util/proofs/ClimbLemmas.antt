-- The climb to the longest path that is there.
use Rattle.std.proofs.Common.{◌≡◌, ◌⊎◌, inl, inr, ℕ, ◌+◌, ◌<◌, ◌≤◌, Bool, true, false, cond, eqb, codes, List, [], ◌∷◌, ◌++◌, length, Option, Some, None, Result, Ok, Err, refl, sym, ap, subst, ◌∙◌, string_bytes, append_assoc, append-nil, arith}
use Rattle.std.specs.declared.string.String.{String}
use Rattle.std.specs.Path.{path_join, path_parent, path_file_name, path_components, path_names, split_last_component, trim_trailing, rsplit_once}
use Rattle.std.specs.Prelude.{is_some}
use Rattle.std.proofs.lemmas.Paths.{path_components_parent}
use Rattle.std.proofs.lemmas.List.{length_push}
use Rattle.std.proofs.lemmas.Bool.{cond_both}
use Rattle.sys_traits.specs.declared.error.SysErrorKind.{SysErrorKind}
use Rattle.sys_traits.specs.declared.error.SysErrorKind.TheVariants.{NotFound, Failed, OutOfMemory}
use Rattle.sys_traits.specs.declared.error.SysError.{SysError}
use Rattle.sys_traits.specs.declared.call.SysCallKind.TheVariants.{Canonicalize}
use Rattle.sys_traits.specs.Paths.{Path}
use Rattle.sys_traits.specs.State.{Told, WhereTold}
use Rattle.sys_traits.specs.Calls.{Canonicalized}
use Rattle.deno_path_util.specs.Course.{Deed, IsFault, UnlessWant}
use Rattle.deno_path_util.specs.Climb.{asking, or_here, Outcome, with_name, IsClimb, IsClimbed}
use Rattle.deno_path_util.specs.Steps.{Quiet, joined_names}
use Rattle.deno_path_util.proofs.ToldLemmas.{told_map, told_two}
use Rattle.deno_path_util.proofs.StretchLemmas.{quiet_call, quiet_none, quiet_then, quiet_are}

-- no name or no parent is left
abbrev pub IsTop : Path → Type 0
IsTop path = (path_file_name path ≡ None) ⊎ (path_parent path ≡ None)

climbs : (path name folder : Path) (above : Outcome) → path_file_name path ≡ Some name → path_parent path ≡ Some folder
    → (xs ys : List Deed)
    → xs ≡ asking path None (Some NotFound) ∷ [] → IsClimb ys (or_here folder) above
    → IsClimb (xs ++ ys) path (with_name name above)
climbs path name folder above named parent xs ys is h =
    subst (λ l. IsClimb (l ++ ys) path (with_name name above)) (sym is)
    (inr (inr (name, folder, above, named, parent, refl, h, refl)))

-- ---- many steps

-- what comes of a climb, with these names behind it
abbrev pub with_names : List Path → Outcome → Outcome
with_names names (Ok path) = Ok (joined_names names path)
with_names names (Err kind) = Err kind

-- these calls found so many names missing: any climb from here goes on with them
abbrev pub Leads : Path → Path → List Path → List Deed → Type 0
Leads path here names calls =
    (rest : List Deed) (outcome : Outcome) → IsClimb rest here outcome
    → IsClimb (calls ++ rest) path (with_names names outcome)

joined_more : (names : List Path) (name path : Path)
    → joined_names (names ++ name ∷ []) path ≡ joined_names names (path_join path name)
joined_more [] name path = refl
joined_more (other ∷ names) name path = ap (λ p. path_join p other) (joined_more names name path)

pub joined_popped : (names : List Path) (name path joined : Path) → joined ≡ path_join path name
    → joined_names (names ++ name ∷ []) path ≡ joined_names names joined
joined_popped names name path joined is = joined_more names name path ∙ ap (joined_names names) (sym is)

names_more : (names : List Path) (name : Path) (outcome : Outcome)
    → with_names names (with_name name outcome) ≡ with_names (names ++ name ∷ []) outcome
names_more names name (Ok path) = ap (λ (p : Path). outcome_at p) (sym (joined_more names name path))
  where
    outcome_at : Path → Outcome
    outcome_at p = Ok p
names_more names name (Err kind) = refl

leads_none : (path : Path) → Leads path path [] []
leads_none path rest (Ok found) h = h
leads_none path rest (Err kind) h = h

pub told_begun : (path : Path) (x : Option Told) → WhereTold (Quiet (Leads path path [])) x x
told_begun path None = tt
told_begun path (Some a) = quiet_none (Leads path path []) a a refl (leads_none path)

-- a call that answers, and one that is refused
abbrev is_asked : Path → Option Path → Option SysErrorKind → List Deed → Type 0
is_asked here answer refused calls = calls ≡ asking here answer refused ∷ []

-- the last call of a climb
module _ (path here : Path) (names : List Path) (Is : List Deed → Type 0) (answer : Option Path)
    (refused : Option SysErrorKind)
    (quiet : (a b : Told) → Canonicalized here answer refused a b → Quiet (is_asked here answer refused) a b)
    (ends : (calls : List Deed) → Leads path here names calls → Is (calls ++ asking here answer refused ∷ [])) where
  told_last : (x y z : Option Told) → WhereTold (Quiet (Leads path here names)) x y
      → WhereTold (Canonicalized here answer refused) y z
      → WhereTold (Quiet Is) x z
  told_last x y z h k =
      told_two (Quiet (Leads path here names)) (Canonicalized here answer refused) (Quiet Is)
      (λ a b c p q. quiet_then (Leads path here names) (is_asked here answer refused) Is
      (λ xs ys leads is. subst (λ l. Is (xs ++ l)) (sym is) (ends xs leads)) a b c p (quiet b c q)) x y z h k

answered_quiet : (here answer : Path) (a b : Told) → Canonicalized here (Some answer) None a b
    → Quiet (is_asked here (Some answer) None) a b
answered_quiet here answer a b h =
    quiet_call Canonicalize here (Some answer) 0 None (is_asked here (Some answer) None) a b h.0 h.1 refl

refused_quiet : (here : Path) (kind : SysErrorKind) → IsFault kind → (a b : Told)
    → Canonicalized here None (Some kind) a b
    → Quiet (is_asked here None (Some kind)) a b
refused_quiet here NotFound f a b h =
    quiet_call Canonicalize here None 0 (Some NotFound) (is_asked here None (Some NotFound)) a b h.0 h.1 refl
refused_quiet here Failed f a b h =
    quiet_call Canonicalize here None 0 (Some Failed) (is_asked here None (Some Failed)) a b h.0 h.1 refl
refused_quiet here OutOfMemory f a b h = absurd f

-- a real path was had, and joined
pub told_found : {A : Type 0} (path here : Path) (names : List Path) (found joined : String A)
    → string_bytes joined ≡ joined_names names (string_bytes found) → (x y z : Option Told)
    → WhereTold (Quiet (Leads path here names)) x y
    → WhereTold (Canonicalized here (Some (string_bytes found)) None) y z
    → WhereTold (Quiet (IsClimbed path (Ok joined))) x z
told_found path here names found joined is =
    told_last path here names (IsClimbed path (Ok joined)) (Some (string_bytes found)) None
    (answered_quiet here (string_bytes found))
    (λ calls leads. subst (λ p. IsClimb (calls ++ asking here (Some (string_bytes found)) None ∷ []) path (Ok p))
    (sym is)
    (leads (asking here (Some (string_bytes found)) None ∷ []) (Ok (string_bytes found))
    (inl (string_bytes found, refl, refl, refl))))

-- calls with which a climb can begin
abbrev Begins : Path → List Deed → Type 0
Begins path calls = (rest : List Deed) × (outcome : Outcome) × IsClimb (calls ++ rest) path outcome

-- memory ran out
climbed_wanted : (A : Type 0) (path : Path) (e : SysError) → e.kind ≡ OutOfMemory → (calls : List Deed)
    → Begins path calls
    → IsClimbed {A = A} path (Err e) calls
climbed_wanted A path e want calls h =
    subst (λ kind. UnlessWant (Some kind) (IsClimb calls path (Err kind)) (Begins path calls)) (sym want) h

-- before the next call
leads_begin : (path here : Path) (names : List Path) (calls : List Deed) → Leads path here names calls
    → Begins path calls
leads_begin path here names calls leads = (
  asking here (Some []) None ∷ [],
  with_names names (Ok []),
  leads (asking here (Some []) None ∷ []) (Ok []) (inl ([], refl, refl, refl)),
)

-- a real path was had, and memory ran out
pub told_unjoined : (A : Type 0) (path here : Path) (names : List Path) (found : String A) (e : SysError)
    → e.kind ≡ OutOfMemory → (x y z : Option Told)
    → WhereTold (Quiet (Leads path here names)) x y
    → WhereTold (Canonicalized here (Some (string_bytes found)) None) y z
    → WhereTold (Quiet (IsClimbed {A = A} path (Err e))) x z
told_unjoined A path here names found e want =
    told_last path here names (IsClimbed {A = A} path (Err e)) (Some (string_bytes found)) None
    (answered_quiet here (string_bytes found))
    (λ calls leads. let ended =
    leads (asking here (Some (string_bytes found)) None ∷ []) (Ok (string_bytes found))
    (inl (string_bytes found, refl, refl, refl)) in
    climbed_wanted A path e want (calls ++ asking here (Some (string_bytes found)) None ∷ []) (
      [],
      with_names names (Ok (string_bytes found)),
      subst (λ l. IsClimb l path (with_names names (Ok (string_bytes found)))) (sym (append-nil _)) ended,
    ))

-- the call was refused, and that is answered
pub told_stopped : (A : Type 0) (path here : Path) (names : List Path) (e : SysError)
    → (e.kind ≡ NotFound → IsTop here) → (x y z : Option Told)
    → WhereTold (Quiet (Leads path here names)) x y → WhereTold (Canonicalized here None (Some e.kind)) y z
    → WhereTold (Quiet (IsClimbed {A = A} path (Err e))) x z
told_stopped A path here names e top x y z h k = by_kind e.kind top k
  where
    Climbed : SysErrorKind → List Deed → Type 0
    Climbed kind calls = UnlessWant (Some kind) (IsClimb calls path (Err kind)) (Begins path calls)

    by_kind : (kind : SysErrorKind) → (kind ≡ NotFound → IsTop here)
        → WhereTold (Canonicalized here None (Some kind)) y z
        → WhereTold (Quiet (Climbed kind)) x z
    by_kind NotFound top k =
        told_last path here names (Climbed NotFound) None (Some NotFound) (refused_quiet here NotFound tt)
        (λ calls leads. leads (asking here None (Some NotFound) ∷ []) (Err NotFound)
        (inr (inl (NotFound, tt, refl, refl, refl, top)))) x y z h k
    by_kind Failed top k =
        told_last path here names (Climbed Failed) None (Some Failed) (refused_quiet here Failed tt)
        (λ calls leads. leads (asking here None (Some Failed) ∷ []) (Err Failed)
        (inr (inl (Failed, tt, refl, refl, refl, top)))) x y z h k
    by_kind OutOfMemory top k =
        told_two (Quiet (Leads path here names)) (Canonicalized here None (Some OutOfMemory))
        (Quiet (Climbed OutOfMemory))
        (λ a b c p q. quiet_then (Leads path here names) (λ calls. calls ≡ []) (Climbed OutOfMemory)
        (λ xs ys leads is. subst (λ l. Begins path (xs ++ l)) (sym is)
        (subst (Begins path) (sym (append-nil xs)) (leads_begin path here names xs leads)))
        a b c p (quiet_none (λ calls. calls ≡ []) b c q refl)) x y z h k

-- one more name is missing
pub told_missing : (path here : Path) (names : List Path) (name folder : Path) (kind : SysErrorKind) → kind ≡ NotFound
    → path_file_name here ≡ Some name → path_parent here ≡ Some folder → (x y z : Option Told)
    → WhereTold (Quiet (Leads path here names)) x y → WhereTold (Canonicalized here None (Some kind)) y z
    → WhereTold (Quiet (Leads path (or_here folder) (names ++ name ∷ []))) x z
told_missing path here names name folder kind missing named parent x y z h k =
    told_last path here names (Leads path (or_here folder) (names ++ name ∷ [])) None (Some NotFound)
    (refused_quiet here NotFound tt)
    (λ calls leads rest outcome climb.
    let one = leads (asking here None (Some NotFound) ∷ rest) (with_name name outcome)
    (climbs here name folder outcome named parent (asking here None (Some NotFound) ∷ []) rest refl climb) in
    subst (λ l. IsClimb l path (with_names (names ++ name ∷ []) outcome))
    (sym (append_assoc calls (asking here None (Some NotFound) ∷ []) rest))
    (subst (IsClimb (calls ++ asking here None (Some NotFound) ∷ rest) path) (names_more names name outcome) one)) x y
    z h
    (subst (λ q. WhereTold (Canonicalized here None (Some q)) y z) missing k)

-- and there is no memory to keep it
pub told_unkept : (A : Type 0) (path here : Path) (names : List Path) (e : SysError) → e.kind ≡ OutOfMemory
    → (x y : Option Told)
    → WhereTold (Quiet (Leads path here names)) x y → WhereTold (Quiet (IsClimbed {A = A} path (Err e))) x y
told_unkept A path here names e want =
    told_map (Quiet (Leads path here names)) (Quiet (IsClimbed {A = A} path (Err e)))
    (quiet_are (Leads path here names) (IsClimbed {A = A} path (Err e))
    (λ calls leads. climbed_wanted A path e want calls (leads_begin path here names calls leads)))

-- ---- the climb ends

-- the components of a path, and one more where it has a file name
abbrev pub rank : Path → ℕ
rank path = length (path_components path) + cond (is_some (path_file_name path)) 1 0

rank_here : rank (codes ".") ≡ 1
unfolding path_components path_names path_file_name split_last_component trim_trailing rsplit_once
rank_here = refl

name_counts : (b : Bool) → cond b 1 0 ≤ 1
name_counts true = omega arith
name_counts false = omega arith

pub rank_above : (path name folder : Path) → path_file_name path ≡ Some name → path_parent path ≡ Some folder
    → rank (or_here folder) < rank path
rank_above path name folder named parent =
    let last = path_components_parent path folder parent in
    let long : length (path_components path) ≡ length (path_components folder) + 1 =
    ap length last.1 ∙ length_push (path_components folder) last.0 in
    let own : rank path ≡ length (path_components path) + 1 =
    ap (λ r. length (path_components path) + cond (is_some r) 1 0) named in
    cond_both (eqb (length folder) 0) (codes ".") folder (λ p. rank p < rank path)
    (λ _. omega (arith, rank_here)) (λ _. omega (arith, name_counts (is_some (path_file_name folder))))
