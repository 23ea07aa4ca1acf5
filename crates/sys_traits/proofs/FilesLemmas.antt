-- Maps from texts to bytes, as files in the order of their paths; and a file that stands where a path needs a folder.
use Rattle.std.proofs.Common.{◌≡◌, ℕ, zero, suc, ◌-◌, ◌<◌, Bool, true, false, cond, List, [], ◌∷◌, length, take, refl, sym, ap, subst, ◌∙◌, Some, None, Option, Global, String, string_bytes, arith}
use Rattle.std.specs.Borrow.{Bor}
use Rattle.std.specs.Option.{option_copied}
use Rattle.std.specs.Prelude.{bytes_eq, is_some, ◌||◌, ◌&&◌, ◌==◌, slice_index, slice_range}
use Rattle.std.specs.List.{AllZip, AllByRecursion}
use Rattle.std.specs.List.Sorted.{IsStrictlySortedBy}
use Rattle.std.specs.Map.{lookup, keys_of, remove_entry}
use Rattle.std.specs.Ordering.{nat_cmp, is_eq}
use Rattle.std.specs.String.{string_cmp}
use Rattle.std.specs.declared.cmp.Ordering.TheVariants.{Less, Equal, Greater}
use Rattle.std.specs.Cmp.Lexicographic.{slice_cmp, texts_ties, bytes_decides}
use Rattle.std.specs.FinMap.{slice_cmp-IsAntisymmetric, nat_cmp-IsAntisymmetric}
use Rattle.std.specs.Cmp.Derive.{both_true}
use Rattle.std.proofs.lemmas.List.{length-take-le}
use Rattle.std.proofs.lemmas.Bool.{eqb-true, eq-eqb}
use Rattle.std.specs.BTreeMap.{is_at, insert_entry}
use Rattle.sys_traits.specs.Paths.{Path, is_below}
use Rattle.sys_traits.specs.State.{Files, file_at}
use Rattle.sys_traits.specs.Files.{files_of, with_file, without_file}
use Rattle.sys_traits.specs.Memory.{is_blocked}

-- one file: a path and its bytes
abbrev pub File : Type 0
File = Path × List ℕ

-- ---- a map as files

-- entries with the same texts and bytes are the same files
pub files_of-clone : {A : Type 0} (es fs : List (String A × List ℕ))
    → AllZip (λ p q. (string_bytes q.0 ≡ string_bytes p.0) × (q.1 ≡ p.1)) es fs → files_of fs ≡ files_of es
files_of-clone [] [] same = refl
files_of-clone (e ∷ es) (f ∷ fs) same =
    let name : string_bytes f.0 ≡ string_bytes e.0 = same.0.0 in
    let bytes : f.1 ≡ e.1 = same.0.1 in
    let rest = files_of-clone es fs same.1 in cc
files_of-clone [] (f ∷ fs) same = absurd same
files_of-clone (e ∷ es) [] same = absurd same

-- what the map has at a path is what the path reads
pub file_at-lookup : {A : Type 0} (path : Path) (es : List (String A × List ℕ))
    → lookup (is_at (λ k. slice_cmp nat_cmp path (string_bytes k))) es ≡ file_at (files_of es) path
file_at-lookup path [] = refl
file_at-lookup path (e ∷ es) =
    ap (λ (rest : Option (List ℕ)). cond (is_eq (slice_cmp nat_cmp path (string_bytes e.0))) (Some e.1) rest)
    (file_at-lookup path es)

-- an entry that is inserted is a file put in its place
pub files_of-insert : (es : List (String Global × List ℕ)) (path : String Global) (bytes : List ℕ)
    → files_of (insert_entry string_cmp es path bytes) ≡ with_file (files_of es) (string_bytes path) bytes
files_of-insert [] path bytes = refl
files_of-insert (e ∷ es) path bytes =
    elim (slice_cmp nat_cmp (string_bytes path) (string_bytes e.0)) as
    (λ o. slice_cmp nat_cmp (string_bytes path) (string_bytes e.0) ≡ o
    → files_of (insert_entry string_cmp (e ∷ es) path bytes) ≡ with_file (files_of (e ∷ es)) (string_bytes path) bytes) [
      | Less ↦ λ is. rw is refl
      | Equal ↦ λ is. rw is refl
      | Greater ↦ λ is. rw is (ap (λ (fs : Files). (string_bytes e.0, e.1) ∷ fs) (files_of-insert es path bytes))
    ] refl

-- ---- an entry taken away

-- a text that doesn't tie is another one
apart : (p q : Path) → is_eq (slice_cmp nat_cmp p q) ≡ false → bytes_eq q p ≡ false
apart p q untied =
    elim (bytes_eq q p) as (λ b. bytes_eq q p ≡ b → b ≡ false) [
      | true ↦ λ is.
          let same : q ≡ p = (bytes_decides q p).0 is in
          sym ((bytes_decides p q).1 (sym same)) ∙ texts_ties p q ∙ untied
      | false ↦ λ is. refl
    ] refl

-- all paths behind one are others
all_others : {A : Type 0} (path : Path) (es : List (String A × List ℕ))
    → AllByRecursion (λ k. slice_cmp nat_cmp path (string_bytes k) ≡ Less) (keys_of es)
    → without_file (files_of es) path ≡ files_of es
all_others path [] above = refl
all_others path (e ∷ es) above =
    let other : bytes_eq (string_bytes e.0) path ≡ false = apart path (string_bytes e.0) (ap is_eq above.0) in
    rw other (ap (λ (fs : Files). (string_bytes e.0, e.1) ∷ fs) (all_others path es above.1))

-- an entry that is removed from a map is a file taken away
pub files_of-remove : (path : Path) (es : List (String Global × List ℕ)) → IsStrictlySortedBy string_cmp (keys_of es)
    → files_of (remove_entry (is_at (λ k. slice_cmp nat_cmp path (string_bytes k))) es)
    ≡ without_file (files_of es) path
unfolding IsStrictlySortedBy
files_of-remove path [] sorted = refl
files_of-remove path (e ∷ es) sorted =
    elim (slice_cmp nat_cmp path (string_bytes e.0)) as (λ o. slice_cmp nat_cmp path (string_bytes e.0) ≡ o
    → files_of (cond (is_eq o) es (e ∷ remove_entry (is_at (λ k. slice_cmp nat_cmp path (string_bytes k))) es))
    ≡ without_file (files_of (e ∷ es)) path) [
      | Less ↦ λ is.
          let other : bytes_eq (string_bytes e.0) path ≡ false = apart path (string_bytes e.0) (ap is_eq is) in
          rw other (ap (λ (fs : Files). (string_bytes e.0, e.1) ∷ fs) (files_of-remove path es sorted.1))
      | Equal ↦ λ is.
          let same : path ≡ string_bytes e.0 =
          slice_cmp-IsAntisymmetric nat_cmp-IsAntisymmetric path (string_bytes e.0) is in
          let here : bytes_eq (string_bytes e.0) path ≡ true = (bytes_decides (string_bytes e.0) path).1 (sym same) in
          let rest : without_file (files_of es) path ≡ files_of es =
          subst (λ (p : Path). without_file (files_of es) p ≡ files_of es) (sym same)
          (all_others (string_bytes e.0) es sorted.0) in
          rw here (sym rest)
      | Greater ↦ λ is.
          let other : bytes_eq (string_bytes e.0) path ≡ false = apart path (string_bytes e.0) (ap is_eq is) in
          rw other (ap (λ (fs : Files). (string_bytes e.0, e.1) ∷ fs) (files_of-remove path es sorted.1))
    ] refl

-- a reference and what it refers to are both there, or none
pub is_some-copied : (o : Option (Bor (List ℕ))) → is_some (option_copied o) ≡ is_some o
is_some-copied None = refl
is_some-copied (Some x) = refl

-- a slice from the start
pub slice_range-start : (xs : List ℕ) (n : ℕ) → slice_range xs 0 n ≡ take n xs
slice_range-start xs n = let same : n - 0 ≡ n = omega arith in ap (λ k. take k xs) same

-- ---- a file where a path needs a folder

-- the front of the path before this place has no file, where a `/` stands there
abbrev pub IsClearAt : Files → Path → ℕ → Type 0
IsClearAt files path k = slice_index path k ≡ 47 → is_some (file_at files (take k path)) ≡ false

-- a file that is read behind the first one is not that of its path
behind_first : (file : File) (files : Files) (path front : Path) → is_below file.0 path ≡ false
    → is_below front path ≡ true
    → is_some (file_at (file ∷ files) front) ≡ true → is_some (file_at files front) ≡ true
behind_first file files path front off below there =
    elim (is_eq (slice_cmp nat_cmp front file.0)) as (λ t. is_eq (slice_cmp nat_cmp front file.0) ≡ t
    → is_some (cond t (Some file.1) (file_at files front)) ≡ true → is_some (file_at files front) ≡ true) [
      | true ↦ λ tie there.
          let same : front ≡ file.0 = (bytes_decides front file.0).0 (texts_ties front file.0 ∙ tie) in
          let e : true ≡ false = sym below ∙ ap (λ (p : Path). is_below p path) same ∙ off in
          absurd cc
      | false ↦ λ tie there. there
    ] refl there

-- a file below which the path stands blocks it
blocked_by : (files : Files) (path front : Path) → is_below front path ≡ true → is_some (file_at files front) ≡ true
    → is_blocked files path ≡ true
blocked_by [] path front below there = absurd cc
blocked_by (file ∷ files) path front below there =
    elim (is_below file.0 path) as (λ b. is_below file.0 path ≡ b → (b || is_blocked files path) ≡ true) [
      | true ↦ λ _. refl
      | false ↦ λ off. blocked_by files path front below (behind_first file files path front off below there)
    ] refl

-- a front that ends before a `/` is a folder that the path stands below
pub below_at : (path : Path) (k : ℕ) → k < length path → slice_index path k ≡ 47 → is_below (take k path) path ≡ true
below_at path k inside slash =
    let len : length (take k path) ≡ k = length-take-le k path (omega arith) in
    rw len (both_true ((bytes_decides (take k path) (take k path)).1 refl) (eq-eqb (slice_index path k) 47 slash))

-- both of two tests pass
pub split_and : (a b : Bool) → (a && b) ≡ true → (a ≡ true) × (b ≡ true)
split_and true true both = (refl, refl)
split_and true false both = absurd cc
split_and false b both = absurd cc

-- a place with a number that isn't 0 is inside
inside_at : (path : Path) (k n : ℕ) → slice_index path k ≡ n → 0 < n → k < length path
inside_at [] k n is some = absurd (omega arith)
inside_at (x ∷ path) zero n is some = omega arith
inside_at (x ∷ path) (suc k) n is some = let rest : k < length path = inside_at path k n is some in omega arith

-- and each such folder is one
pub below_is_front : (path front : Path) → is_below front path ≡ true
    → (front ≡ take (length front) path) × (slice_index path (length front) ≡ 47) × (length front < length path)
below_is_front path front below =
    let parts = split_and (bytes_eq front (take (length front) path)) (slice_index path (length front) == 47) below in
    let slash : slice_index path (length front) ≡ 47 = eqb-true (slice_index path (length front)) 47 parts.1 in
    let inside : length front < length path = inside_at path (length front) 47 slash (omega arith) in
    ((bytes_decides front (take (length front) path)).0 parts.0, slash, inside)

pub blocked_at : (files : Files) (path : Path) (k : ℕ) → k < length path → slice_index path k ≡ 47
    → is_some (file_at files (take k path)) ≡ true
    → is_blocked files path ≡ true
blocked_at files path k inside slash there = blocked_by files path (take k path) (below_at path k inside slash) there

first_there : (file : File) (files : Files) → is_some (file_at (file ∷ files) file.0) ≡ true
first_there file files =
    ap (λ b. is_some (cond b (Some file.1) (file_at files file.0)))
    (sym (texts_ties file.0 file.0) ∙ (bytes_decides file.0 file.0).1 refl)

later_there : (file : File) (files : Files) (q : Path) → is_some (file_at files q) ≡ true
    → is_some (file_at (file ∷ files) q) ≡ true
later_there file files q there =
    elim (is_eq (slice_cmp nat_cmp q file.0)) as
    (λ t. is_some (cond t (Some file.1) (file_at files q)) ≡ true) [ true ↦ refl | false ↦ there ]

clear_of : (path : Path) (files all : Files)
    → ((q : Path) → is_some (file_at files q) ≡ true → is_some (file_at all q) ≡ true)
    → ((q : Path) → is_below q path ≡ true → is_some (file_at all q) ≡ false) → is_blocked files path ≡ false
clear_of path [] all within clear = refl
clear_of path (file ∷ files) all within clear =
    let here : is_below file.0 path ≡ false =
    elim (is_below file.0 path) as (λ b. is_below file.0 path ≡ b → b ≡ false) [
      | true ↦ λ below. sym (within file.0 (first_there file files)) ∙ clear file.0 below
      | false ↦ λ _. refl
    ] refl in
    rw here (clear_of path files all (λ q there. within q (later_there file files q there)) clear)

-- a path whose fronts are clear is not blocked
pub not_blocked : (files : Files) (path : Path) → ((k : ℕ) → k < length path → IsClearAt files path k)
    → is_blocked files path ≡ false
not_blocked files path clear =
    clear_of path files files (λ q there. there) (λ q below.
    let front = below_is_front path q below in
    subst (λ (p : Path). is_some (file_at files p) ≡ false) (sym front.0) (clear (length q) front.2 front.1))
