-- The files that a new system in memory keeps: those that stand at no folder.
use Rattle.std.proofs.Common.{◌≡◌, ◌≢◌, ℕ, zero, suc, ◌+◌, ◌<◌, ◌≤◌, Bool, true, false, cond, List, [], ◌∷◌, length, take, get_or, refl, sym, ap, subst, ◌∙◌, inl, inr, eq-or-lt_of_le, lt_of_lt_of_le, add-one, arith}
use Rattle.std.specs.Prelude.{bytes_eq, not, ltb, ◌||◌, ◌&&◌, slice_index}
use Rattle.std.specs.List.{filter, list_any}
use Rattle.std.specs.Cmp.Lexicographic.{bytes_decides}
use Rattle.std.specs.Cmp.Derive.{both_true}
use Rattle.std.proofs.lemmas.Bool.{ltb-true, lt-ltb}
use Rattle.std.proofs.lemmas.List.{length-take-le}
use Rattle.std.proofs.lemmas.List.Folds.{list_any-append}
use Rattle.std.proofs.Math.Seq.{take-suc}
use Rattle.std.proofs.Math.Bool.{or-false, or_assoc}
use Rattle.sys_traits.specs.Paths.{Path, root, is_below, is_at_or_below}
use Rattle.sys_traits.specs.State.{Files}
use Rattle.sys_traits.specs.Memory.{is_folder}
use Rattle.sys_traits.proofs.FilesLemmas.{File, split_and, below_at, below_is_front}

-- ---- files without those whose paths pass a test

-- the files whose paths don't pass
abbrev pub without : (Path → Bool) → Files → Files
without test files = filter (λ file. not (test file.0)) files

-- tests that agree leave the same files
pub without_alike : (test other : Path → Bool) → ((q : Path) → test q ≡ other q) → (files : Files)
    → without test files ≡ without other files
without_alike test other alike [] = refl
without_alike test other alike (file ∷ files) =
    ap (λ b. cond (not b) (file ∷ without test files) (without test files)) (alike file.0)
    ∙ ap (λ (rest : Files). cond (not (other file.0)) (file ∷ rest) rest) (without_alike test other alike files)

-- where no path passes all files are left
pub without_none : (files : Files) → without (λ q. false) files ≡ files
without_none [] = refl
without_none (file ∷ files) = ap (λ (rest : Files). file ∷ rest) (without_none files)

-- two tests, one after the other
pub without_both : (test other : Path → Bool) (files : Files)
    → without other (without test files) ≡ without (λ q. test q || other q) files
without_both test other [] = refl
without_both test other (file ∷ files) =
    elim (test file.0) as
    (λ b. without other (cond (not b) (file ∷ without test files) (without test files))
    ≡ cond (not (b || other file.0)) (file ∷ without (λ q. test q || other q) files)
    (without (λ q. test q || other q) files)) [
      | true ↦ without_both test other files
      | false ↦ ap (λ (rest : Files). cond (not (other file.0)) (file ∷ rest) rest) (without_both test other files)
    ]

-- ---- the fronts of a folder

-- the path is a front of the folder that ends before a `/`, before this place
abbrev pub is_front : ℕ → Path → Path → Bool
is_front k folder q = ltb (length q) k && is_below q folder

-- two tests that pass together
alike_tests : (a b : Bool) → (a ≡ true → b ≡ true) → (b ≡ true → a ≡ true) → a ≡ b
alike_tests true true there back = refl
alike_tests true false there back = sym (there refl)
alike_tests false true there back = back refl
alike_tests false false there back = refl

or_left : (a b : Bool) → a ≡ true → (a || b) ≡ true
or_left true b is = refl
or_left false b is = absurd cc

or_right : (a b : Bool) → b ≡ true → (a || b) ≡ true
or_right true b is = refl
or_right false b is = is

-- before the first place there is none
pub front_none : (folder q : Path) → is_front 0 folder q ≡ false
front_none folder q = alike_tests (is_front 0 folder q) false never (λ is. absurd cc)
  where
    never : is_front 0 folder q ≡ true → false ≡ true
    never is =
        let parts = split_and (ltb (length q) 0) (is_below q folder) is in
        let before : length q < 0 = ltb-true (length q) 0 parts.0 in
        absurd (omega arith)

-- a place without a `/` adds none
pub front_skipped : (folder : Path) (k : ℕ) → slice_index folder k ≢ 47 → (q : Path)
    → is_front k folder q ≡ is_front (k + 1) folder q
front_skipped folder k plain q = alike_tests (is_front k folder q) (is_front (k + 1) folder q) on back
  where
    on : is_front k folder q ≡ true → is_front (k + 1) folder q ≡ true
    on is =
        let parts = split_and (ltb (length q) k) (is_below q folder) is in
        let before : length q < k = ltb-true (length q) k parts.0 in
        both_true (lt-ltb (length q) (k + 1) (omega arith)) parts.1

    back : is_front (k + 1) folder q ≡ true → is_front k folder q ≡ true
    back is =
        let parts = split_and (ltb (length q) (k + 1)) (is_below q folder) is in
        let before : length q < k + 1 = ltb-true (length q) (k + 1) parts.0 in
        let not_past : length q ≤ k = omega arith in
        elim (eq-or-lt_of_le not_past) [
          | inl e ↦ absurd (plain (subst (λ j. slice_index folder j ≡ 47) e (below_is_front folder q parts.1).1))
          | inr less ↦ both_true (lt-ltb (length q) k less) parts.1
        ]

-- a place with a `/` adds the front before it
pub front_added : (folder : Path) (k : ℕ) → k < length folder → slice_index folder k ≡ 47 → (q : Path)
    → (is_front k folder q || bytes_eq q (take k folder)) ≡ is_front (k + 1) folder q
front_added folder k inside slash q =
    alike_tests (is_front k folder q || bytes_eq q (take k folder)) (is_front (k + 1) folder q) on back
  where
    on_equal : bytes_eq q (take k folder) ≡ true → is_front (k + 1) folder q ≡ true
    on_equal is =
        let same : q ≡ take k folder = (bytes_decides q (take k folder)).0 is in
        let len : length q ≡ k = ap length same ∙ length_front in
        both_true (lt-ltb (length q) (k + 1) (omega arith))
        (subst (λ (p : Path). is_below p folder ≡ true) (sym same) (below_at folder k inside slash))
      where
        length_front : length (take k folder) ≡ k
        length_front = length-take-le k folder (omega arith)

    on_before : is_front k folder q ≡ true → is_front (k + 1) folder q ≡ true
    on_before is =
        let parts = split_and (ltb (length q) k) (is_below q folder) is in
        let before : length q < k = ltb-true (length q) k parts.0 in
        both_true (lt-ltb (length q) (k + 1) (omega arith)) parts.1

    on : (is_front k folder q || bytes_eq q (take k folder)) ≡ true → is_front (k + 1) folder q ≡ true
    on = elim (is_front k folder q) as
        (λ b. is_front k folder q ≡ b → (b || bytes_eq q (take k folder)) ≡ true → is_front (k + 1) folder q ≡ true) [
          | true ↦ λ is either. on_before is
          | false ↦ λ is either. on_equal either
        ] refl

    back : is_front (k + 1) folder q ≡ true → (is_front k folder q || bytes_eq q (take k folder)) ≡ true
    back is =
        let parts = split_and (ltb (length q) (k + 1)) (is_below q folder) is in
        let before : length q < k + 1 = ltb-true (length q) (k + 1) parts.0 in
        let not_past : length q ≤ k = omega arith in
        elim (eq-or-lt_of_le not_past) [
          | inl e ↦
              let same : q ≡ take k folder =
              (below_is_front folder q parts.1).0 ∙ ap (λ j. take j folder) e in
              or_right (is_front k folder q) (bytes_eq q (take k folder)) ((bytes_decides q (take k folder)).1 same)
          | inr less ↦ or_left (is_front k folder q) (bytes_eq q (take k folder))
              (both_true (lt-ltb (length q) k less) parts.1)
        ]

-- all fronts and the folder itself are what stands at the folder or above it
pub front_all : (folder : Path) (k : ℕ) → length folder ≤ k → (q : Path)
    → (is_front k folder q || bytes_eq q folder) ≡ is_at_or_below q folder
front_all folder k whole q =
    alike_tests (is_front k folder q || bytes_eq q folder) (is_at_or_below q folder) on back
  where
    on : (is_front k folder q || bytes_eq q folder) ≡ true → is_at_or_below q folder ≡ true
    on = elim (is_front k folder q) as
        (λ b. is_front k folder q ≡ b → (b || bytes_eq q folder) ≡ true → is_at_or_below q folder ≡ true) [
          | true ↦ λ is either. or_right (bytes_eq folder q) (is_below q folder)
              (split_and (ltb (length q) k) (is_below q folder) is).1
          | false ↦ λ is either. or_left (bytes_eq folder q) (is_below q folder)
              ((bytes_decides folder q).1 (sym ((bytes_decides q folder).0 either)))
        ] refl

    back : is_at_or_below q folder ≡ true → (is_front k folder q || bytes_eq q folder) ≡ true
    back = elim (bytes_eq folder q) as
        (λ b. bytes_eq folder q ≡ b → (b || is_below q folder) ≡ true
        → (is_front k folder q || bytes_eq q folder) ≡ true) [
          | true ↦ λ is either. or_right (is_front k folder q) (bytes_eq q folder)
              ((bytes_decides q folder).1 (sym ((bytes_decides folder q).0 is)))
          | false ↦ λ is either. or_left (is_front k folder q) (bytes_eq q folder)
              (both_true (lt-ltb (length q) k (lt_of_lt_of_le (below_is_front folder q either).2 whole)) either)
        ] refl

-- ---- one folder after another

-- so many of the folders, and the root
abbrev pub is_folder_of : List Path → ℕ → Path → Bool
is_folder_of made i q = is_folder (take i made) q

-- one folder more
pub folder_added : (made : List Path) (i : ℕ) (folder : Path) → i < length made → folder ≡ get_or made i folder
    → (q : Path) → (is_folder_of made i q || is_at_or_below q folder) ≡ is_folder_of made (i + 1) q
folder_added made i folder inside is q =
    or_assoc (bytes_eq q root) (list_any (is_at_or_below q) (take i made)) (is_at_or_below q folder)
    ∙ ap (λ b. bytes_eq q root || b) (sym last)
  where
    last : list_any (is_at_or_below q) (take (i + 1) made)
        ≡ (list_any (is_at_or_below q) (take i made) || is_at_or_below q folder)
    last = ap (λ n. list_any (is_at_or_below q) (take n made)) (add-one i)
        ∙ ap (list_any (is_at_or_below q)) (take-suc made i folder inside)
        ∙ list_any-append (is_at_or_below q) (take i made) (get_or made i folder ∷ [])
        ∙ ap (λ b. list_any (is_at_or_below q) (take i made) || b)
        (or-false (is_at_or_below q (get_or made i folder)) ∙ ap (is_at_or_below q) (sym is))
