-- Laws of paths.
use Rattle.std.proofs.Common.{◌≡◌, ℕ, Bool, true, false, List, [], ◌∷◌, ◌++◌, length, refl, sym, ap, ap₂, ◌∙◌, append_assoc, append-nil, codes, ◌||◌}
use Rattle.std.specs.Bool.{if◌then◌else◌}
use Rattle.std.specs.Prelude.{fold, bytes_eq, ◌==◌}
use Rattle.std.specs.List.{All, onto_first, join_with_byte}
use Rattle.std.proofs.lemmas.Bool.{cond-false, cond_both}
use Rattle.std.proofs.lemmas.List.Elements.{All-nil, All-cons, All-head, All-tail, All-append, All-take}
use Rattle.std.proofs.lemmas.List.Splits.{slice_split_none, slice_split_at}
use Rattle.lexical_path.specs.Paths.{parts, is_absolute, after_part, names_of, path_of, needs_normalizing, normal_path}

-- the byte is no slash
abbrev pub IsNoSlash : ℕ → Type 0
IsNoSlash b = (b == 47) ≡ false

-- a text without a slash that is neither empty nor `.` nor `..`
pub record IsName (name : List ℕ) : Type 0 where
  pub whole : All IsNoSlash name
  pub said : (length name == 0 || bytes_eq name (codes ".")) ≡ false
  pub down : bytes_eq name (codes "..") ≡ false

-- no part has a slash
parts_whole : (path : List ℕ) → All (All IsNoSlash) (parts path)
parts_whole [] = All-cons (All IsNoSlash) [] [] (All-nil IsNoSlash) (All-nil (All IsNoSlash))
parts_whole (b ∷ path) =
    elim (b == 47) as (λ v. (b == 47) ≡ v
    → All (All IsNoSlash) (if v then [] ∷ parts path else onto_first b (parts path))) [
      | true ↦ λ _. All-cons (All IsNoSlash) [] (parts path) (All-nil IsNoSlash) (parts_whole path)
      | false ↦ λ other. onto (parts path) other (parts_whole path)
    ] refl
  where
    onto : (rest : List (List ℕ)) → IsNoSlash b → All (All IsNoSlash) rest → All (All IsNoSlash) (onto_first b rest)
    onto [] other whole =
        All-cons (All IsNoSlash) (b ∷ []) [] (All-cons IsNoSlash b [] other (All-nil IsNoSlash))
        (All-nil (All IsNoSlash))
    onto (part ∷ rest) other whole =
        All-cons (All IsNoSlash) (b ∷ part) rest
        (All-cons IsNoSlash b part other (All-head (All IsNoSlash) part rest whole))
        (All-tail (All IsNoSlash) part rest whole)

-- one more part leaves names
after_part_names : (names : List (List ℕ)) (part : List ℕ) → All IsName names → All IsNoSlash part
    → All IsName (after_part names part)
after_part_names names part all whole =
    cond_both _ _ _ (All IsName) (λ _. all)
    (λ said. cond_both _ _ _ (All IsName) (λ _. All-take IsName _ names all)
    (λ down. All-append IsName names (part ∷ []) all
    (All-cons IsName part [] (record { whole = whole; said = said; down = down }) (All-nil IsName))))

fold_names : (names list : List (List ℕ)) → All IsName names → All (All IsNoSlash) list
    → All IsName (fold after_part names list)
fold_names names [] all whole = all
fold_names names (part ∷ list) all whole =
    fold_names (after_part names part) list
    (after_part_names names part all (All-head (All IsNoSlash) part list whole))
    (All-tail (All IsNoSlash) part list whole)

-- what is left of a path are names
pub names_of_names : (path : List ℕ) → All IsName (names_of path)
names_of_names path = fold_names [] (parts path) (All-nil IsName) (parts_whole path)

-- a name is kept
after_part_name : (names : List (List ℕ)) (name : List ℕ) → IsName name → after_part names name ≡ names ++ name ∷ []
after_part_name names name is = cond-false _ _ _ is.said ∙ cond-false _ _ _ is.down

fold_kept : (names list : List (List ℕ)) → All IsName list → fold after_part names list ≡ names ++ list
fold_kept names [] all = sym (append-nil names)
fold_kept names (name ∷ list) all =
    ap (λ first. fold after_part first list) (after_part_name names name (All-head IsName name list all))
    ∙ fold_kept (names ++ name ∷ []) list (All-tail IsName name list all) ∙ append_assoc names (name ∷ []) list

-- joined names are split into the same names
parts_join : (first : List ℕ) (names : List (List ℕ)) → All IsName (first ∷ names)
    → parts (join_with_byte 47 (first ∷ names)) ≡ first ∷ names
parts_join first [] all = slice_split_none (λ b. b == 47) first (All-head IsName first [] all).whole
parts_join first (second ∷ names) all =
    slice_split_at (λ b. b == 47) first 47 (join_with_byte 47 (second ∷ names))
    (All-head IsName first (second ∷ names) all).whole refl
    ∙ ap (λ rest. first ∷ rest) (parts_join second names (All-tail IsName first (second ∷ names) all))

fold_join : (names : List (List ℕ)) → All IsName names → fold after_part [] (parts (join_with_byte 47 names)) ≡ names
fold_join [] all = refl
fold_join (first ∷ names) all = ap (fold after_part []) (parts_join first names all) ∙ fold_kept [] (first ∷ names) all

-- joined names leave the same names
pub names_of-path_of : (absolute : Bool) (names : List (List ℕ)) → All IsName names
    → names_of (path_of absolute names) ≡ names
names_of-path_of true names all = fold_join names all
names_of-path_of false names all = fold_join names all

starts_other : (name rest : List ℕ) → IsName name → is_absolute (name ++ rest) ≡ false
starts_other [] rest is = absurd (cc is.said)
starts_other (b ∷ name) rest is = All-head IsNoSlash b name is.whole

-- joined names are absolute just where they were
pub is_absolute-path_of : (absolute : Bool) (names : List (List ℕ)) → All IsName names
    → is_absolute (path_of absolute names) ≡ absolute
is_absolute-path_of true names all = refl
is_absolute-path_of false [] all = refl
is_absolute-path_of false (first ∷ []) all =
    ap is_absolute (sym (append-nil first)) ∙ starts_other first [] (All-head IsName first [] all)
is_absolute-path_of false (first ∷ second ∷ names) all =
    starts_other first _ (All-head IsName first (second ∷ names) all)

-- a path that stands for itself
normal_path_fixed : (path : List ℕ) → path_of (is_absolute path) (names_of path) ≡ path → normal_path path ≡ path
unfolding normal_path
normal_path_fixed path same = cond_both (needs_normalizing path) _ _ (λ normal. normal ≡ path) (λ _. same) (λ _. refl)

-- the normalized path of a normalized path is that path
pub normal_path_again : (path : List ℕ) → normal_path (normal_path path) ≡ normal_path path
unfolding normal_path
normal_path_again path =
    cond_both (needs_normalizing path) (path_of (is_absolute path) (names_of path)) path
    (λ normal. normal_path normal ≡ normal)
    (λ _. normal_path_fixed (path_of (is_absolute path) (names_of path))
    (ap₂ path_of (is_absolute-path_of (is_absolute path) (names_of path) (names_of_names path))
    (names_of-path_of (is_absolute path) (names_of path) (names_of_names path))))
    (λ other. cond-false _ _ _ other)
