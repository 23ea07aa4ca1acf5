-- The temporary path has another file name than its path, so it stands at another place.
use Rattle.std.proofs.Common.{◌≡◌, ◌≢◌, ◌⊎◌, inl, inr, ℕ, zero, suc, ◌+◌, ◌-◌, ◌/◌, ◌%◌, ◌<◌, ◌≤◌, Bool, true, false, not, cond, ◌&&◌, ◌||◌, eqb, List, [], ◌∷◌, ◌++◌, length, get_or, take, drop, filter, Option, Some, None, IfSome, IsSome, MatchOption, get_or-drop, length-drop, take-append-drop, take-take, ltb-true, refl, sym, ap, ap₂, subst, ◌∙◌, append_assoc, append-nil, arith, codes, ne_eqb, eqb-true, length-append, length-take, take_all, nat_eq}
use Rattle.std.specs.Prelude.{slice_index, fold, bytes_eq, option_map, is_some}
use Rattle.std.specs.Option.{option_flatten}
use Rattle.std.specs.List.{slice_split, onto_first}
use Rattle.std.specs.Path.{slash, dot, root_dir, cur_dir, parent_dir, has_no_slash, HasNoSlash, first_piece, later_pieces, is_name, path_names, leading_components, is_dot_at, path_components, with_separator, path_join, trim_trailing, rfind_below, rsplit_once, parent_and_last, split_last_component, normal_name, path_file_name, extension_of_split, path_extension, dot_extension_len, stem_end, stem_and_dot, trimmed_len, path_set_extension, IsAbsolute, IsRelative}
use Rattle.std.proofs.lemmas.List.{take_more, drop_more, same_from_push, length_push, get_or_push, get_or_at, take-append-le}
use Rattle.std.proofs.lemmas.Slice.Eq.{bytes_eq-Decides}
use Rattle.std.proofs.lemmas.List.Elements.{filter_passes, filter-append}
use Rattle.std.proofs.lemmas.Bool.{cond-true, cond-false, cond_both, or_parts, or_from, cases_eq, eqb-false}
use Rattle.std.proofs.lemmas.Paths.{path_components_file_name}
use Rattle.lexical_path.specs.Paths.{parts, after_part, names_of, path_of, needs_normalizing, normal_path, is_absolute, path_in}
use Rattle.lexical_path.proofs.Theorems.{names_of-path_of, names_of_names}
use Rattle.sys_traits.specs.Paths.{spot}
use Rattle.deno_path_util.specs.Atomic.{atomic_path, temporary_end, IsTemporaryPath}
use Rattle.deno_path_util.specs.Steps.{IsApart}
use Rattle.hex.specs.Hex.{encode_with, encode_lower, lower_digits}

-- ---- the names of a path, by std's words

pieces : (path : List ℕ) → parts path ≡ first_piece path ∷ later_pieces path
pieces [] = refl
pieces (b ∷ rest) =
    elim (eqb b slash) as
    (λ v. cond v ([] ∷ parts rest) (onto_first b (parts rest)) ≡ cond v [] (b ∷ first_piece rest)
    ∷ cond v (first_piece rest ∷ later_pieces rest) (later_pieces rest)) [
      | true ↦ ap (λ l. [] ∷ l) (pieces rest)
      | false ↦ ap (onto_first b) (pieces rest)
    ]

-- the part is empty or `.`
abbrev is_nothing : List ℕ → Bool
is_nothing part = eqb (length part) 0 || bytes_eq part cur_dir

fold_names_by : (names : List (List ℕ)) (part : List ℕ) (list : List (List ℕ)) (v : Bool) → is_nothing part ≡ v
    → ((ns : List (List ℕ)) → fold after_part ns list ≡ fold after_part ns (filter is_name list))
    → fold after_part names (part ∷ list) ≡ fold after_part names (filter is_name (part ∷ list))
fold_names_by names part list true e same =
    let other : List (List ℕ) = cond (bytes_eq part parent_dir) (take (length names - 1) names) (names ++ part ∷ []) in
    ap (λ b. fold after_part (cond b names other) list) e ∙ same names
    ∙ sym (ap (λ b. fold after_part names (cond (not b) (part ∷ filter is_name list) (filter is_name list))) e)
fold_names_by names part list false e same =
    same (after_part names part)
    ∙ sym (ap (λ b. fold after_part names (cond (not b) (part ∷ filter is_name list) (filter is_name list))) e)

-- empty parts and `.` change nothing
fold_names : (names list : List (List ℕ)) → fold after_part names list ≡ fold after_part names (filter is_name list)
fold_names names [] = refl
fold_names names (part ∷ list) = fold_names_by names part list (is_nothing part) refl (λ ns. fold_names ns list)

names_of-path_names : (path : List ℕ) → names_of path ≡ fold after_part [] (path_names path)
unfolding path_names
names_of-path_names path = ap (fold after_part []) (pieces path) ∙ fold_names [] (first_piece path ∷ later_pieces path)

names_of-normal_path : (path : List ℕ) → names_of (normal_path path) ≡ names_of path
unfolding normal_path
names_of-normal_path path =
    cond_both (needs_normalizing path) (path_of (is_absolute path) (names_of path)) path
    (λ normal. names_of normal ≡ names_of path)
    (λ _. names_of-path_of (is_absolute path) (names_of path) (names_of_names path)) (λ _. refl)

fold_append : (names xs ys : List (List ℕ))
    → fold after_part names (xs ++ ys) ≡ fold after_part (fold after_part names xs) ys
fold_append names [] ys = refl
fold_append names (x ∷ xs) ys = fold_append (after_part names x) xs ys

-- ---- names behind a folder

first_before : (xs ys : List ℕ) → first_piece (xs ++ slash ∷ ys) ≡ first_piece xs
first_before [] ys = refl
first_before (x ∷ xs) ys = ap (λ l. cond (eqb x slash) [] (x ∷ l)) (first_before xs ys)

later_behind : (xs ys : List ℕ)
    → later_pieces (xs ++ slash ∷ ys) ≡ later_pieces xs ++ (first_piece ys ∷ later_pieces ys)
later_behind [] ys = refl
later_behind (x ∷ xs) ys =
    elim (eqb x slash) as
    (λ v. cond v (first_piece (xs ++ slash ∷ ys) ∷ later_pieces (xs ++ slash ∷ ys))
    (later_pieces (xs ++ slash ∷ ys))
    ≡ cond v (first_piece xs ∷ later_pieces xs) (later_pieces xs) ++ (first_piece ys ∷ later_pieces ys)) [
      | true ↦ ap₂ (λ a b. a ∷ b) (first_before xs ys) (later_behind xs ys)
      | false ↦ later_behind xs ys
    ]

path_names-append : (xs ys : List ℕ) → path_names (xs ++ slash ∷ ys) ≡ path_names xs ++ path_names ys
unfolding path_names
path_names-append xs ys =
    ap (filter is_name) (ap₂ (λ a b. a ∷ b) (first_before xs ys) (later_behind xs ys))
    ∙ filter-append is_name (first_piece xs ∷ later_pieces xs) (first_piece ys ∷ later_pieces ys)

path_components_is : (path : List ℕ) → path_components path ≡ leading_components path ++ path_names path
unfolding path_components
path_components_is path = refl

-- ---- the last of a byte

-- no byte is `c`
abbrev pub Lacks : ℕ → List ℕ → Type 0
Lacks c text = (i : ℕ) → i < length text → get_or text i 0 ≡ c → ⊥

-- the last `c` among the first `n` bytes
abbrev IsLastOf : ℕ → List ℕ → ℕ → Option ℕ → Type 0
IsLastOf c text n None = (i : ℕ) → i < n → get_or text i 0 ≡ c → ⊥
IsLastOf c text n (Some k) = (k < n) × (get_or text k 0 ≡ c) × ((i : ℕ) → k < i → i < n → get_or text i 0 ≡ c → ⊥)

last_wider : (c : ℕ) (text : List ℕ) (n : ℕ) (r : Option ℕ) → (get_or text n 0 ≡ c → ⊥) → IsLastOf c text n r
    → IsLastOf c text (suc n) r
last_wider c text n None other h =
    λ i l e. elim (cases_eq i n)
    [ inl here ↦ other (ap (λ j. get_or text j 0) (sym here) ∙ e) | inr below ↦ h i (omega arith) e ]
last_wider c text n (Some k) other h = (
  omega (arith, h.0),
  h.1,
  λ i a l e. elim (cases_eq i n)
      [ inl here ↦ other (ap (λ j. get_or text j 0) (sym here) ∙ e) | inr below ↦ h.2 i a (omega arith) e ],
)

rfind_is : (c : ℕ) (text : List ℕ) (n : ℕ) → IsLastOf c text n (rfind_below c text n)
rfind_is c text zero = λ i l. absurd (omega arith)
rfind_is c text (suc n) =
    cond_both (eqb (get_or text n 0) c) (Some n) (rfind_below c text n) (IsLastOf c text (suc n))
    (λ e. (omega arith, eqb-true (get_or text n 0) c e, λ i a l. absurd (omega arith)))
    (λ e. last_wider c text n (rfind_below c text n) (eqb-false (get_or text n 0) c e) (rfind_is c text n))

split_by : (c : ℕ) (text : List ℕ) (r : Option ℕ) → IsLastOf c text (length text) r
    → MatchOption {T = List ℕ × List ℕ} (option_map (λ i. (take i text, drop (i + 1) text)) r) (Lacks c text)
    (λ split. (text ≡ split.0 ++ c ∷ split.1) × Lacks c split.1)
split_by c text None h = h
split_by c text (Some k) h = (
  sym (take-append-drop k text)
      ∙ ap (λ l. take k text ++ l) (drop_more text k 0 h.0 ∙ ap (λ b. b ∷ drop (k + 1) text) h.1),
  λ i l e. h.2 ((k + 1) + i) (omega arith) (omega (arith, length-drop (k + 1) text))
      (sym (get_or-drop (k + 1) text i 0) ∙ e),
)

rsplit_once_parts : (c : ℕ) (text : List ℕ)
    → MatchOption (rsplit_once c text) (Lacks c text) (λ split. (text ≡ split.0 ++ c ∷ split.1) × Lacks c split.1)
unfolding rsplit_once
rsplit_once_parts c text = split_by c text (rfind_below c text (length text)) (rfind_is c text (length text))

-- ---- a path seen from a folder

-- the text is empty or ends with a slash
abbrev EndsFolder : List ℕ → Type 0
EndsFolder text = (text ≡ []) ⊎ ((front : List ℕ) × (text ≡ front ++ slash ∷ []))

-- the names of a path behind a folder come last
names_behind : (folder path : List ℕ) → EndsFolder folder
    → (front : List (List ℕ)) × (path_names (folder ++ path) ≡ front ++ path_names path)
names_behind folder path (inl e) = ([], ap (λ f. path_names (f ++ path)) e)
names_behind folder path (inr e) = (
  path_names e.0,
  ap (λ f. path_names (f ++ path)) e.1 ∙ ap path_names (append_assoc e.0 (slash ∷ []) path)
      ∙ path_names-append e.0 path,
)

last_split : (base : List ℕ) → eqb (get_or base (length base - 1) 0) slash ≡ true → 0 < length base
    → base ≡ take (length base - 1) base ++ slash ∷ []
last_split base e some =
    sym (take_all ((length base - 1) + 1) base (omega arith)) ∙ take_more base (length base - 1) 0 (omega arith)
    ∙ ap (λ b. take (length base - 1) base ++ b ∷ []) (eqb-true (get_or base (length base - 1) 0) slash e)

right_of : (x y : Bool) → (x || y) ≡ true → x ≡ false → y ≡ true
right_of true y e f = cc
right_of false y e f = e

separator_ends : (base : List ℕ) → EndsFolder (with_separator base)
separator_ends [] = inl refl
separator_ends (b ∷ rest) =
    let base = b ∷ rest in
    cond_both (eqb (length base) 0 || eqb (get_or base (length base - 1) 0) slash) base (base ++ slash ∷ []) EndsFolder
    (λ e. inr (
      take (length base - 1) base,
      last_split base (right_of (eqb (length base) 0) _ e (ne_eqb (length base) 0 (λ z. omega arith))) (omega arith),
    ))
    (λ _. inr (base, refl))

-- so it is of a path seen from a folder
names_joined : (base path : List ℕ)
    → (front : List (List ℕ)) × (path_names (path_join base path) ≡ front ++ path_names path)
unfolding path_join
names_joined base path =
    cond_both (eqb (slice_index path 0) slash) path (with_separator base ++ path)
    (λ p. (front : List (List ℕ)) × (path_names p ≡ front ++ path_names path))
    (λ _. ([], refl)) (λ _. names_behind (with_separator base) path (separator_ends base))

-- ---- the last name

-- a part that is kept as a name
pub record IsName (name : List ℕ) : Type 0 where
  pub said : is_nothing name ≡ false
  pub down : bytes_eq name parent_dir ≡ false

kept_after : (names : List (List ℕ)) (name : List ℕ) → IsName name → after_part names name ≡ names ++ name ∷ []
kept_after names name is = cond-false _ _ _ is.said ∙ cond-false _ _ _ is.down

-- the path ends with this name
pub record EndsWith (name path : List ℕ) : Type 0 where
  pub front : List (List ℕ)
  pub names : path_names path ≡ front ++ name ∷ []
  pub kept : IsName name

-- a path that ends with a name does so from each folder, normalized
names_in : (folder name path : List ℕ) → EndsWith name path
    → (front : List (List ℕ)) × (names_of (path_in folder path) ≡ front ++ name ∷ [])
names_in folder name path ends =
    let joined = names_joined folder path in
    let front = joined.0 ++ ends.front in (
      fold after_part [] front,
      names_of-normal_path (path_join folder path) ∙ names_of-path_names (path_join folder path)
          ∙ ap (fold after_part [])
          (joined.1 ∙ ap (λ l. joined.0 ++ l) ends.names ∙ sym (append_assoc joined.0 ends.front (name ∷ [])))
          ∙ fold_append [] front (name ∷ []) ∙ kept_after (fold after_part [] front) name ends.kept,
    )

-- paths that end with different names stand at different places
pub apart_names : (folder name other path temporary : List ℕ) → EndsWith name path → EndsWith other temporary
    → other ≢ name
    → path_in folder temporary ≢ path_in folder path
apart_names folder name other path temporary ends ends' different e =
    let h = names_in folder name path ends in
    let k = names_in folder other temporary ends' in
    different (same_from_push k.0 h.0 other name (sym k.1 ∙ ap names_of e ∙ h.1)).1

-- ---- the file name of a path

-- the text is a folder, or nothing, and a name without a slash
abbrev IsBehind : List ℕ → List ℕ → Type 0
IsBehind text name = (folder : List ℕ) × EndsFolder folder × (text ≡ folder ++ name) × Lacks slash name

behind_by : (text : List ℕ) (r : Option (List ℕ × List ℕ))
    → MatchOption r (Lacks slash text) (λ split. (text ≡ split.0 ++ slash ∷ split.1) × Lacks slash split.1)
    → IsBehind text (parent_and_last text r).1
behind_by text None h = ([], inl refl, refl, h)
behind_by text (Some split) h =
    (split.0 ++ slash ∷ [], inr (split.0, refl), h.0 ∙ sym (append_assoc split.0 (slash ∷ []) split.1), h.1)

behind_split : (path : List ℕ) → IfSome (split_last_component path) (λ split. IsBehind (trim_trailing path) split.1)
unfolding split_last_component
behind_split path =
    let trimmed = trim_trailing path in
    cond_both _ None (Some (parent_and_last trimmed (rsplit_once slash trimmed)))
    (λ r. IfSome r (λ split. IsBehind trimmed split.1))
    (λ _. tt) (λ _. behind_by trimmed (rsplit_once slash trimmed) (rsplit_once_parts slash trimmed))

-- what a file name is
pub record IsFileName (path name : List ℕ) : Type 0 where
  pub behind : IsBehind (trim_trailing path) name
  pub not_dot : bytes_eq name cur_dir ≡ false
  pub down : bytes_eq name parent_dir ≡ false

file_name_by : (path : List ℕ) (r : Option (List ℕ × List ℕ))
    → IfSome r (λ split. IsBehind (trim_trailing path) split.1)
    → IfSome (option_flatten (option_map (λ split. normal_name split.1) r)) (IsFileName path)
file_name_by path None h = tt
file_name_by path (Some split) h =
    cond_both (bytes_eq split.1 cur_dir || bytes_eq split.1 parent_dir) None (Some split.1)
    (λ r. IfSome r (IsFileName path)) (λ _. tt)
    (λ e. let neither = or_parts (bytes_eq split.1 cur_dir) (bytes_eq split.1 parent_dir) e in
    record { behind = h; not_dot = neither.0; down = neither.1 })

file_name_is : (path name : List ℕ) → path_file_name path ≡ Some name → IsFileName path name
unfolding path_file_name
file_name_is path name e =
    subst (λ r. IfSome r (IsFileName path)) e (file_name_by path (split_last_component path) (behind_split path))

not_root : (name : List ℕ) → Lacks slash name → name ≢ root_dir
not_root name h = λ e. h 0 (omega (arith, ap length e)) (ap (λ l. get_or l 0 0) e)

none_after : (xs : List (List ℕ)) (name : List ℕ) → [] ≡ xs ++ name ∷ [] → ⊥
none_after xs name e = omega (arith, ap length e, length_push xs name)

none_first : (xs ys : List (List ℕ)) → xs ++ ys ≡ [] → xs ≡ []
none_first [] ys e = refl
none_first (x ∷ xs) ys e = cc

-- the last of two lists is the last of the second, or the second is empty
behind_leading : (ls xs front : List (List ℕ)) (name : List ℕ) → ls ++ xs ≡ front ++ name ∷ []
    → (ls ≡ front ++ name ∷ []) ⊎ ((f : List (List ℕ)) × (xs ≡ f ++ name ∷ []))
behind_leading [] xs front name e = inr (front, e)
behind_leading (l ∷ ls) xs [] name e =
    let empty : ls ++ xs ≡ [] = cc in
    let first : l ≡ name = cc in
    inl (ap₂ (λ a b. a ∷ b) first (none_first ls xs empty))
behind_leading (l ∷ ls) xs (f ∷ front) name e =
    let first : l ≡ f = cc in
    let rest : ls ++ xs ≡ front ++ name ∷ [] = cc in
    elim (behind_leading ls xs front name rest) as
    (λ _. (l ∷ ls ≡ (f ∷ front) ++ name ∷ []) ⊎ ((g : List (List ℕ)) × (xs ≡ g ++ name ∷ []))) [
      | inl h ↦ inl (ap₂ (λ a b. a ∷ b) first h)
      | inr h ↦ inr h
    ]

-- the leading component is the root or `.`
leading_is : (path name : List ℕ) (front : List (List ℕ)) → leading_components path ≡ front ++ name ∷ []
    → (name ≡ root_dir) ⊎ (name ≡ cur_dir)
leading_is path name front e =
    cond_both (eqb (slice_index path 0) slash) (root_dir ∷ []) (cond (is_dot_at path 0) (cur_dir ∷ []) [])
    (λ l. l ≡ front ++ name ∷ [] → (name ≡ root_dir) ⊎ (name ≡ cur_dir))
    (λ _ h. inl (sym (same_from_push [] front root_dir name h).1))
    (λ _. cond_both (is_dot_at path 0) (cur_dir ∷ []) []
    (λ l. l ≡ front ++ name ∷ [] → (name ≡ root_dir) ⊎ (name ≡ cur_dir))
    (λ _ h. inr (sym (same_from_push [] front cur_dir name h).1)) (λ _ h. absurd (none_after front name h))) e

filtered : (list front : List (List ℕ)) (name : List ℕ) → filter is_name list ≡ front ++ name ∷ [] → is_name name ≡ true
filtered list front name e =
    let long : length front < length (filter is_name list) = omega (arith, ap length e, length_push front name) in
    sym (ap is_name (ap (λ l. get_or l (length front) []) e ∙ get_or_push front name [] (length front) refl))
    ∙ filter_passes is_name list (length front) [] long

not_true : (b : Bool) → not b ≡ true → b ≡ false
not_true true e = cc
not_true false e = refl

names_filtered : (path : List ℕ) → (list : List (List ℕ)) × (path_names path ≡ filter is_name list)
unfolding path_names
names_filtered path = (first_piece path ∷ later_pieces path, refl)

-- a path ends with its file name
pub ends_file_name : (path name : List ℕ) → path_file_name path ≡ Some name → EndsWith name path
ends_file_name path name e =
    let is = file_name_is path name e in
    let ends = path_components_file_name path name e in
    let last : (f : List (List ℕ)) × (path_names path ≡ f ++ name ∷ []) =
    elim (behind_leading (leading_components path) (path_names path) ends.0 name
    (sym (path_components_is path) ∙ ends.1)) as (λ _. (f : List (List ℕ)) × (path_names path ≡ f ++ name ∷ [])) [
      | inl h ↦ elim (leading_is path name ends.0 h) as
          (λ _. (f : List (List ℕ)) × (path_names path ≡ f ++ name ∷ [])) [
            | inl root ↦ absurd (not_root name is.behind.3 root)
            | inr here ↦ absurd (let k = is.not_dot in let same : bytes_eq name cur_dir ≡ true =
                subst (λ n. bytes_eq n cur_dir ≡ true) (sym here) refl in cc)
          ]
      | inr h ↦ h
    ] in
    let list = names_filtered path in
    record {
      front = last.0;
      names = last.1;
      kept = record {
        said = not_true (is_nothing name) (filtered list.0 last.0 name (sym list.1 ∙ last.1));
        down =
            is.down;
      };
    }

-- ---- the name of the temporary path

-- the stem of a name and what its extension takes away
abbrev IsStem : List ℕ → Option (List ℕ) → Type 0
IsStem name extension =
    (stem : List ℕ) × (rest : List ℕ) × (name ≡ stem ++ rest) × (length rest ≡ dot_extension_len extension)
    × ((rest ≡ []) ⊎ ((e : List ℕ) × (rest ≡ dot ∷ e) × Lacks dot e))

stem_by : (name : List ℕ) (r : Option (List ℕ × List ℕ))
    → MatchOption r (Lacks dot name) (λ split. (name ≡ split.0 ++ dot ∷ split.1) × Lacks dot split.1)
    → IsStem name (extension_of_split r)
stem_by name None h = (name, [], sym (append-nil name), refl, inl refl)
stem_by name (Some split) h =
    cond_both (eqb (length split.0) 0) None (Some split.1) (IsStem name)
    (λ _. (name, [], sym (append-nil name), refl, inl refl))
    (λ _. (split.0, dot ∷ split.1, h.0, omega arith, inr (split.1, refl, h.1)))

extension_is : (path name : List ℕ) → path_file_name path ≡ Some name
    → path_extension path ≡ extension_of_split (rsplit_once dot name)
unfolding path_extension
extension_is path name e = ap (λ r. option_flatten (option_map (λ n. extension_of_split (rsplit_once dot n)) r)) e

take_front : (xs ys : List ℕ) → take (length xs) (xs ++ ys) ≡ xs
take_front xs ys = take-append-le (length xs) xs ys (omega arith) ∙ take_all (length xs) xs (omega arith)

cancel : (xs ys zs : List ℕ) → xs ++ ys ≡ xs ++ zs → ys ≡ zs
cancel [] ys zs e = e
cancel (x ∷ xs) ys zs e = cancel xs ys zs cc

trimmed_front : (path : List ℕ) (n : ℕ) → n ≤ length (trim_trailing path) → take n path ≡ take n (trim_trailing path)
unfolding trim_trailing
trimmed_front path n l =
    let m = trimmed_len path (length path) in
    let short : n ≤ m = omega (arith, length-take m path) in
    sym (take-take n m path short)

-- ---- bytes without a slash

lacks_none : (xs : List ℕ) → Lacks slash xs → has_no_slash xs ≡ true
lacks_none [] h = refl
lacks_none (x ∷ xs) h =
    ap₂ (λ a b. not a && b) (ne_eqb x slash (λ e. h 0 (omega arith) e))
    (lacks_none xs (λ i l e. h (suc i) (omega arith) e))

none_append : (xs ys : List ℕ) → has_no_slash (xs ++ ys) ≡ (has_no_slash xs && has_no_slash ys)
none_append [] ys = refl
none_append (x ∷ xs) ys =
    elim (eqb x slash) as
    (λ v. (not v && has_no_slash (xs ++ ys)) ≡ ((not v && has_no_slash xs) && has_no_slash ys))
    [ true ↦ refl | false ↦ none_append xs ys ]

left_true : (a b : Bool) → (a && b) ≡ true → a ≡ true
left_true true b e = refl
left_true false b e = cc

right_true : (a b : Bool) → (a && b) ≡ true → b ≡ true
right_true true b e = e
right_true false b e = cc

whole_piece : (xs : List ℕ) → has_no_slash xs ≡ true → (first_piece xs ≡ xs) × (later_pieces xs ≡ [])
whole_piece [] e = (refl, refl)
whole_piece (x ∷ xs) e =
    let here : eqb x slash ≡ false = not_true (eqb x slash) (left_true (not (eqb x slash)) (has_no_slash xs) e) in
    let rest = whole_piece xs (right_true (not (eqb x slash)) (has_no_slash xs) e) in
    (cond-false _ _ _ here ∙ ap (λ l. x ∷ l) rest.0, cond-false _ _ _ here ∙ rest.1)

digit_no_slash : (table : List ℕ) (n : ℕ) → has_no_slash table ≡ true → eqb (slice_index table n) slash ≡ false
digit_no_slash [] n e = refl
digit_no_slash (x ∷ table) zero e = not_true (eqb x slash) (left_true (not (eqb x slash)) (has_no_slash table) e)
digit_no_slash (x ∷ table) (suc n) e = digit_no_slash table n (right_true (not (eqb x slash)) (has_no_slash table) e)

digits_no_slash : (bytes : List ℕ) → has_no_slash (encode_with lower_digits bytes) ≡ true
unfolding encode_with
digits_no_slash [] = refl
digits_no_slash (b ∷ rest) =
    ap₂ (λ a c. not a && c) (digit_no_slash lower_digits (b / 16) refl)
    (ap₂ (λ a c. not a && c) (digit_no_slash lower_digits (b % 16) refl) (digits_no_slash rest))

pub end_no_slash : (bytes : List ℕ) → has_no_slash (temporary_end bytes) ≡ true
end_no_slash bytes = none_append (encode_lower bytes) (codes ".tmp") ∙ ap (λ b. b && true) (digits_no_slash bytes)

pub no_slash_fact : (text : List ℕ) → has_no_slash text ≡ true → HasNoSlash text
no_slash_fact text e = rw e tt

unlike : (xs ys : List ℕ) → (length xs ≡ length ys → ⊥) → bytes_eq xs ys ≡ false
unlike xs ys h = unlike_by (bytes_eq xs ys) refl
  where
    unlike_by : (b : Bool) → bytes_eq xs ys ≡ b → bytes_eq xs ys ≡ false
    unlike_by true e = absurd (h (ap length ((bytes_eq-Decides xs ys).0 e)))
    unlike_by false e = e

-- ---- the temporary path

temporary_is : (path name bytes : List ℕ) → path_file_name path ≡ Some name → (extension : List ℕ)
    → eqb (length extension) 0 ≡ false
    → path_set_extension path extension ≡ (take (stem_end path) path ++ dot ∷ []) ++ extension
unfolding path_set_extension
temporary_is path name bytes named extension some =
    ap (λ r. cond (is_some r) (stem_and_dot path (length extension) ++ extension) path) named
    ∙ ap (λ l. (take (stem_end path) path ++ l) ++ extension) (cond-false _ _ _ some)

names_one : (name : List ℕ) → has_no_slash name ≡ true → is_nothing name ≡ false → path_names name ≡ name ∷ []
unfolding path_names
names_one name plain said =
    let piece = whole_piece name plain in
    ap (filter is_name) (ap₂ (λ a b. a ∷ b) piece.0 piece.1) ∙ cond-true _ _ _ (ap not said)

-- an extension has no dot, and the end of the temporary path has one
differs : (stem rest digits : List ℕ) → dot ∷ (digits ++ codes ".tmp") ≡ rest
    → ((rest ≡ []) ⊎ ((e : List ℕ) × (rest ≡ dot ∷ e) × Lacks dot e)) → ⊥
differs stem rest digits e (inl none) = cc
differs stem rest digits e (inr h) =
    let same : digits ++ codes ".tmp" ≡ h.0 = cc in
    let lacks : Lacks dot (digits ++ codes ".tmp") = subst (Lacks dot) (sym same) h.2 in
    lacks (length digits) (omega (arith, length-append digits (codes ".tmp")))
    (get_or_at digits dot (codes "tmp") 0 (length digits) refl)

-- the temporary path ends with another name, which ends with `.tmp`
pub ends_temporary : (path name bytes : List ℕ) → path_file_name path ≡ Some name
    → (other : List ℕ) × EndsWith other (path_set_extension path (temporary_end bytes)) × (other ≢ name)
    × (front : List ℕ) × (other ≡ front ++ codes ".tmp")
ends_temporary path name bytes named =
    let is = file_name_is path name named in
    let extension = temporary_end bytes in
    let trimmed = trim_trailing path in
    let folder = is.behind.0 in
    let parts_of : IsStem name (path_extension path) =
    subst (IsStem name) (sym (extension_is path name named))
    (stem_by name (rsplit_once dot name) (rsplit_once_parts dot name)) in
    let stem = parts_of.0 in
    let rest = parts_of.1 in
    let other = stem ++ dot ∷ extension in
    let whole : trimmed ≡ (folder ++ stem) ++ rest =
    is.behind.2 ∙ ap (λ l. folder ++ l) parts_of.2 ∙ sym (append_assoc folder stem rest) in
    let long : length trimmed ≡ length (folder ++ stem) + length rest =
    ap length whole ∙ length-append (folder ++ stem) rest in
    let end : stem_end path ≡ length (folder ++ stem) = omega (arith, parts_of.3) in
    let front : take (stem_end path) path ≡ folder ++ stem =
    trimmed_front path (stem_end path) (omega arith) ∙ ap₂ (λ n l. take n l) end whole
    ∙ take_front (folder ++ stem) rest in
    let extended : 3 < length extension = omega (arith, length-append (encode_lower bytes) (codes ".tmp")) in
    let temporary : path_set_extension path extension ≡ folder ++ other =
    temporary_is path name bytes named extension (ne_eqb (length extension) 0 (λ z. omega arith))
    ∙ ap (λ l. (l ++ dot ∷ []) ++ extension) front
    ∙ append_assoc (folder ++ stem) (dot ∷ []) extension ∙ append_assoc folder stem (dot ∷ extension) in
    let plain_stem : has_no_slash stem ≡ true = left_true (has_no_slash stem) (has_no_slash rest)
    (sym (none_append stem rest) ∙ ap has_no_slash (sym parts_of.2) ∙ lacks_none name is.behind.3) in
    let plain : has_no_slash other ≡ true =
    none_append stem (dot ∷ extension) ∙ ap₂ (λ a b. a && b) plain_stem (end_no_slash bytes) in
    let lengthy : 4 < length other = omega (arith, length-append stem (dot ∷ extension)) in
    let said : is_nothing other ≡ false =
    or_from _ _ (ne_eqb (length other) 0 (λ z. omega arith)) (unlike other cur_dir (λ e. omega arith)) in
    let behind = names_behind folder other is.behind.1 in (
      other,
      record {
        front = behind.0;
        names = ap path_names temporary ∙ behind.1 ∙ ap (λ l. behind.0 ++ l) (names_one other plain said);
        kept = record { said = said; down = unlike other parent_dir (λ e. omega arith) };
      },
      λ e. differs stem rest (encode_lower bytes) (cancel stem (dot ∷ extension) rest (e ∙ parts_of.2)) parts_of.4,
      stem ++ dot ∷ encode_lower bytes,
      sym (append_assoc stem (dot ∷ encode_lower bytes) (codes ".tmp")),
    )

apart_by : (path temporary : List ℕ) (r : Option (List ℕ)) → path_file_name path ≡ r → IsSome r
    → IsTemporaryPath path temporary → IsApart temporary path
unfolding atomic_path spot
apart_by path temporary None e some is = λ folder same. cc
apart_by path temporary (Some name) e some is = λ folder same.
    let ends = ends_temporary path name is.0 e in
    apart_names folder name ends.0 path (path_set_extension path (temporary_end is.0)) (ends_file_name path name e)
    ends.1 ends.2
    (ap (path_in folder) (sym is.2) ∙ same)

elsewhere_by : (path temporary other name : List ℕ) (r : Option (List ℕ)) → path_file_name path ≡ r → IsSome r
    → IsTemporaryPath path temporary → path_file_name other ≡ Some name
    → ((front : List ℕ) → name ≢ front ++ codes ".tmp") → IsApart temporary other
unfolding atomic_path spot
elsewhere_by path temporary other name None e some is named lasting = λ folder same. cc
elsewhere_by path temporary other name (Some own) e some is named lasting = λ folder same.
    let ends = ends_temporary path own is.0 e in
    apart_names folder name ends.0 other (path_set_extension path (temporary_end is.0))
    (ends_file_name other name named) ends.1 (λ bad. lasting ends.3 (sym bad ∙ ends.4))
    (ap (path_in folder) (sym is.2) ∙ same)

-- a temporary path stands elsewhere than each path whose file name doesn't end with `.tmp`
pub elsewhere : (path temporary other name : List ℕ) → IsSome (path_file_name path) → IsTemporaryPath path temporary
    → path_file_name other ≡ Some name → ((front : List ℕ) → name ≢ front ++ codes ".tmp") → IsApart temporary other
elsewhere path temporary other name some is named lasting =
    elsewhere_by path temporary other name (path_file_name path) refl some is named lasting

-- a temporary path stands elsewhere than its path, whatever the current folder is
pub temporary_apart : (path temporary : List ℕ) → IsSome (path_file_name path) → IsTemporaryPath path temporary
    → IsApart temporary path
temporary_apart path temporary some is = apart_by path temporary (path_file_name path) refl some is
