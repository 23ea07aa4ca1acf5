-- The names of modules, one more at a time.
use Rattle.std.proofs.Common.{◌≡◌, ◌∙◌, refl, sym, ap, subst, ℕ, ◌+◌, Bool, true, false, cond, List, [], ◌∷◌, ◌++◌, length, map, Option, Some, None}
use Rattle.std.specs.Prelude.{bytes_eq, option_map}
use Rattle.std.specs.List.{cons_option, AllByRecursion, IsDistinct, position_from}
use Rattle.std.specs.List.Sorted.{IsStrictlySortedBy}
use Rattle.std.specs.Ordering.{nat_cmp}
use Rattle.std.specs.declared.cmp.Ordering.TheVariants.{Less}
use Rattle.std.specs.Cmp.Lexicographic.{slice_cmp, same_text}
use Rattle.std.proofs.lemmas.List.{map-append, append_assoc, length-append}
use Rattle.std.proofs.lemmas.Iterator.Adapters.{position_from-zero}
use Rattle.std.specs.Result.{result_ok}
use Rattle.url.specs.Parts.{Parts}
use Rattle.url.specs.Parser.{parse_url}
use Rattle.media_type.specs.declared.media_type.MediaType.{MediaType}
use Rattle.graph_entry.specs.declared.entry.Module.{Module}
use Rattle.graph_entry.specs.declared.entry.Entry.TheVariants as entry
use Rattle.graph_entry.specs.Specifier.{text_of}
use Rattle.graph_builder.specs.Reach.{Specifier}
use Rattle.graph_builder.specs.Graph.{members_of, module_of, IsAscending}
use Rattle.graph_builder.specs.ByText.{keys_at, number_of}
use Rattle.graph_builder.proofs.ByTextLemmas.{distinct_sorted}
use Rattle.graph_vendor.specs.declared.names.NewName.{NewName}
use Rattle.graph_vendor.specs.Names.{Entries, Held, Names, modules_of, media_of, file_name, name_of, names_from, names_in}

-- ---- the modules' specifiers ascend

abbrev pub keys : List Held → List Specifier
keys ms = map (λ m. text_of m.0) ms

pub keys_named : (base : Parts) (k : ℕ) (ms : List Held) → keys_at (names_from base k ms) ≡ keys ms
keys_named base k [] = refl
keys_named base k (m ∷ ms) = ap (λ (ts : List Specifier). text_of m.0 ∷ ts) (keys_named base (k + 1) ms)

-- what holds of all specifiers holds of the modules'
all_kept : (P : Specifier → Type 0) (entries : Entries) → AllByRecursion P (members_of entries)
    → AllByRecursion P (keys (modules_of entries))
all_kept P [] h = tt
all_kept P (e ∷ es) h = by (all_kept P es h.1) (module_of e.1)
  where
    by : AllByRecursion P (keys (modules_of es)) → (o : Option Module)
        → AllByRecursion P (keys (cons_option (option_map (λ (m : Module). (e.0, m)) o) (modules_of es)))
    by rest None = rest
    by rest (Some m) = (h.0, rest)

pub keys_ascend : (entries : Entries) → IsAscending entries
    → IsStrictlySortedBy (slice_cmp nat_cmp) (keys (modules_of entries))
unfolding IsStrictlySortedBy
keys_ascend [] h = tt
keys_ascend (e ∷ es) h = by (keys_ascend es h.1) (module_of e.1)
  where
    by : IsStrictlySortedBy (slice_cmp nat_cmp) (keys (modules_of es)) → (o : Option Module)
        → IsStrictlySortedBy (slice_cmp nat_cmp)
        (keys (cons_option (option_map (λ (m : Module). (e.0, m)) o) (modules_of es)))
    by rest None = rest
    by rest (Some m) = (all_kept (λ t. slice_cmp nat_cmp (text_of e.0) t ≡ Less) es h.0, rest)

-- ---- what comes has no number yet

middle : {K : Type 0} (P : K → Type 0) (ks : List K) (s : K) (rest : List K) → AllByRecursion P (ks ++ s ∷ rest) → P s
middle P [] s rest h = h.0
middle P (k ∷ ks) s rest h = middle P ks s rest h.1

differs : (k s : Specifier) → bytes_eq k s ≡ false → bytes_eq s k ≡ false
differs k s apart = by (bytes_eq s k) refl
  where
    by : (b : Bool) → bytes_eq s k ≡ b → bytes_eq s k ≡ false
    by true e = let same = same_text s k (sym e) in absurd (let bad : ⊥ = cc in bad)
    by false e = e

fresh_in : (ks : List Specifier) (s : Specifier) (rest : List Specifier) (i : ℕ)
    → IsDistinct bytes_eq (ks ++ s ∷ rest) → position_from (bytes_eq s) i ks ≡ None
unfolding IsDistinct
fresh_in [] s rest i h = refl
fresh_in (k ∷ ks) s rest i h =
    let other = differs k s (middle (λ y. bytes_eq k y ≡ false) ks s rest h.0) in
    ap (λ (b : Bool). cond b (Some i) (position_from (bytes_eq s) (i + 1) ks)) other ∙ fresh_in ks s rest (i + 1) h.1

pub fresh : (base : Parts) (entries left : Entries) (names : Names) (s : Parts) (m : Module) (rest : Entries)
    → IsAscending entries → names_in base entries ≡ names ++ names_from base (length names) (modules_of left)
    → left ≡ (s, entry.Module m) ∷ rest → number_of names (text_of s) ≡ None
fresh base entries left names s m rest ascending all steps =
    let behind = keys_at (names_from base (length names + 1) (modules_of rest)) in
    let F : Entries → List Specifier = λ es. keys_at (names ++ names_from base (length names) (modules_of es)) in
    let split : keys (modules_of entries) ≡ keys_at names ++ text_of s ∷ behind =
    sym (keys_named base 0 (modules_of entries)) ∙ ap keys_at all ∙ ap F steps
    ∙ map-append (λ (e : Parts × NewName). text_of e.0) names
    (names_from base (length names) (modules_of ((s, entry.Module m) ∷ rest))) in
    position_from-zero (bytes_eq (text_of s)) (keys_at names) ∙ fresh_in (keys_at names) (text_of s) behind 0
    (subst (IsDistinct bytes_eq) split (distinct_sorted (keys (modules_of entries)) (keys_ascend entries ascending)))

-- ---- one more name

last_more : {A : Type 0} (names : List A) (name : A) (ns : List A) → names ++ name ∷ ns ≡ (names ++ name ∷ []) ++ ns
last_more names name ns = sym (append_assoc names (name ∷ []) ns)

pub named_more : (base : Parts) (entries left : Entries) (names new : Names) (s : Parts) (m : Module) (name : NewName)
    (rest : Entries) → names_in base entries ≡ names ++ names_from base (length names) (modules_of left)
    → left ≡ (s, entry.Module m) ∷ rest → name ≡ name_of base (length names) m → new ≡ names ++ (s, name) ∷ []
    → names_in base entries ≡ new ++ names_from base (length new) (modules_of rest)
named_more base entries left names new s m name rest all steps same grown =
    let F : Entries → Names = λ es. names ++ names_from base (length names) (modules_of es) in
    let G : NewName → Names = λ n. names ++ (s, n) ∷ names_from base (length names + 1) (modules_of rest) in
    let H : ℕ → Names = λ k. (names ++ (s, name) ∷ []) ++ names_from base k (modules_of rest) in
    let K : Names → Names = λ ns. ns ++ names_from base (length ns) (modules_of rest) in
    let long : length names + 1 ≡ length (names ++ (s, name) ∷ []) = sym (length-append names ((s, name) ∷ [])) in
    all ∙ ap F steps ∙ ap G (sym same)
    ∙ last_more names (s, name) (names_from base (length names + 1) (modules_of rest)) ∙ ap H long ∙ ap K (sym grown)

-- the name that was made is the module's
pub name_same : (base : Parts) (names : Names) (m : Module) (k : ℕ) (media : MediaType) (name : NewName)
    → k ≡ length names → media ≡ media_of m → name.file_name ≡ file_name k media
    → name.target ≡ result_ok (parse_url (Some base) (file_name k media)) → name ≡ name_of base (length names) m
name_same base names m k media name number is file target =
    let same : file_name k media ≡ file_name (length names) (media_of m) =
    ap (λ (n : ℕ). file_name n media) number ∙ ap (file_name (length names)) is in
    rw target rw file rw same refl
