-- The new names of modules, and what a plan's files answer at them.
use Rattle.std.proofs.Common.{◌≡◌, ◌∙◌, refl, sym, ap, subst, ℕ, ◌+◌, Bool, true, false, cond, List, [], ◌∷◌, map, Option, Some, None, inl, inr}
use Rattle.std.specs.Prelude.{bytes_eq, is_none, ◌||◌, option_map, option_and_then, if◌then◌else◌}
use Rattle.std.specs.List.{AllByRecursion, IsDistinct, cons_option, filter_map}
use Rattle.std.specs.Option.{option_or}
use Rattle.std.proofs.lemmas.Option.{none-some, same_Some}
use Rattle.url.specs.Parts.{Parts}
use Rattle.graph_entry.specs.Specifier.{text_of}
use Rattle.graph_entry.specs.declared.answer.LoadAnswer.{LoadAnswer}
use Rattle.graph_entry.specs.declared.answer.LoadAnswer.TheVariants.{Content, External}
use Rattle.graph_entry.specs.declared.entry.Module.{Module}
use Rattle.graph_entry.specs.declared.entry.Entry.{Entry}
use Rattle.graph_entry.specs.declared.entry.Entry.TheVariants as entry
use Rattle.graph_builder.specs.Reach.{Specifier, has}
use Rattle.graph_builder.specs.ByText.{value_at, keys_at}
use Rattle.graph_builder.specs.Graph.{members_of, entry_of, resolved, texts}
use Rattle.graph_builder.specs.Final.{is_redirect, is_module}
use Rattle.graph_builder.proofs.ByTextLemmas.{distinct_sorted}
use Rattle.graph_vendor.specs.declared.names.NewName.{NewName}
use Rattle.vendor_files.specs.declared.file.VendorFile.{VendorFile}
use Rattle.graph_vendor.specs.Names.{Entries, Names, modules_of, name_of, names_from, target_at, renamed_by, renamed}
use Rattle.graph_vendor.specs.Kept.{is_free_at, is_free, first_taken, Serves, IsKept, IsFirstLost}
use Rattle.graph_vendor.specs.Plan.{bytes_of, files_of, targets_of, external}
use Rattle.graph_vendor.specs.vendored.Vendored.{content_of, external_at}
use Rattle.graph_vendor.proofs.vendored.Lists.{text_is, is_text, found, at_first, at_later, apart_key, or_later}
use Rattle.graph_vendor.proofs.vendored.Setting.{Setting, entries_of, names_of, new_answers}
use Rattle.graph_vendor.proofs.vendored.Entries.{resolved_here}

-- ---- the names of modules serve

abbrev Kept : Entries → Names → Parts × Entry → Type 0
Kept entries names e = IsKept entries names (text_of e.0) e.1

all_kept : (entries : Entries) (names : Names) (es : Entries) → IsFirstLost entries names es None
    → AllByRecursion (Kept entries names) es
all_kept entries names [] h = tt
all_kept entries names (e ∷ es) (inl (lost, told)) = absurd (let bad : ⊥ = cc in bad)
all_kept entries names (e ∷ es) (inr (kept, later)) = (kept, all_kept entries names es later)

-- a module's new name
pub record Named (entries : Entries) (names : Names) (s : Specifier) (m : Module) : Type 0 where
  pub target : Parts
  pub at : target_at names s ≡ Some target
  pub serves : Serves entries names m target

named_by : (entries : Entries) (names : Names) (s : Specifier) (m : Module) (o : Option Parts) → target_at names s ≡ o
    → IsKept entries names s (entry.Module m) → Named entries names s m
named_by entries names s m o e kept = by o (subst Served e kept) e
  where
    Served : Option Parts → Type 0
    Served None = ⊥
    Served (Some target) = Serves entries names m target

    by : (o : Option Parts) → Served o → target_at names s ≡ o → Named entries names s m
    by None none at = absurd none
    by (Some target) is at = record { target = target; at = at; serves = is }

pub named : (v : Setting) (s : Specifier) (m : Module) → entry_of (entries_of v) s ≡ Some (entry.Module m)
    → Named (entries_of v) (names_of v) s m
named v s m at =
    let one = found (Kept (entries_of v) (names_of v)) (entries_of v) s (entry.Module m)
    (all_kept (entries_of v) (names_of v) (entries_of v) v.made.kept) at in
    named_by (entries_of v) (names_of v) s m (target_at (names_of v) s) refl
    (subst (λ (r : Specifier). IsKept (entries_of v) (names_of v) r (entry.Module m)) (sym one.1) one.2)

renamed_at : (names : Names) (s : Specifier) (o : Option NewName) (target : Parts) → value_at names s ≡ o
    → option_and_then (λ (n : NewName). n.target) o ≡ Some target → renamed_by o s ≡ Some (text_of target)
renamed_at names s None target e at = absurd (none-some target at)
renamed_at names s (Some n) target e at = ap (option_map text_of) at

-- a module is found at its new name
pub module_renamed : (v : Setting) (s : Specifier) (m : Module) (target : Parts)
    → entry_of (entries_of v) s ≡ Some (entry.Module m) → target_at (names_of v) s ≡ Some target
    → renamed (entries_of v) (names_of v) s ≡ Some (text_of target)
module_renamed v s m target at is =
    let here : resolved (entries_of v) s ≡ s = resolved_here v s (entry.Module m) at refl in
    ap (λ (r : Specifier). renamed_by (value_at (names_of v) r) r) here
    ∙ renamed_at (names_of v) s (value_at (names_of v) s) target refl is

-- ---- what has a new name is a module

-- the entry here has another specifier than this one, which stands behind
behind : (url : Parts) (x : Entry) (es : Entries) (s : Specifier) (e : Entry)
    → IsDistinct bytes_eq (members_of ((url, x) ∷ es)) → entry_of es s ≡ Some e
    → entry_of ((url, x) ∷ es) s ≡ Some e
unfolding IsDistinct
behind url x es s e apart at =
    at_later (url, x) es s (apart_key (text_of url) s es e apart.0 at) ∙ at

named_module : (base : Parts) (k : ℕ) (es : Entries) (s : Specifier) (n : NewName)
    → IsDistinct bytes_eq (members_of es) → value_at (names_from base k (modules_of es)) s ≡ Some n
    → (m : Module) × (entry_of es s ≡ Some (entry.Module m))
unfolding IsDistinct
named_module base k [] s n apart at = absurd (none-some n at)
named_module base k ((url, entry.Module m) ∷ es) s n apart at =
    by (bytes_eq s (text_of url)) refl (named_module base (k + 1) es s n apart.1) at
  where
    by : (b : Bool) → bytes_eq s (text_of url) ≡ b
        → (value_at (names_from base (k + 1) (modules_of es)) s ≡ Some n
        → (o : Module) × (entry_of es s ≡ Some (entry.Module o)))
        → cond b (Some (name_of base k m)) (value_at (names_from base (k + 1) (modules_of es)) s) ≡ Some n
        → (o : Module) × (entry_of ((url, entry.Module m) ∷ es) s ≡ Some (entry.Module o))
    by true same later h = (m, at_first (url, entry.Module m) es s same)
    by false other later h =
        let rest = later h in
        (rest.0, at_later (url, entry.Module m) es s other ∙ rest.1)
named_module base k ((url, entry.Redirect target) ∷ es) s n apart at =
    let rest = named_module base k es s n apart.1 at in
    (rest.0, behind url (entry.Redirect target) es s (entry.Module rest.0) apart rest.1)
named_module base k ((url, entry.Package held) ∷ es) s n apart at =
    let rest = named_module base k es s n apart.1 at in
    (rest.0, behind url (entry.Package held) es s (entry.Module rest.0) apart rest.1)
named_module base k ((url, entry.External) ∷ es) s n apart at =
    let rest = named_module base k es s n apart.1 at in
    (rest.0, behind url entry.External es s (entry.Module rest.0) apart rest.1)
named_module base k ((url, entry.Error fault) ∷ es) s n apart at =
    let rest = named_module base k es s n apart.1 at in
    (rest.0, behind url (entry.Error fault) es s (entry.Module rest.0) apart rest.1)

unnamed : (v : Setting) (s : Specifier) (e : Entry) → entry_of (entries_of v) s ≡ Some e → is_module e ≡ false
    → (o : Option NewName) → value_at (names_of v) s ≡ o → o ≡ None
unnamed v s e at plain None is = refl
unnamed v s e at plain (Some n) is =
    let apart = distinct_sorted (members_of (entries_of v)) v.old.ascending in
    let held = named_module v.base 0 (entries_of v) s n apart is in
    let same : e ≡ entry.Module held.0 = same_Some e (entry.Module held.0) (sym at ∙ held.1) in
    let yes = ap is_module same in absurd (let bad : ⊥ = cc in bad)

-- any other entry keeps its name
pub others_named : (v : Setting) (s : Specifier) (e : Entry) → entry_of (entries_of v) s ≡ Some e
    → is_redirect e ≡ false → is_module e ≡ false → renamed (entries_of v) (names_of v) s ≡ Some s
others_named v s e at stays plain =
    let here : resolved (entries_of v) s ≡ s = resolved_here v s e at stays in
    ap (λ (r : Specifier). renamed_by (value_at (names_of v) r) r) here
    ∙ ap (λ (o : Option NewName). renamed_by o s) (unnamed v s e at plain (value_at (names_of v) s) refl)

-- ---- files

abbrev Answered : List VendorFile → Specifier → Option LoadAnswer
Answered files s = value_at (map content_of files) s

pub keys_answered : (files : List VendorFile) → keys_at (map content_of files) ≡ targets_of files
keys_answered [] = refl
keys_answered (f ∷ fs) = ap (λ (ts : List Specifier). text_of f.target ∷ ts) (keys_answered fs)

-- a file behind another one
file_behind : (files : List VendorFile) (f : VendorFile) (t : Specifier) (a : LoadAnswer)
    → IsDistinct bytes_eq (targets_of (f ∷ files)) → Answered files t ≡ Some a → Answered (f ∷ files) t ≡ Some a
unfolding IsDistinct
file_behind files f t a apart at =
    at_later (content_of f) (map content_of files) t
    (apart_key (text_of f.target) t (map content_of files) a
    (subst (AllByRecursion (λ y. bytes_eq (text_of f.target) y ≡ false)) (sym (keys_answered files)) apart.0) at) ∙ at

abbrev file_to : Entries → Names → Parts → Module → Parts → VendorFile
file_to entries names url m target =
    record { source = url; target = target; bytes = bytes_of entries names m }

abbrev more_files : Entries → Names → Parts → Module → Option Parts → List VendorFile → List VendorFile
more_files entries names url m o files =
    cons_option (option_map (λ target. file_to entries names url m target) o) files

-- the first one
file_first : (entries : Entries) (names : Names) (url : Parts) (m : Module) (o : Option Parts)
    (files : List VendorFile) (target : Parts) → o ≡ Some target
    → Answered (more_files entries names url m o files) (text_of target)
    ≡ Some (Content [] (bytes_of entries names m))
file_first entries names url m None files target e = absurd (none-some target e)
file_first entries names url m (Some there) files target e =
    let same : there ≡ target = same_Some there target e in
    at_first (content_of (file_to entries names url m there)) (map content_of files) (text_of target)
    (is_text (text_of target) (text_of there) (ap text_of (sym same)))

file_later : (entries : Entries) (names : Names) (url : Parts) (m : Module) (o : Option Parts)
    (files : List VendorFile) (t : Specifier) (a : LoadAnswer)
    → IsDistinct bytes_eq (targets_of (more_files entries names url m o files)) → Answered files t ≡ Some a
    → Answered (more_files entries names url m o files) t ≡ Some a
file_later entries names url m None files t a apart at = at
file_later entries names url m (Some there) files t a apart at =
    file_behind files (file_to entries names url m there) t a apart at

apart_files : (entries : Entries) (names : Names) (url : Parts) (m : Module) (o : Option Parts)
    (files : List VendorFile) → IsDistinct bytes_eq (targets_of (more_files entries names url m o files))
    → IsDistinct bytes_eq (targets_of files)
unfolding IsDistinct
apart_files entries names url m None files apart = apart
apart_files entries names url m (Some there) files apart = apart.1

-- a module stands behind what is none
past : (x : Parts × Entry) (es : Entries) (s : Specifier) (m : Module) → is_module x.1 ≡ false
    → entry_of (x ∷ es) s ≡ Some (entry.Module m) → entry_of es s ≡ Some (entry.Module m)
past x es s m plain at = by (bytes_eq s (text_of x.0)) at
  where
    by : (b : Bool) → cond b (Some x.1) (entry_of es s) ≡ Some (entry.Module m)
        → entry_of es s ≡ Some (entry.Module m)
    by true h =
        let same : x.1 ≡ entry.Module m = same_Some x.1 (entry.Module m) h in
        let yes = ap is_module same in absurd (let bad : ⊥ = cc in bad)
    by false h = h

-- the file of a module
file_found : (entries : Entries) (names : Names) (es : Entries) (s : Specifier) (m : Module) (target : Parts)
    → IsDistinct bytes_eq (targets_of (files_of entries names (modules_of es)))
    → entry_of es s ≡ Some (entry.Module m) → target_at names s ≡ Some target
    → Answered (files_of entries names (modules_of es)) (text_of target)
    ≡ Some (Content [] (bytes_of entries names m))
file_found entries names [] s m target apart at is = absurd (none-some (entry.Module m) at)
file_found entries names ((url, entry.Module n) ∷ es) s m target apart at is =
    by (bytes_eq s (text_of url)) refl
    (λ h. file_found entries names es s m target
    (apart_files entries names url n (target_at names (text_of url)) (files_of entries names (modules_of es)) apart) h
    is)
    at
  where
    by : (b : Bool) → bytes_eq s (text_of url) ≡ b
        → (entry_of es s ≡ Some (entry.Module m)
        → Answered (files_of entries names (modules_of es)) (text_of target)
        ≡ Some (Content [] (bytes_of entries names m)))
        → cond b (Some (entry.Module n)) (entry_of es s) ≡ Some (entry.Module m)
        → Answered (files_of entries names (modules_of ((url, entry.Module n) ∷ es))) (text_of target)
        ≡ Some (Content [] (bytes_of entries names m))
    by true same later h =
        let there : target_at names (text_of url) ≡ Some target =
        ap (target_at names) (sym (text_is s (text_of url) same)) ∙ is in
        let one : n ≡ m = cc in
        file_first entries names url n (target_at names (text_of url)) (files_of entries names (modules_of es)) target
        there
        ∙ ap (λ (o : Module). Some (Content [] (bytes_of entries names o))) one
    by false other later h =
        file_later entries names url n (target_at names (text_of url)) (files_of entries names (modules_of es))
        (text_of target) (Content [] (bytes_of entries names m)) apart (later h)
file_found entries names ((url, entry.Redirect to) ∷ es) s m target apart at is =
    file_found entries names es s m target apart (past (url, entry.Redirect to) es s m refl at) is
file_found entries names ((url, entry.Package held) ∷ es) s m target apart at is =
    file_found entries names es s m target apart (past (url, entry.Package held) es s m refl at) is
file_found entries names ((url, entry.External) ∷ es) s m target apart at is =
    file_found entries names es s m target apart (past (url, entry.External) es s m refl at) is
file_found entries names ((url, entry.Error fault) ∷ es) s m target apart at is =
    file_found entries names es s m target apart (past (url, entry.Error fault) es s m refl at) is

-- the specifier of a file is that of no entry
all_free : (entries : Entries) (names : Names) (es : Entries) → first_taken entries names es ≡ None
    → AllByRecursion (λ e. is_free entries names (text_of e.0) e.1 ≡ true) es
all_free entries names [] h = tt
all_free entries names (e ∷ es) h =
    by (is_free entries names (text_of e.0) e.1) refl (all_free entries names es) h
  where
    by : (b : Bool) → is_free entries names (text_of e.0) e.1 ≡ b
        → (first_taken entries names es ≡ None
        → AllByRecursion (λ x. is_free entries names (text_of x.0) x.1 ≡ true) es)
        → (if b then first_taken entries names es else Some e.0) ≡ None
        → AllByRecursion (λ x. is_free entries names (text_of x.0) x.1 ≡ true) (e ∷ es)
    by true free later k = (free, later k)
    by false taken later k = absurd (let bad : ⊥ = cc in bad)

nothing_there : (o : Option Entry) → is_none o ≡ true → o ≡ None
nothing_there None h = refl
nothing_there (Some e) h = absurd (let bad : ⊥ = cc in bad)

free_file : (entries : Entries) (names : Names) (url : Parts) (m : Module) (o : Option Parts)
    (files : List VendorFile) (s : Specifier) (a : LoadAnswer) → target_at names (text_of url) ≡ o
    → is_free entries names (text_of url) (entry.Module m) ≡ true
    → (Answered files s ≡ Some a → entry_of entries s ≡ None)
    → Answered (more_files entries names url m o files) s ≡ Some a → entry_of entries s ≡ None
free_file entries names url m None files s a is free later at = later at
free_file entries names url m (Some there) files s a is free later at = by (bytes_eq s (text_of there)) refl at
  where
    by : (b : Bool) → bytes_eq s (text_of there) ≡ b
        → cond b (Some (Content [] (bytes_of entries names m))) (Answered files s) ≡ Some a
        → entry_of entries s ≡ None
    by true same h =
        let none : is_none (entry_of entries (text_of there)) ≡ true =
        sym (ap (λ (p : Option Parts). is_free_at entries p) is) ∙ free in
        ap (entry_of entries) (text_is s (text_of there) same)
        ∙ nothing_there (entry_of entries (text_of there)) none
    by false other h = later h

file_free : (entries : Entries) (names : Names) (es : Entries) (s : Specifier) (a : LoadAnswer)
    → AllByRecursion (λ e. is_free entries names (text_of e.0) e.1 ≡ true) es
    → Answered (files_of entries names (modules_of es)) s ≡ Some a → entry_of entries s ≡ None
file_free entries names [] s a all at = absurd (none-some a at)
file_free entries names ((url, entry.Module m) ∷ es) s a all at =
    free_file entries names url m (target_at names (text_of url)) (files_of entries names (modules_of es)) s a refl
    all.0 (file_free entries names es s a all.1) at
file_free entries names ((url, entry.Redirect to) ∷ es) s a all at = file_free entries names es s a all.1 at
file_free entries names ((url, entry.Package held) ∷ es) s a all at = file_free entries names es s a all.1 at
file_free entries names ((url, entry.External) ∷ es) s a all at = file_free entries names es s a all.1 at
file_free entries names ((url, entry.Error fault) ∷ es) s a all at = file_free entries names es s a all.1 at

-- ---- answers

same_files : (v : Setting) (s : Specifier)
    → Answered v.plan.files s ≡ Answered (files_of (entries_of v) (names_of v) (modules_of (entries_of v))) s
same_files v s = ap (λ (files : List VendorFile). Answered files s) v.made.files

first_answer : (a b : Option LoadAnswer) (c : LoadAnswer) → a ≡ Some c → option_or a b ≡ Some c
first_answer a b c e = ap (λ (o : Option LoadAnswer). option_or o b) e

-- a module's file is what its new name answers
pub module_answered : (v : Setting) (s : Specifier) (m : Module) (target : Parts)
    → entry_of (entries_of v) s ≡ Some (entry.Module m) → target_at (names_of v) s ≡ Some target
    → new_answers v (text_of target) ≡ Some (Content [] (bytes_of (entries_of v) (names_of v) m))
module_answered v s m target at is =
    let apart = subst (λ (files : List VendorFile). IsDistinct bytes_eq (targets_of files)) v.made.files v.made.apart in
    first_answer (Answered v.plan.files (text_of target)) (external_at v.plan.externals (text_of target))
    (Content [] (bytes_of (entries_of v) (names_of v) m))
    (same_files v (text_of target)
    ∙ file_found (entries_of v) (names_of v) (entries_of v) s m target apart at is)

pub no_file : (v : Setting) (s : Specifier) (e : Entry) → entry_of (entries_of v) s ≡ Some e → (o : Option LoadAnswer)
    → Answered v.plan.files s ≡ o → o ≡ None
no_file v s e at None is = refl
no_file v s e at (Some a) is =
    let none = file_free (entries_of v) (names_of v) (entries_of v) s a
    (all_free (entries_of v) (names_of v) (entries_of v) v.made.free) (sym (same_files v s) ∙ is) in
    absurd (none-some e (sym none ∙ at))

has_external : (es : Entries) (s : Specifier) → entry_of es s ≡ Some entry.External
    → has (texts (filter_map external es)) s ≡ true
has_external [] s at = absurd (none-some entry.External at)
has_external ((url, x) ∷ es) s at = by (bytes_eq s (text_of url)) refl (has_external es s) at
  where
    more : (x : Entry) → has (texts (filter_map external es)) s ≡ true
        → has (texts (filter_map external ((url, x) ∷ es))) s ≡ true
    more entry.External h = or_later (bytes_eq s (text_of url)) (has (texts (filter_map external es)) s) h
    more (entry.Module m) h = h
    more (entry.Redirect to) h = h
    more (entry.Package held) h = h
    more (entry.Error fault) h = h

    here : (x : Entry) → bytes_eq s (text_of url) ≡ true → x ≡ entry.External
        → has (texts (filter_map external ((url, x) ∷ es))) s ≡ true
    here x same e =
        ap (λ (y : Entry). has (texts (filter_map external ((url, y) ∷ es))) s) e
        ∙ ap (λ (b : Bool). b || has (texts (filter_map external es)) s) same

    by : (b : Bool) → bytes_eq s (text_of url) ≡ b
        → (entry_of es s ≡ Some entry.External → has (texts (filter_map external es)) s ≡ true)
        → cond b (Some x) (entry_of es s) ≡ Some entry.External
        → has (texts (filter_map external ((url, x) ∷ es))) s ≡ true
    by true same later h = here x same (same_Some x entry.External h)
    by false other later h = more x (later h)

pub external_answered : (v : Setting) (s : Specifier) → entry_of (entries_of v) s ≡ Some entry.External
    → new_answers v s ≡ Some External
external_answered v s at =
    let none : Answered v.plan.files s ≡ None = no_file v s entry.External at (Answered v.plan.files s) refl in
    let has_it : has (texts v.plan.externals) s ≡ true =
    ap (λ (urls : List Parts). has (texts urls) s) v.made.externals ∙ has_external (entries_of v) s at in
    ap (λ (o : Option LoadAnswer). option_or o (external_at v.plan.externals s)) none
    ∙ ap (λ (b : Bool). if b then Some External else None) has_it

-- ---- new names differ

head_apart : (entries : Entries) (names : Names) (url : Parts) (m : Module) (o : Option Parts)
    (files : List VendorFile) (a : Parts) (t : Specifier) (x : LoadAnswer) → o ≡ Some a
    → IsDistinct bytes_eq (targets_of (more_files entries names url m o files)) → Answered files t ≡ Some x
    → text_of a ≡ t → ⊥
unfolding IsDistinct
head_apart entries names url m None files a t x e apart at same = none-some a e
head_apart entries names url m (Some there) files a t x e apart at same =
    let other : bytes_eq t (text_of there) ≡ false =
    apart_key (text_of there) t (map content_of files) x
    (subst (AllByRecursion (λ y. bytes_eq (text_of there) y ≡ false)) (sym (keys_answered files)) apart.0) at in
    let is : bytes_eq t (text_of there) ≡ true =
    is_text t (text_of there) (sym same ∙ ap text_of (sym (same_Some there a e))) in
    cc

-- the one that stands first, and one behind it
one_behind : (entries : Entries) (names : Names) (url : Parts) (k n : Module) (es : Entries) (r s : Specifier)
    (a b : Parts)
    → IsDistinct bytes_eq (targets_of (files_of entries names (modules_of ((url, entry.Module k) ∷ es))))
    → bytes_eq r (text_of url) ≡ true → entry_of es s ≡ Some (entry.Module n) → target_at names r ≡ Some a
    → target_at names s ≡ Some b → text_of a ≡ text_of b → ⊥
one_behind entries names url k n es r s a b apart here later at is same =
    let o : Option Parts = target_at names (text_of url) in
    let files : List VendorFile = files_of entries names (modules_of es) in
    let there : target_at names (text_of url) ≡ Some a =
    ap (target_at names) (sym (text_is r (text_of url) here)) ∙ at in
    let found = file_found entries names es s n b (apart_files entries names url k o files apart) later is in
    head_apart entries names url k o files a (text_of b) (Content [] (bytes_of entries names n)) there apart found same

two_by : (entries : Entries) (names : Names) (es : Entries) (r s : Specifier) (m n : Module) (a b : Parts)
    → IsDistinct bytes_eq (targets_of (files_of entries names (modules_of es)))
    → entry_of es r ≡ Some (entry.Module m) → entry_of es s ≡ Some (entry.Module n) → target_at names r ≡ Some a
    → target_at names s ≡ Some b → text_of a ≡ text_of b → r ≡ s
two_by entries names [] r s m n a b apart at is there here same = absurd (none-some (entry.Module m) at)
two_by entries names ((url, entry.Module k) ∷ es) r s m n a b apart at is there here same =
    by (bytes_eq r (text_of url)) (bytes_eq s (text_of url)) refl refl
    (λ g h. two_by entries names es r s m n a b
    (apart_files entries names url k (target_at names (text_of url)) (files_of entries names (modules_of es)) apart) g h
    there here same) at is
  where
    by : (p q : Bool) → bytes_eq r (text_of url) ≡ p → bytes_eq s (text_of url) ≡ q
        → (entry_of es r ≡ Some (entry.Module m) → entry_of es s ≡ Some (entry.Module n) → r ≡ s)
        → cond p (Some (entry.Module k)) (entry_of es r) ≡ Some (entry.Module m)
        → cond q (Some (entry.Module k)) (entry_of es s) ≡ Some (entry.Module n) → r ≡ s
    by true true e f later g h = text_is r (text_of url) e ∙ sym (text_is s (text_of url) f)
    by true false e f later g h = absurd (one_behind entries names url k n es r s a b apart e h there here same)
    by false true e f later g h = absurd (one_behind entries names url k m es s r b a apart f g here there (sym same))
    by false false e f later g h = later g h
two_by entries names ((url, entry.Redirect to) ∷ es) r s m n a b apart at is there here same =
    two_by entries names es r s m n a b apart (past (url, entry.Redirect to) es r m refl at)
    (past (url, entry.Redirect to) es s n refl is) there
    here same
two_by entries names ((url, entry.Package held) ∷ es) r s m n a b apart at is there here same =
    two_by entries names es r s m n a b apart (past (url, entry.Package held) es r m refl at)
    (past (url, entry.Package held) es s n refl is) there
    here same
two_by entries names ((url, entry.External) ∷ es) r s m n a b apart at is there here same =
    two_by entries names es r s m n a b apart (past (url, entry.External) es r m refl at)
    (past (url, entry.External) es s n refl is) there
    here same
two_by entries names ((url, entry.Error fault) ∷ es) r s m n a b apart at is there here same =
    two_by entries names es r s m n a b apart (past (url, entry.Error fault) es r m refl at)
    (past (url, entry.Error fault) es s n refl is) there
    here same

pub two_targets : (v : Setting) (r s : Specifier) (m n : Module) (a b : Parts)
    → entry_of (entries_of v) r ≡ Some (entry.Module m) → entry_of (entries_of v) s ≡ Some (entry.Module n)
    → target_at (names_of v) r ≡ Some a → target_at (names_of v) s ≡ Some b → text_of a ≡ text_of b → r ≡ s
two_targets v r s m n a b at is there here same =
    let apart = subst (λ (files : List VendorFile). IsDistinct bytes_eq (targets_of files)) v.made.files v.made.apart in
    two_by (entries_of v) (names_of v) (entries_of v) r s m n a b apart at is there here same

-- the new name of a module is that of no entry
pub target_free : (v : Setting) (s : Specifier) (m : Module) (target : Parts)
    → entry_of (entries_of v) s ≡ Some (entry.Module m) → target_at (names_of v) s ≡ Some target
    → entry_of (entries_of v) (text_of target) ≡ None
target_free v s m target at is =
    let apart = subst (λ (files : List VendorFile). IsDistinct bytes_eq (targets_of files)) v.made.files v.made.apart in
    file_free (entries_of v) (names_of v) (entries_of v) (text_of target)
    (Content [] (bytes_of (entries_of v) (names_of v) m))
    (all_free (entries_of v) (names_of v) (entries_of v) v.made.free)
    (file_found (entries_of v) (names_of v) (entries_of v) s m target apart at is)
