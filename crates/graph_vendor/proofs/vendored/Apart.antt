-- No file of a plan has the specifier of another one, or of what isn't part of the sources.
use Rattle.std.proofs.Common.{◌≡◌, ◌∙◌, refl, sym, ap, subst, Bool, true, false, List, [], ◌∷◌, ◌++◌, None}
use Rattle.std.specs.Prelude.{bytes_eq, ◌||◌, is_some, map}
use Rattle.std.specs.List.{AllByRecursion, IsDistinct, cons_option, filter_map}
use Rattle.std.specs.Cmp.Lexicographic.{nat_list_eq_equiv}
use Rattle.url.specs.Parts.{Parts}
use Rattle.graph_entry.specs.declared.entry.Entry.{Entry}
use Rattle.graph_entry.specs.declared.entry.Entry.TheVariants as entry
use Rattle.graph_entry.specs.Specifier.{text_of}
use Rattle.graph_builder.specs.Reach.{Specifier, has}
use Rattle.graph_builder.specs.Graph.{members_of, texts}
use Rattle.graph_builder.specs.ByText.{value_at, keys_at}
use Rattle.graph_builder.proofs.ByTextLemmas.{has-keys_at, distinct_sorted}
use Rattle.graph_vendor.specs.Names.{Entries}
use Rattle.graph_vendor.specs.Plan.{targets_of, external}
use Rattle.graph_vendor.specs.vendored.Vendored.{content_of}
use Rattle.graph_vendor.proofs.vendored.Setting.{Setting, entries_of}
use Rattle.graph_vendor.proofs.vendored.Files.{keys_answered, no_file}
use Rattle.graph_vendor.proofs.vendored.Graphs.{Found, each_found}

-- ---- two lists of which none of the second is in the first

neither : (a b : Bool) → (a || b) ≡ false → (a ≡ false) × (b ≡ false)
neither true b h = absurd (let bad : ⊥ = cc in bad)
neither false b h = (refl, h)

each_behind : (x : Specifier) (xs ys : List Specifier) → AllByRecursion (λ y. has (x ∷ xs) y ≡ false) ys
    → AllByRecursion (λ y. bytes_eq x y ≡ false) ys × AllByRecursion (λ y. has xs y ≡ false) ys
each_behind x xs [] all = (tt, tt)
each_behind x xs (y ∷ ys) all =
    let one = neither (bytes_eq y x) (has xs y) all.0 in
    let rest = each_behind x xs ys all.1 in
    ((nat_list_eq_equiv.symm x y ∙ one.0, rest.0), (one.1, rest.1))

all_both : (x : Specifier) (xs ys : List Specifier) → AllByRecursion (λ y. bytes_eq x y ≡ false) xs
    → AllByRecursion (λ y. bytes_eq x y ≡ false) ys → AllByRecursion (λ y. bytes_eq x y ≡ false) (xs ++ ys)
all_both x [] ys h k = k
all_both x (z ∷ xs) ys h k = (h.0, all_both x xs ys h.1 k)

distinct_both : (xs ys : List Specifier) → IsDistinct bytes_eq xs → IsDistinct bytes_eq ys
    → AllByRecursion (λ y. has xs y ≡ false) ys → IsDistinct bytes_eq (xs ++ ys)
unfolding IsDistinct
distinct_both [] ys h k apart = k
distinct_both (x ∷ xs) ys h k apart =
    let e = each_behind x xs ys apart in (all_both x xs ys h.0 e.0, distinct_both xs ys h.1 k e.1)

-- ---- what isn't part of the sources

-- what holds of each entry's specifier holds of these
all_picked : (Q : Specifier → Type 0) (es : Entries) → AllByRecursion Q (members_of es)
    → AllByRecursion Q (texts (filter_map external es))
all_picked Q [] all = tt
all_picked Q ((url, x) ∷ es) all = by x (all_picked Q es all.1)
  where
    by : (e : Entry) → AllByRecursion Q (texts (filter_map external es))
        → AllByRecursion Q (texts (filter_map external ((url, e) ∷ es)))
    by entry.External rest = (all.0, rest)
    by (entry.Module m) rest = rest
    by (entry.Redirect target) rest = rest
    by (entry.Package held) rest = rest
    by (entry.Error fault) rest = rest

distinct_picked : (es : Entries) → IsDistinct bytes_eq (members_of es)
    → IsDistinct bytes_eq (texts (filter_map external es))
unfolding IsDistinct
distinct_picked [] apart = tt
distinct_picked ((url, x) ∷ es) apart = by x (distinct_picked es apart.1)
  where
    by : (e : Entry) → IsDistinct bytes_eq (texts (filter_map external es))
        → IsDistinct bytes_eq (texts (filter_map external ((url, e) ∷ es)))
    by entry.External rest = (all_picked (λ y. bytes_eq (text_of url) y ≡ false) es apart.0, rest)
    by (entry.Module m) rest = rest
    by (entry.Redirect target) rest = rest
    by (entry.Package held) rest = rest
    by (entry.Error fault) rest = rest

-- ---- no new name is an old one

no_target : (v : Setting) (es : Entries) → AllByRecursion (Found (entries_of v)) es
    → AllByRecursion (λ s. has (targets_of v.plan.files) s ≡ false) (members_of es)
no_target v [] all = tt
no_target v (x ∷ es) all = (
  ap (λ (ts : List Specifier). has ts (text_of x.0)) (sym (keys_answered v.plan.files))
      ∙ has-keys_at (map content_of v.plan.files) (text_of x.0)
      ∙ ap is_some (no_file v (text_of x.0) x.1 all.0 (value_at (map content_of v.plan.files) (text_of x.0)) refl),
  no_target v es all.1,
)

pub apart : (v : Setting) → IsDistinct bytes_eq (targets_of v.plan.files ++ texts v.plan.externals)
apart v =
    let differ = distinct_sorted (members_of (entries_of v)) v.old.ascending in
    let free = no_target v (entries_of v) (each_found (entries_of v) differ) in
    subst (λ (urls : List Parts). IsDistinct bytes_eq (targets_of v.plan.files ++ texts urls)) (sym v.made.externals)
    (distinct_both (targets_of v.plan.files) (texts (filter_map external (entries_of v))) v.made.apart
    (distinct_picked (entries_of v) differ)
    (all_picked (λ s. has (targets_of v.plan.files) s ≡ false) (entries_of v) free))
