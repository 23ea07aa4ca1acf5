-- The specifiers of entries, by their texts.
use Rattle.std.proofs.Common.{◌≡◌, Bool, true, false, cond, List, [], ◌∷◌, length, refl, sym, ◌∙◌, Some}
use Rattle.std.specs.Prelude.{bytes_eq, is_some, ◌||◌}
use Rattle.std.specs.List.{AllByRecursion, IsDistinct}
use Rattle.std.specs.List.Sorted.{IsStrictlySortedBy}
use Rattle.std.proofs.lemmas.List.{length-map}
use Rattle.std.proofs.lemmas.Map.Keys.{IsDistinct-from_sorted}
use Rattle.std.specs.Ordering.{nat_cmp, eq_by_cmp}
use Rattle.std.specs.Cmp.Lexicographic.{slice_cmp}
use Rattle.std.proofs.lemmas.Map.Text.{is_eq-slice_cmp}
use Rattle.url.specs.Parts.{Parts}
use Rattle.graph_entry.specs.Specifier.{text_of}
use Rattle.graph_builder.specs.Reach.{Specifier, has}
use Rattle.graph_builder.specs.ByText.{value_at, keys_at}

-- a specifier is among them exactly if it has a value
pub has-keys_at : {V : Type 0} (entries : List (Parts × V)) (t : Specifier)
    → has (keys_at entries) t ≡ is_some (value_at entries t)
has-keys_at [] t = refl
has-keys_at (e ∷ es) t = by (bytes_eq t (text_of e.0)) (has-keys_at es t)
  where
    by : (b : Bool) → has (keys_at es) t ≡ is_some (value_at es t)
        → (b || has (keys_at es) t) ≡ is_some (cond b (Some e.1) (value_at es t))
    by true h = refl
    by false h = h

-- tests that agree find the same lists without repeats
apart_by_same : (e f : Specifier → Specifier → Bool) → ((x y : Specifier) → e x y ≡ f x y)
    → (x : Specifier) (ks : List Specifier)
    → AllByRecursion (λ y. e x y ≡ false) ks → AllByRecursion (λ y. f x y ≡ false) ks
apart_by_same e f same x [] h = tt
apart_by_same e f same x (k ∷ ks) h = (sym (same x k) ∙ h.0, apart_by_same e f same x ks h.1)

distinct_by_same : (e f : Specifier → Specifier → Bool) → ((x y : Specifier) → e x y ≡ f x y) → (ks : List Specifier)
    → IsDistinct e ks → IsDistinct f ks
unfolding IsDistinct
distinct_by_same e f same [] h = tt
distinct_by_same e f same (k ∷ ks) h = (apart_by_same e f same k ks h.0, distinct_by_same e f same ks h.1)

-- texts in order have no repeats
pub distinct_sorted : (ks : List Specifier) → IsStrictlySortedBy (slice_cmp nat_cmp) ks → IsDistinct bytes_eq ks
distinct_sorted ks sorted =
    distinct_by_same (eq_by_cmp (slice_cmp nat_cmp)) bytes_eq is_eq-slice_cmp ks
    (IsDistinct-from_sorted (slice_cmp nat_cmp) ks sorted)

-- so many keys as entries
pub length-keys_at : {V : Type 0} (entries : List (Parts × V)) → length (keys_at entries) ≡ length entries
length-keys_at entries = length-map entries (λ e. text_of e.0)
