-- A map by specifiers is read by their texts.
use Rattle.std.proofs.Common.{◌≡◌, ◌+◌, ℕ, Bool, true, false, cond, List, [], ◌∷◌, length, map, refl, sym, ap, ◌∙◌, Some}
use Rattle.std.specs.Prelude.{bytes_eq, is_some, ◌||◌}
use Rattle.std.specs.List.{AllByRecursion, IsDistinct}
use Rattle.std.specs.List.Sorted.{IsStrictlySortedBy}
use Rattle.std.proofs.lemmas.List.{length-map}
use Rattle.std.proofs.lemmas.Map.Keys.{IsDistinct-from_sorted}
use Rattle.std.specs.Map.{lookup, keys_of}
use Rattle.std.specs.BTreeMap.{insert_entry, is_at}
use Rattle.std.specs.Ordering.{nat_cmp, is_eq, match_ordering, eq_by_cmp}
use Rattle.std.specs.Cmp.Lexicographic.{slice_cmp, nat_list_eq_equiv}
use Rattle.std.specs.declared.cmp.Ordering.{Ordering}
use Rattle.std.specs.declared.cmp.Ordering.TheVariants.{Less, Equal, Greater}
use Rattle.std.proofs.lemmas.Map.Text.{is_eq-slice_cmp}
use Rattle.std.specs.List.{list_any}
use Rattle.url.specs.Parts.{Parts, serialize}
use Rattle.std.specs.Borrow.{Bor}
use Rattle.graph_tables.specs.specifier_table.Numbers.{Specifier, value_at, plain, IsPut}

-- the list holds the specifier
abbrev pub has : List Specifier → Specifier → Bool
has members s = list_any (bytes_eq s) members

-- URLs are ordered as their texts
abbrev pub url_cmp : Parts → Parts → Ordering
url_cmp a b = slice_cmp nat_cmp (serialize a) (serialize b)

-- whether two URLs compare as equal is whether their texts are equal
pub is_eq-url_cmp : (a b : Parts) → is_eq (url_cmp a b) ≡ bytes_eq (serialize a) (serialize b)
is_eq-url_cmp a b = is_eq-slice_cmp (serialize a) (serialize b)

-- what a map gives at a URL is the value at its text
pub value_at-get : {V : Type 0} (entries : List (Parts × V)) (url : Parts)
    → lookup (is_at (url_cmp url)) entries ≡ value_at entries (serialize url)
value_at-get [] url = refl
value_at-get (e ∷ es) url = rw (is_eq-url_cmp url e.0, value_at-get es url) refl

-- equal texts are equal to the same ones
same_side : (t s r : Specifier) → bytes_eq s r ≡ true → bytes_eq t r ≡ bytes_eq t s
same_side t s r h = nat_list_eq_equiv.symm t r ∙ sym (nat_list_eq_equiv.congr s r t h) ∙ nat_list_eq_equiv.symm s t

-- one text isn't equal to two that differ
apart : (t s r : Specifier) → bytes_eq s r ≡ false → bytes_eq t r ≡ true → bytes_eq t s ≡ true → ⊥
apart t s r h e f =
    let equal : bytes_eq s r ≡ true = sym (nat_list_eq_equiv.congr t s r f) ∙ e in cc

cond_again : {A : Type 0} (b : Bool) (x y z : A) → cond b x z ≡ cond b x (cond b y z)
cond_again true x y z = refl
cond_again false x y z = refl

cond_swap : {A : Type 0} (a b : Bool) (x y z : A) → (a ≡ true → b ≡ true → ⊥)
    → cond a x (cond b y z) ≡ cond b y (cond a x z)
cond_swap true true x y z h = absurd (h refl refl)
cond_swap true false x y z h = refl
cond_swap false b x y z h = refl

-- a value that is put somewhere
pub value_at-insert : {V : Type 0} (entries : List (Parts × V)) (url : Parts) (value : V) (t : Specifier)
    → value_at (insert_entry url_cmp entries url value) t
    ≡ cond (bytes_eq t (serialize url)) (Some value) (value_at entries t)
value_at-insert [] url value t = refl
value_at-insert (e ∷ es) url value t = placed (url_cmp url e.0) (is_eq-url_cmp url e.0) (value_at-insert es url value t)
  where
    placed : (o : Ordering) → is_eq o ≡ bytes_eq (serialize url) (serialize e.0)
        → value_at (insert_entry url_cmp es url value) t
        ≡ cond (bytes_eq t (serialize url)) (Some value) (value_at es t)
        → value_at (match_ordering o ((url, value) ∷ e ∷ es) ((e.0, value) ∷ es)
        (e ∷ insert_entry url_cmp es url value)) t
        ≡ cond (bytes_eq t (serialize url)) (Some value) (cond (bytes_eq t (serialize e.0)) (Some e.1) (value_at es t))
    placed Less h rest = refl
    placed Equal h rest =
        rw (same_side t (serialize url) (serialize e.0) (sym h)) (cond_again (bytes_eq t (serialize url)) _ _ _)
    placed Greater h rest =
        rw rest (cond_swap (bytes_eq t (serialize e.0)) (bytes_eq t (serialize url)) _ _ _
        (apart t (serialize url) (serialize e.0) (sym h)))

-- what is put, by what the map's own clause says of the entries
pub is_put : {V : Type 0} (old new : List (Parts × V)) (url : Parts) (value : V)
    → new ≡ insert_entry url_cmp old url value
    → length new ≡ length old + cond (is_some (lookup (is_at (url_cmp url)) old)) 0 1
    → IsPut old new (serialize url) value
is_put old new url value is grown = record {
  at = λ t. rw is (value_at-insert old url value t);
  counted = rw (← value_at-get old url) grown;
}

-- ---- references to specifiers

abbrev pub bor_cmp : Bor Parts → Bor Parts → Ordering
bor_cmp a b = url_cmp a.now b.now

pub plain-insert : {V : Type 0} (entries : List (Bor Parts × V)) (url : Bor Parts) (value : V)
    → plain (insert_entry bor_cmp entries url value) ≡ insert_entry url_cmp (plain entries) url.now value
plain-insert [] url value = refl
plain-insert {V} (e ∷ es) url value = by (url_cmp url.now e.0.now) (plain-insert es url value)
  where
    by : (o : Ordering) → plain (insert_entry bor_cmp es url value) ≡ insert_entry url_cmp (plain es) url.now value
        → plain (match_ordering o ((url, value) ∷ e ∷ es) ((e.0, value) ∷ es) (e ∷ insert_entry bor_cmp es url value))
        ≡ match_ordering o ((url.now, value) ∷ (e.0.now, e.1) ∷ plain es) ((e.0.now, value) ∷ plain es)
        ((e.0.now, e.1) ∷ insert_entry url_cmp (plain es) url.now value)
    by Less rest = refl
    by Equal rest = refl
    by Greater rest = ap (λ (l : List (Parts × V)). (e.0.now, e.1) ∷ l) rest

plain-lookup : {V : Type 0} (entries : List (Bor Parts × V)) (url : Bor Parts)
    → lookup (is_at (bor_cmp url)) entries ≡ lookup (is_at (url_cmp url.now)) (plain entries)
plain-lookup [] url = refl
plain-lookup (e ∷ es) url = rw (plain-lookup es url) refl

pub plain-length : {V : Type 0} (entries : List (Bor Parts × V)) → length (plain entries) ≡ length entries
plain-length {V} entries = length-map entries (λ (e : Bor Parts × V). (e.0.now, e.1))

pub is_put_plain : {V : Type 0} (old new : List (Bor Parts × V)) (url : Bor Parts) (value : V)
    → new ≡ insert_entry bor_cmp old url value
    → length new ≡ length old + cond (is_some (lookup (is_at (bor_cmp url)) old)) 0 1
    → IsPut (plain old) (plain new) (serialize url.now) value
is_put_plain old new url value is grown =
    is_put (plain old) (plain new) url.now value (ap plain is ∙ plain-insert old url value)
    (plain-length new ∙ grown ∙ ap (λ o. length old + cond (is_some o) 0 1) (plain-lookup old url)
    ∙ ap (λ (n : ℕ). n + cond (is_some (lookup (is_at (url_cmp url.now)) (plain old))) 0 1) (sym (plain-length old)))

plain-below : {V : Type 0} (url : Bor Parts) (rest : List (Bor Parts × V))
    → AllByRecursion (λ y. bor_cmp url y ≡ Less) (keys_of rest)
    → AllByRecursion (λ y. url_cmp url.now y ≡ Less) (keys_of (plain rest))
plain-below url [] h = tt
plain-below url (f ∷ rest) h = (h.0, plain-below url rest h.1)

pub plain-sorted : {V : Type 0} (entries : List (Bor Parts × V)) → IsStrictlySortedBy bor_cmp (keys_of entries)
    → IsStrictlySortedBy url_cmp (keys_of (plain entries))
unfolding IsStrictlySortedBy
plain-sorted [] sorted = tt
plain-sorted (e ∷ es) sorted = (plain-below e.0 es sorted.0, plain-sorted es sorted.1)

-- ---- the specifiers of a map

-- the texts of the keys
abbrev pub keys_at : {V : Type 0} → List (Parts × V) → List Specifier
keys_at entries = map (λ e. serialize e.0) entries

-- a specifier is among them exactly if it has a value
pub has-keys_at : {V : Type 0} (entries : List (Parts × V)) (t : Specifier)
    → has (keys_at entries) t ≡ is_some (value_at entries t)
has-keys_at [] t = refl
has-keys_at (e ∷ es) t = by (bytes_eq t (serialize e.0)) (has-keys_at es t)
  where
    by : (b : Bool) → has (keys_at es) t ≡ is_some (value_at es t)
        → (b || has (keys_at es) t) ≡ is_some (cond b (Some e.1) (value_at es t))
    by true h = refl
    by false h = h

-- what is above the first key of a map is above its text
less-keys_at : {V : Type 0} (url : Parts) (rest : List (Parts × V))
    → AllByRecursion (λ y. url_cmp url y ≡ Less) (keys_of rest)
    → AllByRecursion (λ y. slice_cmp nat_cmp (serialize url) y ≡ Less) (keys_at rest)
less-keys_at url [] h = tt
less-keys_at url (f ∷ rest) h = (h.0, less-keys_at url rest h.1)

-- they are in order where the map is
pub sorted-keys_at : {V : Type 0} (entries : List (Parts × V)) → IsStrictlySortedBy url_cmp (keys_of entries)
    → IsStrictlySortedBy (slice_cmp nat_cmp) (keys_at entries)
unfolding IsStrictlySortedBy
sorted-keys_at [] sorted = tt
sorted-keys_at (e ∷ es) sorted = (less-keys_at e.0 es sorted.0, sorted-keys_at es sorted.1)

-- tests that agree find the same lists without repeats
apart_by_same : (e f : Specifier → Specifier → Bool) → ((x y : Specifier) → e x y ≡ f x y)
    → (x : Specifier) (ks : List Specifier)
    → AllByRecursion (λ y. e x y ≡ false) ks → AllByRecursion (λ y. f x y ≡ false) ks
apart_by_same e f same x [] h = tt
apart_by_same e f same x (k ∷ ks) h = (sym (same x k) ∙ h.0, apart_by_same e f same x ks h.1)

distinct_by_same : (e f : Specifier → Specifier → Bool) → ((x y : Specifier) → e x y ≡ f x y) → (ks : List Specifier)
    → IsDistinct e ks → IsDistinct f ks
unfolding IsDistinct
distinct_by_same e f same [] h = tt
distinct_by_same e f same (k ∷ ks) h = (apart_by_same e f same k ks h.0, distinct_by_same e f same ks h.1)

-- texts in order have no repeats
pub distinct_sorted : (ks : List Specifier) → IsStrictlySortedBy (slice_cmp nat_cmp) ks → IsDistinct bytes_eq ks
distinct_sorted ks sorted =
    distinct_by_same (eq_by_cmp (slice_cmp nat_cmp)) bytes_eq is_eq-slice_cmp ks
    (IsDistinct-from_sorted (slice_cmp nat_cmp) ks sorted)

-- so many keys as entries
pub length-keys_at : {V : Type 0} (entries : List (Parts × V)) → length (keys_at entries) ≡ length entries
length-keys_at entries = length-map entries (λ e. serialize e.0)
