-- Specifiers beside their values, by numbers.
use Rattle.std.proofs.Common.{◌≡◌, ℕ, zero, suc, ◌+◌, Bool, true, false, cond, List, [], ◌∷◌, ◌++◌, map, length, slice_get, position, refl, sym, ap, ◌∙◌, Option, Some, None, arith, subst, length-append}
use Rattle.std.specs.Prelude.{bytes_eq, slice_set, ◌||◌, option_map, MatchOption}
use Rattle.std.specs.List.{zip, list_any, position_from, AllByRecursion, IsDistinct}
use Rattle.std.proofs.lemmas.Iterator.Adapters.{position_from-zero}
use Rattle.std.proofs.lemmas.List.{same_from_push}
use Rattle.std.specs.Cmp.Lexicographic.{same_text}
use Rattle.indexmap.specs.IndexSet.{insert_key}
use Rattle.url.specs.Parts.{Parts, serialize}
use Rattle.graph_tables.specs.specifier_table.Numbers.{Specifier, specifiers, number_of, value_at, with_value, IsNumbering}

-- URLs are equal as their texts are
abbrev pub url_eq : Parts → Parts → Bool
url_eq a b = bytes_eq (serialize a) (serialize b)

-- ---- keys beside values

pub length-zip : {K V : Type 0} (ks : List K) (vs : List V) → length ks ≡ length vs → length (zip ks vs) ≡ length vs
length-zip [] [] h = refl
length-zip [] (v ∷ vs) h = absurd (omega arith)
length-zip (k ∷ ks) [] h = absurd (omega arith)
length-zip (k ∷ ks) (v ∷ vs) h = ap suc (length-zip ks vs (omega arith))

pub zip-push : {K V : Type 0} (ks : List K) (vs : List V) (k : K) (v : V) → length ks ≡ length vs
    → zip (ks ++ k ∷ []) (vs ++ v ∷ []) ≡ zip ks vs ++ (k, v) ∷ []
zip-push [] [] k v h = refl
zip-push [] (w ∷ vs) k v h = absurd (omega arith)
zip-push (l ∷ ks) [] k v h = absurd (omega arith)
zip-push (l ∷ ks) (w ∷ vs) k v h = ap (λ es. (l, w) ∷ es) (zip-push ks vs k v (omega arith))

pub slice_get-zip_key : {K V : Type 0} (ks : List K) (vs : List V) (i : ℕ) → length ks ≡ length vs
    → slice_get ks i ≡ option_map (λ (e : K × V). e.0) (slice_get (zip ks vs) i)
slice_get-zip_key [] [] i h = refl
slice_get-zip_key [] (v ∷ vs) i h = absurd (omega arith)
slice_get-zip_key (k ∷ ks) [] i h = absurd (omega arith)
slice_get-zip_key (k ∷ ks) (v ∷ vs) zero h = refl
slice_get-zip_key (k ∷ ks) (v ∷ vs) (suc i) h = slice_get-zip_key ks vs i (omega arith)

pub slice_get-zip_value : {K V : Type 0} (ks : List K) (vs : List V) (i : ℕ) → length ks ≡ length vs
    → slice_get vs i ≡ option_map (λ (e : K × V). e.1) (slice_get (zip ks vs) i)
slice_get-zip_value [] [] i h = refl
slice_get-zip_value [] (v ∷ vs) i h = absurd (omega arith)
slice_get-zip_value (k ∷ ks) [] i h = absurd (omega arith)
slice_get-zip_value (k ∷ ks) (v ∷ vs) zero h = refl
slice_get-zip_value (k ∷ ks) (v ∷ vs) (suc i) h = slice_get-zip_value ks vs i (omega arith)

pub zip-set : {V : Type 0} (ks : List Parts) (vs : List V) (i : ℕ) (v : V) → length ks ≡ length vs
    → zip ks (slice_set vs i v) ≡ with_value (zip ks vs) i v
zip-set [] [] i v h = refl
zip-set [] (w ∷ vs) i v h = absurd (omega arith)
zip-set (k ∷ ks) [] i v h = absurd (omega arith)
zip-set (k ∷ ks) (w ∷ vs) zero v h = refl
zip-set (k ∷ ks) (w ∷ vs) (suc i) v h = ap (λ es. (k, w) ∷ es) (zip-set ks vs i v (omega arith))

pub values-zip : {K V : Type 0} (ks : List K) (vs : List V) → length ks ≡ length vs
    → vs ≡ map (λ (e : K × V). e.1) (zip ks vs)
values-zip [] [] h = refl
values-zip [] (v ∷ vs) h = absurd (omega arith)
values-zip (k ∷ ks) [] h = absurd (omega arith)
values-zip (k ∷ ks) (v ∷ vs) h = ap (λ ws. v ∷ ws) (values-zip ks vs (omega arith))

-- ---- the specifiers of entries

pub specifiers-zip : {V : Type 0} (ks : List Parts) (vs : List V) → length ks ≡ length vs
    → specifiers (zip ks vs) ≡ map serialize ks
specifiers-zip [] [] h = refl
specifiers-zip [] (v ∷ vs) h = absurd (omega arith)
specifiers-zip (k ∷ ks) [] h = absurd (omega arith)
specifiers-zip (k ∷ ks) (v ∷ vs) h = ap (λ ts. serialize k ∷ ts) (specifiers-zip ks vs (omega arith))

-- a write leaves them
pub specifiers-with_value : {V : Type 0} (entries : List (Parts × V)) (n : ℕ) (v : V)
    → specifiers (with_value entries n v) ≡ specifiers entries
specifiers-with_value [] n v = refl
specifiers-with_value (e ∷ es) zero v = refl
specifiers-with_value (e ∷ es) (suc n) v = ap (λ ts. serialize e.0 ∷ ts) (specifiers-with_value es n v)

-- ---- numbers

-- the place of a URL among URLs is that of its text among their texts
pub position-texts : (ks : List Parts) (url : Parts) (i : ℕ)
    → position_from (url_eq url) i ks ≡ position_from (bytes_eq (serialize url)) i (map serialize ks)
position-texts [] url i = refl
position-texts (k ∷ ks) url i = rw (position-texts ks url (i + 1)) refl

pub number-zip : {V : Type 0} (ks : List Parts) (vs : List V) (url : Parts) → length ks ≡ length vs
    → position (url_eq url) ks ≡ number_of (zip ks vs) (serialize url)
number-zip ks vs url h =
    position_from-zero (url_eq url) ks ∙ position-texts ks url 0
    ∙ sym (position_from-zero (bytes_eq (serialize url)) (map serialize ks))
    ∙ ap (position (bytes_eq (serialize url))) (sym (specifiers-zip ks vs h))

-- what has no place isn't there
pub absent-position : {A : Type 0} (test : A → Bool) (i : ℕ) (xs : List A) → position_from test i xs ≡ None
    → list_any test xs ≡ false
absent-position test i [] h = refl
absent-position test i (x ∷ xs) h = by (test x) (absent-position test (i + 1) xs) h
  where
    by : (b : Bool) → (position_from test (i + 1) xs ≡ None → list_any test xs ≡ false)
        → cond b (Some i) (position_from test (i + 1) xs) ≡ None → (b || list_any test xs) ≡ false
    by true rest h = absurd cc
    by false rest h = rest h

-- a URL without a number goes last
pub pushed : {V : Type 0} (ks : List Parts) (vs : List V) (url : Parts) → length ks ≡ length vs
    → number_of (zip ks vs) (serialize url) ≡ None → insert_key url_eq ks url ≡ ks ++ url ∷ []
pushed ks vs url h none =
    rw (absent-position (url_eq url) 0 ks (sym (position_from-zero (url_eq url) ks) ∙ number-zip ks vs url h ∙ none))
    refl

-- ---- no specifier has two numbers

apart_texts : (k : Parts) (ks : List Parts) → AllByRecursion (λ y. url_eq k y ≡ false) ks
    → AllByRecursion (λ y. bytes_eq (serialize k) y ≡ false) (map serialize ks)
apart_texts k [] h = tt
apart_texts k (l ∷ ks) h = (h.0, apart_texts k ks h.1)

distinct_texts : (ks : List Parts) → IsDistinct url_eq ks → IsDistinct bytes_eq (map serialize ks)
unfolding IsDistinct
distinct_texts [] h = tt
distinct_texts (k ∷ ks) h = (apart_texts k ks h.0, distinct_texts ks h.1)

pub numbering : {V : Type 0} (ks : List Parts) (vs : List V) → length ks ≡ length vs → IsDistinct url_eq ks
    → IsNumbering (zip ks vs)
numbering ks vs h once = rw (specifiers-zip ks vs h) (distinct_texts ks once)

-- ---- a write by number

cond_again : {A : Type 0} (b : Bool) (x y z : A) → cond b x z ≡ cond b x (cond b y z)
cond_again true x y z = refl
cond_again false x y z = refl

cond_swap : {A : Type 0} (a b : Bool) (x y z : A) → (a ≡ true → b ≡ true → ⊥)
    → cond a x (cond b y z) ≡ cond b y (cond a x z)
cond_swap true true x y z h = absurd (h refl refl)
cond_swap true false x y z h = refl
cond_swap false b x y z h = refl

apart_at : (s : Specifier) (ts : List Specifier) (n : ℕ) (t : Specifier) → AllByRecursion (λ y. bytes_eq s y ≡ false) ts
    → slice_get ts n ≡ Some t → bytes_eq s t ≡ false
apart_at s [] n t h at = absurd cc
apart_at s (x ∷ ts) zero t h at = let same : x ≡ t = some_one x t at in ap (bytes_eq s) (sym same) ∙ h.0
  where
    some_one : (x y : Specifier) → Some x ≡ Some y → x ≡ y
    some_one x y e = cc
apart_at s (x ∷ ts) (suc n) t h at = apart_at s ts n t h.1 at

pub value_at-with_value : {V : Type 0} (entries : List (Parts × V)) (n : ℕ) (v : V) → IsNumbering entries
    → (s t : Specifier) → slice_get (specifiers entries) n ≡ Some s
    → value_at (with_value entries n v) t ≡ cond (bytes_eq t s) (Some v) (value_at entries t)
unfolding IsDistinct
value_at-with_value [] n v once s t at = absurd cc
value_at-with_value (e ∷ es) zero v once s t at =
    let same : serialize e.0 ≡ s = some_one (serialize e.0) s at in
    rw (← same) (cond_again (bytes_eq t (serialize e.0)) _ _ _)
  where
    some_one : (x y : Specifier) → Some x ≡ Some y → x ≡ y
    some_one x y h = cc
value_at-with_value (e ∷ es) (suc n) v once s t at =
    rw (value_at-with_value es n v once.1 s t at)
    (cond_swap (bytes_eq t (serialize e.0)) (bytes_eq t s) _ _ _ (λ a b. both a b))
  where
    both : bytes_eq t (serialize e.0) ≡ true → bytes_eq t s ≡ true → ⊥
    both a b =
        let apart : bytes_eq (serialize e.0) s ≡ false = apart_at (serialize e.0) (specifiers es) n s once.0 at in
        let same : t ≡ serialize e.0 = same_text t (serialize e.0) (sym a) in
        let equal : bytes_eq (serialize e.0) s ≡ true = ap (λ w. bytes_eq w s) (sym same) ∙ b in cc

-- ---- what the calls do

-- nothing has a number
pub numbering_new : {V : Type 0} (ks : List Parts) (vs : List V) → ks ≡ [] → vs ≡ []
    → (length ks ≡ length vs) × IsNumbering (zip ks vs)
unfolding IsDistinct
numbering_new ks vs h g = rw (h, g) (refl, tt)

-- other values
pub numbering_same : {V : Type 0} (ks : List Parts) (vs ws : List V) → length ks ≡ length vs → length ks ≡ length ws
    → IsNumbering (zip ks vs) → IsNumbering (zip ks ws)
numbering_same ks vs ws h g n =
    subst (IsDistinct bytes_eq) (specifiers-zip ks vs h ∙ sym (specifiers-zip ks ws g)) n

-- one more
pub numbering_push : {V : Type 0} (ks new : List Parts) (vs later : List V) (url : Parts) (v : V)
    → length ks ≡ length vs → number_of (zip ks vs) (serialize url) ≡ None
    → new ≡ insert_key url_eq ks url → later ≡ vs ++ v ∷ [] → IsDistinct url_eq new
    → ((length new ≡ length later) × IsNumbering (zip new later)) × (zip new later ≡ zip ks vs ++ (url, v) ∷ [])
numbering_push ks new vs later url v h none is more once =
    let grown : new ≡ ks ++ url ∷ [] = is ∙ pushed ks vs url h none in
    let long : length new ≡ length later =
    omega (arith, ap length grown, ap length more, length-append ks (url ∷ []), length-append vs (v ∷ [])) in
    ((long, numbering new later long once), rw (grown, more) (zip-push ks vs url v h))

-- the last is taken back
pub popped : {V : Type 0} (vs ws us : List V) (v : V) (o : Option V) → ws ≡ vs ++ v ∷ []
    → MatchOption o ((ws ≡ []) × (us ≡ [])) (λ last. ws ≡ us ++ last ∷ []) → us ≡ vs
popped vs ws us v None is h =
    absurd (omega (arith, ap length is, ap length h.0, length-append vs (v ∷ [])))
popped vs ws us v (Some last) is h = (same_from_push us vs last v (sym h ∙ is)).0
