-- The numbers of specifiers, by the specifiers' bytes.
use Rattle.std.proofs.Common.{◌≡◌, ◌<◌, ◌+◌, ℕ, zero, suc, Bool, true, false, cond, List, [], ◌∷◌, map, length, take, slice_get, refl, sym, ◌∙◌, ap, arith, Option, Some, None, add-one}
use Rattle.std.specs.Prelude.{bytes_eq, option_map, option_and_then, is_some}
use Rattle.std.specs.List.{position_from, cons_option, AllByRecursion, IsDistinct}
use Rattle.std.specs.Map.{keys_of}
use Rattle.std.specs.List.Sorted.{IsStrictlySortedBy}
use Rattle.std.specs.Cmp.Lexicographic.{nat_list_eq_equiv, same_text}
use Rattle.std.proofs.lemmas.List.{length-map}
use Rattle.std.proofs.lemmas.Map.Made.{length-le_from_is_member}
use Rattle.std.proofs.lemmas.Iterator.Adapters.{position_from-zero}
use Rattle.url.specs.Parts.{Parts, serialize}
use Rattle.graph_tables.specs.specifier_table.Numbers.{Specifier, specifiers, number_of, value_at, at_numbers, IsNumbering, IsAscending, IsByBytes, IsPut, HasNumbers}
use Rattle.graph_tables.proofs.specifier_table_lemmas.ByTextLemmas.{url_cmp, has-keys_at, sorted-keys_at, distinct_sorted}

-- the place of a specifier among the first, where each stands once
place_suc : (ts : List Specifier) (i n : ℕ) (s t : Specifier) → IsDistinct bytes_eq ts → slice_get ts n ≡ Some s
    → position_from (bytes_eq t) i (take (suc n) ts)
    ≡ cond (bytes_eq t s) (Some (i + n)) (position_from (bytes_eq t) i (take n ts))
unfolding IsDistinct
place_suc [] i n s t once at = absurd cc
place_suc (x ∷ ts) i zero s t once at =
    let same : x ≡ s = some_one x s at in
    ap (λ w. cond (bytes_eq t w) (Some i) None) same ∙ ap (λ (m : ℕ). cond (bytes_eq t s) (Some m) None) (omega arith)
  where
    some_one : (x y : Specifier) → Some x ≡ Some y → x ≡ y
    some_one x y e = cc
place_suc (x ∷ ts) i (suc n) s t once at =
    by (bytes_eq t x) refl (bytes_eq t s) refl (place_suc ts (i + 1) n s t once.1 at)
  where
    some_one : (x y : Specifier) → Some x ≡ Some y → x ≡ y
    some_one x y e = cc

    apart : (ys : List Specifier) (m : ℕ) → AllByRecursion (λ y. bytes_eq x y ≡ false) ys → slice_get ys m ≡ Some s
        → bytes_eq x s ≡ false
    apart [] m h g = absurd cc
    apart (y ∷ ys) zero h g = ap (bytes_eq x) (sym (some_one y s g)) ∙ h.0
    apart (y ∷ ys) (suc m) h g = apart ys m h.1 g

    by : (a : Bool) → bytes_eq t x ≡ a → (b : Bool) → bytes_eq t s ≡ b
        → position_from (bytes_eq t) (i + 1) (take (suc n) ts)
        ≡ cond (bytes_eq t s) (Some ((i + 1) + n)) (position_from (bytes_eq t) (i + 1) (take n ts))
        → cond (bytes_eq t x) (Some i) (position_from (bytes_eq t) (i + 1) (take (suc n) ts))
        ≡ cond (bytes_eq t s) (Some (i + suc n))
        (cond (bytes_eq t x) (Some i) (position_from (bytes_eq t) (i + 1) (take n ts)))
    by true e true f rest = absurd
        (let same : t ≡ x = same_text t x (sym e) in
        let one : bytes_eq x s ≡ true = ap (λ w. bytes_eq w s) (sym same) ∙ f in
        let other = apart ts n once.0 at in cc)
    by true e false f rest = rw (e, f) refl
    by false e true f rest =
        rw (e, f) (rest ∙ rw f (ap (λ (m : ℕ). Some m) (omega arith)))
    by false e false f rest = rw (e, f) (rest ∙ rw f refl)

map-take : {A B : Type 0} (f : A → B) (n : ℕ) (xs : List A) → map f (take n xs) ≡ take n (map f xs)
map-take f zero [] = refl
map-take f (suc n) [] = refl
map-take f zero (x ∷ xs) = refl
map-take f (suc n) (x ∷ xs) = ap (λ l. f x ∷ l) (map-take f n xs)

pub number-more : {V : Type 0} (entries : List (Parts × V)) (n : ℕ) (s t : Specifier) → IsNumbering entries
    → slice_get (specifiers entries) n ≡ Some s
    → number_of (take (n + 1) entries) t ≡ cond (bytes_eq t s) (Some n) (number_of (take n entries) t)
number-more {V} entries n s t once at =
    rw (
      add-one,
      position_from-zero (bytes_eq t) (specifiers (take (suc n) entries)),
      position_from-zero (bytes_eq t) (specifiers (take n entries)),
      map-take (λ (e : Parts × V). serialize e.0) (suc n) entries,
      map-take (λ (e : Parts × V). serialize e.0) n entries,
    )
    (place_suc (specifiers entries) 0 n s t once at
    ∙ ap (λ (m : ℕ). cond (bytes_eq t s) (Some m) (position_from (bytes_eq t) 0 (take n (specifiers entries))))
    (omega arith))

key_at : {V : Type 0} (entries : List (Parts × V)) (n : ℕ) (u : Parts)
    → Some u ≡ option_map (λ (e : Parts × V). e.0) (slice_get entries n)
    → slice_get (specifiers entries) n ≡ Some (serialize u)
key_at [] n u h = absurd cc
key_at (e ∷ es) zero u h = ap (λ w. Some (serialize w)) (one e.0 u (sym h))
  where
    one : (x y : Parts) → Some x ≡ Some y → x ≡ y
    one x y g = cc
key_at (e ∷ es) (suc n) u h = key_at es n u h

-- nothing came yet
pub numbers_none : {V : Type 0} (entries : List (Parts × V)) → HasNumbers (take 0 entries) []
numbers_none [] = λ t. refl
numbers_none (e ∷ es) = λ t. refl

-- one more is put
pub numbers_more : {V : Type 0} (entries : List (Parts × V)) (old new : List (Parts × ℕ)) (n : ℕ) (u v : Parts)
    → IsNumbering entries → Some u ≡ option_map (λ (e : Parts × V). e.0) (slice_get entries n) → v ≡ u
    → IsPut old new (serialize v) n → HasNumbers (take n entries) old → HasNumbers (take (n + 1) entries) new
numbers_more entries old new n u v once at copy put so_far = λ t.
    put.at t ∙ ap (λ w. cond (bytes_eq t (serialize w)) (Some n) (value_at old t)) copy
    ∙ ap (λ o. cond (bytes_eq t (serialize u)) (Some n) o) (so_far t)
    ∙ sym (number-more entries n (serialize u) t once (key_at entries n u at))

-- ---- the entries in that order

some_one : {A : Type 0} (x y : A) → Some x ≡ Some y → x ≡ y
some_one x y e = cc

-- what is found stands there
position_at : (s : Specifier) (i n : ℕ) (ts : List Specifier) → position_from (bytes_eq s) i ts ≡ Some n
    → (k : ℕ) × (n ≡ i + k) × (slice_get ts k ≡ Some s)
position_at s i n [] h = absurd cc
position_at s i n (x ∷ ts) h = by (bytes_eq s x) refl (position_at s (i + 1) n ts) h
  where
    by : (b : Bool) → bytes_eq s x ≡ b
        → (position_from (bytes_eq s) (i + 1) ts ≡ Some n → (k : ℕ) × (n ≡ (i + 1) + k) × (slice_get ts k ≡ Some s))
        → cond b (Some i) (position_from (bytes_eq s) (i + 1) ts) ≡ Some n
        → (k : ℕ) × (n ≡ i + k) × (slice_get (x ∷ ts) k ≡ Some s)
    by true e rest h = (zero, omega (arith, some_one i n h), ap (λ w. Some w) (sym (same_text s x (sym e))))
    by false e rest h = let r = rest h in (suc r.0, omega (arith, r.1), r.2)

pub number_at : {V : Type 0} (entries : List (Parts × V)) (s : Specifier) (n : ℕ) → number_of entries s ≡ Some n
    → slice_get (specifiers entries) n ≡ Some s
number_at entries s n h =
    let r = position_at s 0 n (specifiers entries)
    (sym (position_from-zero (bytes_eq s) (specifiers entries)) ∙ h) in
    ap (slice_get (specifiers entries)) (omega (arith, r.1)) ∙ r.2

pub slice_get-specifiers : {V : Type 0} (entries : List (Parts × V)) (n : ℕ)
    → slice_get (specifiers entries) n ≡ option_map (λ (e : Parts × V). serialize e.0) (slice_get entries n)
slice_get-specifiers [] n = refl
slice_get-specifiers (e ∷ es) zero = refl
slice_get-specifiers (e ∷ es) (suc n) = slice_get-specifiers es n

absent_apart : {V : Type 0} (entries : List (Parts × V)) (s : Specifier)
    → AllByRecursion (λ y. bytes_eq s y ≡ false) (specifiers entries) → value_at entries s ≡ None
absent_apart [] s h = refl
absent_apart (e ∷ es) s h = rw (h.0, absent_apart es s h.1) refl

-- each number is that of its specifier
abbrev pub AreAt : {V : Type 0} → List (Parts × V) → List (Parts × ℕ) → Type 0
AreAt entries places = AllByRecursion (λ e. slice_get (specifiers entries) e.1 ≡ Some (serialize e.0)) places

are_at : {V : Type 0} (entries : List (Parts × V)) (places : List (Parts × ℕ)) → IsDistinct bytes_eq (specifiers places)
    → ((t : Specifier) (n : ℕ) → value_at places t ≡ Some n → slice_get (specifiers entries) n ≡ Some t)
    → AreAt entries places
unfolding IsDistinct
are_at entries [] once h = tt
are_at entries (e ∷ es) once h = (
  h (serialize e.0) e.1 (rw (nat_list_eq_equiv.refl (serialize e.0)) refl),
  are_at entries es once.1 (λ t n g. h t n (later t n (bytes_eq t (serialize e.0)) refl g)),
)
  where
    later : (t : Specifier) (n : ℕ) (b : Bool) → bytes_eq t (serialize e.0) ≡ b → value_at es t ≡ Some n
        → cond b (Some e.1) (value_at es t) ≡ Some n
    later t n false f g = g
    later t n true f g =
        let none : value_at es t ≡ None =
        ap (value_at es) (same_text t (serialize e.0) (sym f)) ∙ absent_apart es (serialize e.0) once.0 in
        absurd cc

-- the entry with a number has the specifier of it
pub entry_at : {V : Type 0} (entries : List (Parts × V)) (n : ℕ) (s : Specifier) → slice_get (specifiers entries) n ≡ Some s
    → (x : Parts × V) × (slice_get entries n ≡ Some x) × (serialize x.0 ≡ s)
entry_at {V} entries n s h = by (slice_get entries n) refl (sym (slice_get-specifiers entries n) ∙ h)
  where
    by : (o : Option (Parts × V)) → slice_get entries n ≡ o → option_map (λ (e : Parts × V). serialize e.0) o ≡ Some s
        → (x : Parts × V) × (slice_get entries n ≡ Some x) × (serialize x.0 ≡ s)
    by None e g = absurd cc
    by (Some x) e g = (x, e, some_one (serialize x.0) s g)

specifiers-at_numbers : {V : Type 0} (entries : List (Parts × V)) (places : List (Parts × ℕ)) → AreAt entries places
    → specifiers (at_numbers entries (map (λ (e : Parts × ℕ). e.1) places)) ≡ specifiers places
specifiers-at_numbers entries [] h = refl
specifiers-at_numbers {V} entries (e ∷ es) h =
    let x = entry_at entries e.1 (serialize e.0) h.0 in
    ap (λ o. specifiers (cons_option o (at_numbers entries (map (λ (f : Parts × ℕ). f.1) es)))) x.1
    ∙ ap (λ s. s ∷ specifiers (at_numbers entries (map (λ (f : Parts × ℕ). f.1) es))) x.2
    ∙ ap (λ ts. serialize e.0 ∷ ts) (specifiers-at_numbers entries es h.1)

-- the value of the entry with a number
abbrev pub numbered_value : {V : Type 0} → List (Parts × V) → ℕ → Option V
numbered_value {V} entries n = option_map (λ (e : Parts × V). e.1) (slice_get entries n)

value_at-at_numbers : {V : Type 0} (entries : List (Parts × V)) (places : List (Parts × ℕ)) (t : Specifier)
    → AreAt entries places
    → value_at (at_numbers entries (map (λ (e : Parts × ℕ). e.1) places)) t
    ≡ option_and_then (numbered_value entries) (value_at places t)
value_at-at_numbers entries [] t h = refl
value_at-at_numbers {V} entries (e ∷ es) t h =
    let x = entry_at entries e.1 (serialize e.0) h.0 in
    ap (λ o. value_at (cons_option o (at_numbers entries (map (λ (f : Parts × ℕ). f.1) es))) t) x.1
    ∙ ap (λ s. cond (bytes_eq t s) (Some x.0.1) (value_at (at_numbers entries (map (λ (f : Parts × ℕ). f.1) es)) t)) x.2
    ∙ by (bytes_eq t (serialize e.0)) x.0 x.1 (value_at-at_numbers entries es t h.1)
  where
    by : (b : Bool) (x : Parts × V) → slice_get entries e.1 ≡ Some x
        → value_at (at_numbers entries (map (λ (f : Parts × ℕ). f.1) es)) t
        ≡ option_and_then (numbered_value entries) (value_at es t)
        → cond b (Some x.1) (value_at (at_numbers entries (map (λ (f : Parts × ℕ). f.1) es)) t)
        ≡ option_and_then (numbered_value entries) (cond b (Some e.1) (value_at es t))
    by true x is rest = sym (ap (option_map (λ (f : Parts × V). f.1)) is)
    by false x is rest = rest

value_from : {V : Type 0} (entries : List (Parts × V)) (t : Specifier) (i : ℕ) (g : ℕ → Option V)
    → ((k : ℕ) → g (i + k) ≡ numbered_value entries k)
    → value_at entries t ≡ option_and_then g (position_from (bytes_eq t) i (specifiers entries))
value_from [] t i g h = refl
value_from {V} (e ∷ es) t i g h =
    by (bytes_eq t (serialize e.0)) (value_from es t (i + 1) g (λ k. ap g (omega arith) ∙ h (suc k)))
  where
    by : (b : Bool) → value_at es t ≡ option_and_then g (position_from (bytes_eq t) (i + 1) (specifiers es))
        → cond b (Some e.1) (value_at es t)
        ≡ option_and_then g (cond b (Some i) (position_from (bytes_eq t) (i + 1) (specifiers es)))
    by true rest = sym (h zero) ∙ ap g (omega arith)
    by false rest = rest

-- the value of a specifier is the one with its number
pub value_by_number : {V : Type 0} (entries : List (Parts × V)) (t : Specifier)
    → value_at entries t ≡ option_and_then (numbered_value entries) (number_of entries t)
value_by_number entries t =
    value_from entries t 0 (numbered_value entries) (λ k. ap (numbered_value entries) (omega arith))
    ∙ ap (option_and_then (numbered_value entries)) (sym (position_from-zero (bytes_eq t) (specifiers entries)))

within : {A : Type 0} (xs : List A) (n : ℕ) (x : A) → slice_get xs n ≡ Some x → n < length xs
within [] n x h = absurd cc
within (y ∷ ys) zero x h = omega arith
within (y ∷ ys) (suc n) x h = omega (arith, within ys n x h)

each_within : {V : Type 0} (entries : List (Parts × V)) (places : List (Parts × ℕ)) → AreAt entries places → (i n : ℕ)
    → slice_get (map (λ (e : Parts × ℕ). e.1) places) i ≡ Some n → n < length entries
each_within entries [] h i n g = absurd cc
each_within {V} entries (e ∷ es) h zero n g =
    omega (
      arith,
      within (specifiers entries) e.1 (serialize e.0) h.0,
      some_one e.1 n g,
      length-map entries (λ (f : Parts × V). serialize f.0),
    )
each_within entries (e ∷ es) h (suc i) n g = each_within entries es h.1 i n g

same_length : {V : Type 0} (xs ys : List (Parts × V)) → IsDistinct bytes_eq (specifiers xs)
    → IsDistinct bytes_eq (specifiers ys)
    → ((t : Specifier) → value_at xs t ≡ value_at ys t) → length xs ≡ length ys
same_length {V} xs ys once also same =
    omega (
      arith,
      length-map xs (λ (f : Parts × V). serialize f.0),
      length-map ys (λ (f : Parts × V). serialize f.0),
      length-le_from_is_member nat_list_eq_equiv (specifiers xs) (specifiers ys) once
          (λ q h. has-keys_at ys q ∙ sym (ap is_some (same q)) ∙ sym (has-keys_at xs q) ∙ h),
      length-le_from_is_member nat_list_eq_equiv (specifiers ys) (specifiers xs) also
          (λ q h. has-keys_at xs q ∙ ap is_some (same q) ∙ sym (has-keys_at ys q) ∙ h),
    )

pub is_by_bytes : {V : Type 0} (entries : List (Parts × V)) (places : List (Parts × ℕ)) (order : List ℕ)
    → IsNumbering entries → IsStrictlySortedBy url_cmp (keys_of places) → HasNumbers entries places
    → order ≡ map (λ (e : Parts × ℕ). e.1) places → IsByBytes entries order
is_by_bytes {V} entries places order once sorted numbers is =
    let ascends : IsAscending places = sorted-keys_at places sorted in
    let at : AreAt entries places =
    are_at entries places (distinct_sorted (specifiers places) ascends)
    (λ t n h. number_at entries t n (sym (numbers t) ∙ h)) in
    let same_specifiers = specifiers-at_numbers entries places at in
    let ascending : IsAscending (at_numbers entries (map (λ (e : Parts × ℕ). e.1) places)) =
    rw same_specifiers ascends in
    let same : (t : Specifier)
    → value_at (at_numbers entries (map (λ (e : Parts × ℕ). e.1) places)) t ≡ value_at entries t =
    (λ t. value_at-at_numbers entries places t at ∙ ap (option_and_then (numbered_value entries)) (numbers t)
    ∙ sym (value_by_number entries t)) in
    rw is (record {
      ascending = ascending;
      same = same;
      counted = same_length (at_numbers entries (map (λ (e : Parts × ℕ). e.1) places)) entries
          (distinct_sorted (specifiers (at_numbers entries (map (λ (e : Parts × ℕ). e.1) places))) ascending) once same;
      each = each_within entries places at;
    })
