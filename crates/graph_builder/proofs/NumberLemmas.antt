-- Numbers of specifiers, by the specifiers' texts.
use Rattle.std.proofs.Common.{◌≡◌, ◌<◌, ◌≤◌, ℕ, zero, suc, ◌+◌, Bool, true, false, cond, List, [], ◌∷◌, ◌++◌, length, drop, slice_get, refl, sym, ◌∙◌, ap, arith, Some, None, add-one}
use Rattle.std.specs.Prelude.{bytes_eq, option_map, option_and_then}
use Rattle.std.specs.Cmp.Lexicographic.{same_text}
use Rattle.std.proofs.lemmas.List.{map-append, drop-append-le}
use Rattle.url.specs.Parts.{Parts}
use Rattle.graph_tables.specs.specifier_table.Numbers as numbers
use Rattle.graph_tables.proofs.specifier_table_lemmas.NumbersLemmas.{specifiers-with_value}
use Rattle.graph_tables.proofs.specifier_table_lemmas.OrderLemmas.{number_at, entry_at, numbered_value, value_by_number}
use Rattle.graph_entry.specs.Specifier.{text_of}
use Rattle.graph_builder.specs.Reach.{Specifier}
use Rattle.graph_builder.specs.ByText.{value_at, keys_at, number_of}

-- the value of a specifier is the one with its number
pub value_of_number : {V : Type 0} (entries : List (Parts × V)) (s : Specifier)
    → value_at entries s ≡ option_and_then (numbered_value entries) (number_of entries s)
unfolding text_of
value_of_number entries s = value_by_number entries s

-- what has a number stands at its place
pub key_of_number : {V : Type 0} (entries : List (Parts × V)) (s : Specifier) (n : ℕ) → number_of entries s ≡ Some n
    → slice_get (keys_at entries) n ≡ Some s
unfolding text_of
key_of_number entries s n h = number_at entries s n h

pub entry_of_number : {V : Type 0} (entries : List (Parts × V)) (n : ℕ) (s : Specifier)
    → slice_get (keys_at entries) n ≡ Some s → (x : Parts × V) × (slice_get entries n ≡ Some x) × (text_of x.0 ≡ s)
unfolding text_of
entry_of_number entries n s h = entry_at entries n s h

-- what has no number has no value
pub absent : {V : Type 0} (entries : List (Parts × V)) (s : Specifier) → number_of entries s ≡ None
    → value_at entries s ≡ None
absent entries s h = value_of_number entries s ∙ ap (option_and_then (numbered_value entries)) h

-- the value of what has one is at its place
pub value_there : {V : Type 0} (entries : List (Parts × V)) (s : Specifier) (n : ℕ) → number_of entries s ≡ Some n
    → value_at entries s ≡ numbered_value entries n
value_there entries s n h = value_of_number entries s ∙ ap (option_and_then (numbered_value entries)) h

pub present : {V : Type 0} (entries : List (Parts × V)) (s : Specifier) (n : ℕ) → number_of entries s ≡ Some n
    → value_at entries s ≡ None → ⊥
present {V} entries s n h none =
    let x = entry_of_number entries n s (key_of_number entries s n h) in
    let some : value_at entries s ≡ Some x.0.1 =
    value_there entries s n h ∙ ap (option_map (λ (e : Parts × V). e.1)) x.1 in cc

-- a write by a number leaves the specifiers
pub keys-with_value : {V : Type 0} (entries : List (Parts × V)) (n : ℕ) (v : V)
    → keys_at (numbers.with_value entries n v) ≡ keys_at entries
unfolding text_of
keys-with_value entries n v = specifiers-with_value entries n v

-- ---- one more at the end

cond_swap : {A : Type 0} (a b : Bool) (x y z : A) → (a ≡ true → b ≡ true → ⊥)
    → cond a x (cond b y z) ≡ cond b y (cond a x z)
cond_swap true true x y z h = absurd (h refl refl)
cond_swap true false x y z h = refl
cond_swap false b x y z h = refl

pub value_at-push : {V : Type 0} (entries : List (Parts × V)) (u : Parts) (v : V) (s : Specifier) → text_of u ≡ s
    → value_at entries s ≡ None → (t : Specifier)
    → value_at (entries ++ (u, v) ∷ []) t ≡ cond (bytes_eq t s) (Some v) (value_at entries t)
value_at-push [] u v s same none t = ap (λ w. cond (bytes_eq t w) (Some v) None) same
value_at-push (e ∷ es) u v s same none t = by (bytes_eq s (text_of e.0)) refl none (value_at-push es u v s same)
  where
    by : (b : Bool) → bytes_eq s (text_of e.0) ≡ b → cond b (Some e.1) (value_at es s) ≡ None
        → (value_at es s ≡ None → (t : Specifier)
        → value_at (es ++ (u, v) ∷ []) t ≡ cond (bytes_eq t s) (Some v) (value_at es t))
        → value_at (e ∷ (es ++ (u, v) ∷ [])) t
        ≡ cond (bytes_eq t s) (Some v) (cond (bytes_eq t (text_of e.0)) (Some e.1) (value_at es t))
    by true is none rest = absurd cc
    by false is none rest =
        rw (rest none t)
        (cond_swap (bytes_eq t (text_of e.0)) (bytes_eq t s) (Some e.1) (Some v) (value_at es t)
        (λ a b. let same : bytes_eq s (text_of e.0) ≡ true =
        ap (λ w. bytes_eq w (text_of e.0)) (sym (same_text t s (sym b))) ∙ a in cc))

pub keys-push : {V : Type 0} (entries : List (Parts × V)) (u : Parts) (v : V) (s : Specifier) → text_of u ≡ s
    → keys_at (entries ++ (u, v) ∷ []) ≡ keys_at entries ++ s ∷ []
keys-push {V} entries u v s same =
    map-append (λ (e : Parts × V). text_of e.0) entries ((u, v) ∷ []) ∙ ap (λ w. keys_at entries ++ w ∷ []) same

-- the worklist gets it at its end
pub todo-push : (keys : List Specifier) (s : Specifier) (n : ℕ) → n ≤ length keys
    → drop n (keys ++ s ∷ []) ≡ drop n keys ++ s ∷ []
todo-push keys s n within = drop-append-le n keys (s ∷ []) within

-- ---- the queue

pub drop_next : (ts : List Specifier) (n : ℕ) → n < length ts
    → (s : Specifier) × (drop n ts ≡ s ∷ drop (n + 1) ts) × (slice_get ts n ≡ Some s)
drop_next [] n h = absurd (omega arith)
drop_next (x ∷ ts) zero h = (x, refl, refl)
drop_next (x ∷ ts) (suc n) h =
    let r = drop_next ts n (omega arith) in
    (r.0, r.1 ∙ ap (λ l. r.0 ∷ l) (rw (add-one, add-one) refl), r.2)

pub drop_none : (ts : List Specifier) (n : ℕ) → length ts ≤ n → drop n ts ≡ []
drop_none [] zero h = refl
drop_none [] (suc n) h = refl
drop_none (x ∷ ts) zero h = absurd (omega arith)
drop_none (x ∷ ts) (suc n) h = drop_none ts n (omega arith)

pub within : {A : Type 0} (xs : List A) (n : ℕ) (x : A) → slice_get xs n ≡ Some x → n < length xs
within [] n x h = absurd cc
within (y ∷ ys) zero x h = omega arith
within (y ∷ ys) (suc n) x h = omega (arith, within ys n x h)

pub slice_get-append : {A : Type 0} (xs ys : List A) (n : ℕ) (x : A) → slice_get xs n ≡ Some x
    → slice_get (xs ++ ys) n ≡ Some x
slice_get-append [] ys n x h = absurd cc
slice_get-append (z ∷ xs) ys zero x h = h
slice_get-append (z ∷ xs) ys (suc n) x h = slice_get-append xs ys n x h

pub key_within : {V : Type 0} (entries : List (Parts × V)) (n : ℕ) → n < length entries
    → (s : Specifier) × (slice_get (keys_at entries) n ≡ Some s)
key_within [] n h = absurd (omega arith)
key_within (e ∷ es) zero h = (text_of e.0, refl)
key_within (e ∷ es) (suc n) h = key_within es n (omega arith)
